-- The bytes of one step: where it was written it is read, and what was read is written again. The kinds are walked here, both ways.
-- Assumes nothing.
use Rattle.std.specs.Prelude.{Some}
use Prim.Native.Nat.{ℕ, zero, suc, ◌+◌, ◌*◌, ◌/◌, ◌%◌, ◌≤◌, ◌<◌}
use mathlib.Core.Path.{◌≡◌, refl}
use mathlib.Core.Bool.{Bool, true, false, and-eq-true_iff}
use mathlib.Core.List.{List, [], ◌∷◌, ◌++◌}
use native.Mathlib.Omega.{arith}
use native.Mathlib.Nat.{add_assoc}
use lib.Dec.{ltb, eqb}
use lib.ListN.{length, get_or, drop, length-append, get_or-eq_default}
use lib.Seq.{get_or-drop}
use lib.Pow.{are_bytes}
use borrow.Author.Tests.{ltb-true, ltb-false, lt-leb, eqb-false, eqb-true, ne_eqb}
use Rattle.std.proofs.Common.{rules}
use Rattle.protocol.specs.declared.Step.{Step}
use Rattle.protocol.specs.Book.{byte, widths, width_of, repair_made, short_made, step_made, read_step}
use Rattle.protocol.specs.Write.{written}

-- where a step was written, it is read
read_at : (s : List ℕ) (at kind width : ℕ) → byte s at ≡ kind → width_of kind ≡ width → 1 ≤ width → at + width < length s → read_step s at ≡ Some (step_made s kind (at + 1), at + 1 + width)
unfolding read_step
read_at s at kind width b w one fits =
    rw (b, w, lt-leb (length s) at (omega arith), ne_eqb width 0 (omega arith), lt-leb (length s) (at + width) fits)

made_at : (s : List ℕ) (at kind : ℕ) → step_made s kind (at + 1) ≡ step_made (drop at s) kind 1
unfolding step_made short_made repair_made
made_at s at kind = search (rules, get_or-drop)

module _ (s : List ℕ) (at : ℕ) (rest : List ℕ) where
  there : (x : Step) (kind width : ℕ) → drop at s ≡ written x ++ rest → at + length (written x ++ rest) ≡ length s → get_or (written x ++ rest) 0 0 ≡ kind → width_of kind ≡ width → 1 ≤ width
      → length (written x) ≡ suc width → step_made (written x ++ rest) kind 1 ≡ x → read_step s at ≡ Some (x, at + length (written x))
  there x kind width e f g h i j k = search (rules, get_or-drop, length-append, read_at, made_at)

  word_again : (x : ℕ) → (x % 256 + x / 256 % 256 * 256) + (x / 65536 % 256 + x / 16777216 * 256) * 65536 ≡ x
  word_again x = omega arith

  causes_again : (x : ℕ) → x % 256 + x / 256 * 256 ≡ x
  causes_again x = omega arith

  pub step_there : (x : Step) → drop at s ≡ written x ++ rest → at + length (written x ++ rest) ≡ length s → read_step s at ≡ Some (x, at + length (written x))
  unfolding step_made short_made repair_made width_of
  step_there x e f = search (rules, there, word_again, causes_again)

pub byte_low : (s : List ℕ) → are_bytes s ≡ true → (i : ℕ) → byte s i < 256
byte_low [] h i = omega arith
byte_low (b ∷ s) h zero = ltb-true b 256 ((and-eq-true_iff (ltb b 256) (are_bytes s)).0 h).0
byte_low (b ∷ s) h (suc i) = byte_low s ((and-eq-true_iff (ltb b 256) (are_bytes s)).0 h).1 i

-- n bytes from i
abbrev pub from : List ℕ → ℕ → ℕ → List ℕ
from s i zero = []
from s i (suc n) = byte s i ∷ from s (i + 1) n

-- what holds of k, k + 1, .., k + n holds of each number between them
abbrev Each : (ℕ → Type 0) → ℕ → ℕ → Type 0
Each P k zero = P k
Each P k (suc n) = P k × Each P (suc k) n

each : (P : ℕ → Type 0) (k n : ℕ) → Each P k n → (i : ℕ) → k ≤ i → i ≤ k + n → P i
each P k zero p i a b = let e : i ≡ k = omega arith in rw e p
each P k (suc n) p i a b = go (each P (suc k) n p.1 i) (eqb i k) refl
  where
    go : (suc k ≤ i → i ≤ suc k + n → P i) → (t : Bool) → eqb i k ≡ t → P i
    go f true e = rw (eqb-true i k e) p.0
    go f false e = let d : i ≡ k → ⊥ = eqb-false i k e in f (omega arith) (omega arith)

-- a kind that has fields is one of eighteen
width_behind : (k : ℕ) → 18 < k → width_of k ≡ 0
unfolding width_of
width_behind k h = get_or-eq_default widths 0 h

kind_low : (k : ℕ) → (width_of k ≡ 0 → ⊥) → (1 ≤ k) × (k ≤ 18)
unfolding width_of
kind_low k e = search (rules, width_behind, ltb-true, ltb-false)

-- two and four bytes, low first, come back
module _ (a b c d : ℕ) (ha : a < 256) (hb : b < 256) (hc : c < 256) (hd : d < 256) where
  d0 : ((a + b * 256) + (c + d * 256) * 65536) % 256 ≡ a
  d0 = omega arith

  d1 : ((a + b * 256) + (c + d * 256) * 65536) / 256 % 256 ≡ b
  d1 = omega arith

  d2 : ((a + b * 256) + (c + d * 256) * 65536) / 65536 % 256 ≡ c
  d2 = omega arith

  d3 : ((a + b * 256) + (c + d * 256) * 65536) / 16777216 ≡ d
  d3 = omega arith

  pub c0 : (a + b * 256) % 256 ≡ a
  c0 = omega arith

  pub c1 : (a + b * 256) / 256 ≡ b
  c1 = omega arith

-- a step that was made of bytes, written again, is those bytes
module _ (s : List ℕ) (bs : are_bytes s ≡ true) (i : ℕ) where
  abbrev Same : ℕ → Type 0
  Same k = written (step_made s k i) ≡ k ∷ from s i (width_of k)

  send_same : Same 1
  unfolding step_made width_of
  send_same = search (rules, byte_low, d0, d1, d2, d3, c0, c1, add_assoc)

  pub step_same : (k : ℕ) → (width_of k ≡ 0 → ⊥) → Same k
  unfolding step_made short_made repair_made width_of
  step_same k h =
      each Same 1 17
      (send_same, (refl, (refl, (refl, (refl, (simp add_assoc, (simp add_assoc, (refl, (refl, (refl, (simp add_assoc, (simp add_assoc, (refl, (simp add_assoc, (refl, (refl, (refl, simp add_assoc)))))))))))))))))
      k (kind_low k h).0 (kind_low k h).1
