-- What is listed is what is met: a visited key is added to both at once. By induction on the lists; assumes nothing.
use Prim.Native.Nat.{ℕ, ◌+◌, ◌<◌}
use mathlib.Core.Path.{◌≡◌, refl, sym, ap, ◌∙◌}
use mathlib.Core.Logic.{◌≢◌, ◌⊎◌, inl, inr}
use mathlib.Core.Bool.{true, false}
use mathlib.Core.List.{[], ◌∷◌, ◌++◌}
use native.Mathlib.Omega.{arith}
use native.Mathlib.Numerals.{add-one}
use native.Mathlib.Decide.{dec_lt}
use lib.Dec.{eqb}
use lib.ListN.{length, get_or, set, take, replicate, length-set, get_or-replicate, get_or-eq_default}
use lib.Seq.{get_or-set_same, get_or-set_other, take-suc-set}
use borrow.Author.Tests.{eq-eqb, ne_eqb, eqb-true, eqb-false}
use Rattle.std.proofs.lemmas.Bool.{both_ways}
use Rattle.protocol.specs.Words.{one, times}
use Rattle.unbroken.proofs.Laws.Counting.{times_last}
use Rattle.unbroken.proofs.Laws.Tests.{by_test}
use Rattle.protocol.specs.Walk.{Met, added, unmet}
use Rattle.reaches.specs.Tally.{Tally}
use Rattle.reaches.proofs.Counted.{room, tally_added, tally_unmet}

abbrev pub IsMet : Met → ℕ → Type 0
IsMet w i = get_or w.met i false ≡ true

-- a key that is met stands once in the list, and no other does
pub record Sound (w : Met) : Type 0 where
  pub tally : Tally w
  pub long : length w.keys ≡ 16
  pub listed : (i : ℕ) → times i (take w.count w.keys) ≡ one (get_or w.met i false)

pub same_or : {A : Type 0} (i k : ℕ) → (i ≡ k → A) → (i ≢ k → A) → A
same_or i k y n = by_test (eqb i k) (λ e. y (eqb-true i k e)) (λ e. n (eqb-false i k e))

-- a key that was not met is added
pub record Added (k : ℕ) (w w' : Met) : Type 0 where
  pub sound : Sound w'
  pub grows : (i : ℕ) → IsMet w i → IsMet w' i
  pub this : IsMet w' k
  pub from : (i : ℕ) → IsMet w' i → IsMet w i ⊎ (k ≡ i)

pub adds : (k : ℕ) (w : Met) → Sound w → k < 16 → get_or w.met k false ≡ false → Added k w (added w k)
adds k w s b e =
    let here : k < length w.met = omega (arith, s.tally.long) in
    let fits : w.count < length w.keys = omega (arith, s.long, room s.tally b e) in
    let other : (i : ℕ) → i ≢ k → get_or (set w.met k true) i false ≡ get_or w.met i false = λ i n. get_or-set_other w.met k i true false n in
    let this : get_or (set w.met k true) k false ≡ true = get_or-set_same w.met k true false here in
    let more : take (w.count + 1) (set w.keys w.count k) ≡ take w.count w.keys ++ (k ∷ []) = rw add-one (take-suc-set w.keys w.count k fits) in
    let count : (i : ℕ) → times i (take (w.count + 1) (set w.keys w.count k)) ≡ one (get_or w.met i false) + one (eqb k i) =
    λ i. ap (times i) more ∙ times_last i k (take w.count w.keys) ∙ ap (λ (n : ℕ). n + one (eqb k i)) (s.listed i) in
    record {
      sound = record {
        tally = tally_added w k s.tally b e;
        long = length-set w.keys w.count k ∙ s.long;
        listed = λ i. same_or i k
            (λ q. count i ∙ rw (q, e, eq-eqb k k refl, this))
            (λ n. count i ∙ rw (ne_eqb k i (λ q. n (sym q)), other i n) (omega arith));
      };
      grows = λ i h. same_or i k (λ q. absurd (both_ways (get_or w.met i false) (rw q e) h)) (λ n. other i n ∙ h);
      this = this;
      from = λ i h. same_or i k (λ q. inr (sym q)) (λ n. inl (sym (other i n) ∙ h));
    }

-- nothing is met at first
pub none_met : (i : ℕ) → get_or unmet.met i false ≡ false
none_met i = elim (dec_lt i 16) [ yes b ↦ get_or-replicate 16 i false false b | no b ↦ get_or-eq_default (replicate 16 false) false {n = i} (omega arith) ]

pub sound_unmet : Sound unmet
unfolding times
sound_unmet = record { tally = tally_unmet; long = refl; listed = λ i. rw (none_met i) }
