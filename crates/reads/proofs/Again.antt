-- The bytes of a book have one reading: its rows and each of its steps, written again, are the bytes that were read, so the whole is.
-- Assumes nothing.
use Rattle.std.specs.Prelude.{Some, None, Option}
use Prim.Native.Nat.{ℕ, zero, suc, ◌+◌, ◌*◌, ◌/◌, ◌%◌, ◌≤◌, ◌<◌}
use mathlib.Core.Path.{◌≡◌, refl, sym, ap, ◌∙◌}
use mathlib.Core.Bool.{Bool, true, false, ◌||◌, false≢true}
use mathlib.Core.List.{List, [], ◌∷◌, ◌++◌, append_assoc}
use native.Mathlib.Omega.{arith}
use native.Mathlib.Numerals.{add-one}
use lib.Dec.{leb, eqb}
use lib.ListN.{length, drop}
use lib.Seq.{drop-cons, drop-length}
use lib.Pow.{are_bytes}
use borrow.Author.Tests.{leb-false, eqb-false, eqb-true}
use Rattle.protocol.specs.Words.{pick, table}
use Rattle.protocol.specs.declared.Step.{Step}
use Rattle.protocol.specs.Book.{byte, low16, width_of, step_made, read_step, on_read, valid_from, steps_from, home_read, list_read, actors_read, start_of, count_of, well_formed, reading_of}
use Rattle.protocol.specs.Run.{steps_read}
use Rattle.protocol.specs.Write.{written, written_steps, written_rows, written_book}
use Rattle.unbroken.proofs.Laws.Every.{length_table}
use Rattle.reads.proofs.Step.{byte_low, from, step_same, c0, c1}
use Rattle.reads.proofs.Formed.{valid_all, start_fits, count_steps}
use Rattle.reads.specs.Reading.{ReadsAlike, WritesAgain, OneReading}

pub reads_alike : ReadsAlike
reads_alike s t e = ap reading_of e

drop_from : (s : List ℕ) (i n : ℕ) → i + n ≤ length s → drop i s ≡ from s i n ++ drop (i + n) s
drop_from s i zero h = let e : i + 0 ≡ i = omega arith in rw e
drop_from s i (suc n) h =
    let b : i < length s = omega arith in
    let e : i + suc n ≡ (i + 1) + n = omega arith in
    drop-cons s i 0 b ∙ ap (λ (l : List ℕ). byte s i ∷ l) (rw (← add-one, e) (drop_from s (i + 1) n (omega arith)))

-- what a step that was read says of the bytes
pub record Found (s : List ℕ) (at : ℕ) (step : Step) (behind : ℕ) : Type 0 where
  pub here : at < length s
  pub wide : width_of (byte s at) ≡ 0 → ⊥
  pub fits : at + width_of (byte s at) < length s
  pub made : step_made s (byte s at) (at + 1) ≡ step
  pub next : behind ≡ at + 1 + width_of (byte s at)

picked : (P : Type 0) (b₁ b₂ b₃ : Bool) (x step : Step) (y c : ℕ) → (b₁ ≡ false → b₂ ≡ false → b₃ ≡ false → x ≡ step → y ≡ c → P)
    → ◌≡◌ {A = Option (Step × ℕ)} (pick b₁ None (pick (b₂ || b₃) None (Some (x, y)))) (Some (step, c)) → P
picked P true b₂ b₃ x step y c f e = let z : ◌≡◌ {A = ℕ} 0 1 = cc in let w : ⊥ = omega arith in absurd w
picked P false true b₃ x step y c f e = let z : ◌≡◌ {A = ℕ} 0 1 = cc in let w : ⊥ = omega arith in absurd w
picked P false false true x step y c f e = let z : ◌≡◌ {A = ℕ} 0 1 = cc in let w : ⊥ = omega arith in absurd w
picked P false false false x step y c f e =
    let p : ◌≡◌ {A = Step × ℕ} (x, y) (step, c) = cc in
    f refl refl refl (ap (λ q. q.0) p) (ap (λ q. q.1) p)

pub found : (s : List ℕ) (at : ℕ) (step : Step) (behind : ℕ) → read_step s at ≡ Some (step, behind) → Found s at step behind
unfolding read_step
found s at step behind e =
    let k : ℕ = byte s at in
    picked (Found s at step behind) (leb (length s) at) (eqb (width_of k) 0) (leb (length s) (at + width_of k)) (step_made s k (at + 1)) step (at + 1 + width_of k) behind
    (λ p q r m n. record { here = leb-false _ _ p; wide = eqb-false _ _ q; fits = leb-false _ _ r; made = m; next = sym n }) e

-- the bytes of a step that was read, and the rest
step_again : (s : List ℕ) → are_bytes s ≡ true → (at : ℕ) (step : Step) (behind : ℕ) → read_step s at ≡ Some (step, behind) → drop at s ≡ written step ++ drop behind s
step_again s bs at step behind e =
    let h : Found s at step behind = found s at step behind e in
    let k : ℕ = byte s at in
    let l : at + 1 + width_of k ≤ length s = omega (arith, h.fits) in
    let m : written (step_made s k (at + 1)) ≡ k ∷ from s (at + 1) (width_of k) = step_same s bs (at + 1) k h.wide in
    let d : drop at s ≡ k ∷ drop (at + 1) s = drop-cons s at 0 h.here ∙ rw add-one in
    d ∙ ap (λ (x : List ℕ). k ∷ x) (drop_from s (at + 1) (width_of k) l) ∙ rw (← h.made, m, h.next)

again_on : (s : List ℕ) (bs : are_bytes s ≡ true) (n at : ℕ) (r : Option (Step × ℕ)) → read_step s at ≡ r → ((p : ℕ) → valid_from s n p ≡ true → drop p s ≡ written_steps (steps_from s n p))
    → on_read r false (λ step p. valid_from s n p) ≡ true → drop at s ≡ written_steps (on_read r [] (λ step p. step ∷ steps_from s n p))
unfolding written_steps
again_on s bs n at None q f e = absurd (false≢true e)
again_on s bs n at (Some (step, behind)) q f e = step_again s bs at step behind q ∙ ap (λ (x : List ℕ). written step ++ x) (f behind e)

-- what stands from a place to the end is the bytes of the steps that are read there
steps_again : (s : List ℕ) (bs : are_bytes s ≡ true) (n at : ℕ) → valid_from s n at ≡ true → drop at s ≡ written_steps (steps_from s n at)
unfolding valid_from steps_from written_steps
steps_again s bs zero at e = ap (λ (k : ℕ). drop k s) (eqb-true at (length s) e) ∙ drop-length s
steps_again s bs (suc n) at e = again_on s bs n at (read_step s at) refl (steps_again s bs n) e

-- the rows, one more at a time
rows_snoc : (xs ys : List ℕ) (x y : ℕ) → length xs ≡ length ys → written_rows (xs ++ (x ∷ [])) (ys ++ (y ∷ [])) ≡ written_rows xs ys ++ (x ∷ y ∷ [])
unfolding written_rows
rows_snoc [] [] x y e = refl
rows_snoc [] (b ∷ ys) x y e = let z : ⊥ = omega arith in absurd z
rows_snoc (a ∷ xs) [] x y e = let z : ⊥ = omega arith in absurd z
rows_snoc (a ∷ xs) (b ∷ ys) x y e = ap (λ (l : List ℕ). a ∷ b ∷ l) (rows_snoc xs ys x y (omega arith))

rows_again : (s : List ℕ) (n : ℕ) → 2 + 2 * n ≤ length s → drop 2 s ≡ written_rows (table (home_read s) n) (table (list_read s) n) ++ drop (2 + 2 * n) s
unfolding table written_rows
rows_again s zero h = refl
rows_again s (suc n) h =
    let l : length (table (home_read s) n) ≡ length (table (list_read s) n) = length_table (home_read s) n ∙ sym (length_table (list_read s) n) in
    let t : 2 + 2 * n + 2 ≡ 2 + 2 * suc n = omega arith in
    let u : 2 + 2 * n + 1 ≡ 3 + 2 * n = omega arith in
    let d : drop (2 + 2 * n) s ≡ home_read s n ∷ list_read s n ∷ drop (2 + 2 * suc n) s = rw (u, t) at (drop_from s (2 + 2 * n) 2 (omega arith)) in
    rows_again s n (omega arith) ∙ rw (rows_snoc (table (home_read s) n) (table (list_read s) n) (home_read s n) (list_read s n) l, append_assoc, d)

start_at : (s : List ℕ) → start_of s ≡ 2 + 2 * actors_read s + 2
unfolding start_of
start_at s = omega arith

count_at : (s : List ℕ) → count_of s ≡ low16 s (2 + 2 * actors_read s)
unfolding count_of
count_at s = refl

book_again : (s : List ℕ) → are_bytes s ≡ true → well_formed s ≡ true → s ≡ written_book (reading_of s)
unfolding written_book reading_of
book_again s bs v =
    let a : ℕ = actors_read s in
    let l : 2 + 2 * a + 2 ≤ length s = rw (start_at s) at (start_fits s v) in
    let n : length (steps_read s) ≡ count_of s = count_steps s v in
    let t : drop (start_of s) s ≡ written_steps (steps_read s) = steps_again s bs (count_of s) (start_of s) (valid_all s v) in
    let x : count_of s % 256 ≡ byte s (2 + 2 * a) = rw (count_at s) (c0 _ _ 0 0 (byte_low s bs _) (byte_low s bs _) (omega arith) (omega arith)) in
    let y : count_of s / 256 ≡ byte s (2 + 2 * a + 1) = rw (count_at s) (c1 _ _ 0 0 (byte_low s bs _) (byte_low s bs _) (omega arith) (omega arith)) in
    let w : drop (2 + 2 * a) s ≡ from s (2 + 2 * a) 2 ++ drop (2 + 2 * a + 2) s = drop_from s (2 + 2 * a) 2 l in
    let r : drop 2 s ≡ written_rows (table (home_read s) a) (table (list_read s) a) ++ (length (steps_read s) % 256 ∷ length (steps_read s) / 256 ∷ written_steps (steps_read s))
    = rows_again s a (omega arith) ∙ rw (w, ← start_at s, t, n, x, y) in
    drop_from s 0 2 (omega arith) ∙ rw (r, length_table (home_read s) a)

pub writes_again : WritesAgain
writes_again s bs v = sym (book_again s bs v)

pub one_reading : OneReading
one_reading s t bs bt v w e = sym (writes_again s bs v) ∙ ap written_book e ∙ writes_again t bt w
