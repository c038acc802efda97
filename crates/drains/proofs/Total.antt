-- The steps that a drain has left of the whole machine: the sum over the interactions made. It falls where the number of one
-- interaction falls and no other rises, as where all other views look as before. Assumes nothing.
use Prim.Native.Nat.{ℕ, zero, suc, ◌+◌, ◌-◌, ◌*◌, ◌/◌, ◌%◌, ◌≤◌, ◌<◌}
use mathlib.Core.Path.{◌≡◌, sym, subst}
use mathlib.Core.Logic.{◌≢◌}
use mathlib.Core.Bool.{not}
use native.Mathlib.Omega.{arith}
use native.Mathlib.Decide.{ℕ_discrete}
use lib.Dec.{eqb}
use Rattle.std.proofs.Common.{rules}
use Rattle.protocol.specs.Slots.{number, view, repair, entry, record_copies, ack_copies, update_copies, uack_copies, owes_ack, owes_uack}
use Rattle.protocol.specs.declared.State.{State}
use Rattle.protocol.specs.Drain.{key_of, role_of}
use Rattle.drains.proofs.StepsLeft.{Seen, seen, steps_left, left_either, left_most, Regular}

unfoldable pub sum : ℕ → (ℕ → ℕ) → ℕ
sum zero f = 0
sum (suc n) f = f n + sum n f

sum_fewer : (n : ℕ) (f g : ℕ → ℕ) → ((j : ℕ) → j < n → g j ≤ f j) → sum n g ≤ sum n f
unfolding sum
sum_fewer zero f g h = omega arith
sum_fewer (suc n) f g h = omega (arith, h n (omega arith), sum_fewer n f g (λ j l. h j (omega arith)))

sum_less : (n : ℕ) (f g : ℕ → ℕ) (k : ℕ) → k < n → g k < f k → ((j : ℕ) → j < n → j ≢ k → g j ≤ f j) → sum n g < sum n f
unfolding sum
sum_less zero f g k l h e = absurd (omega arith)
sum_less (suc n) f g k l h e = go (λ m. sum_less n f g k m h (λ j i. e j (omega arith))) (ℕ_discrete k n)
  where
    go : (k < n → sum n g < sum n f) → Dec (k ≡ n) → g n + sum n g < f n + sum n f
    go ih (yes q) = omega (arith, rw q at h, sum_fewer n f g (λ j i. e j (omega arith) (λ c. omega arith)))
    go ih (no q) = omega (arith, ih (omega arith), e n (omega arith) (λ c. q (sym c)))

pub sum_most : (n b : ℕ) (f : ℕ → ℕ) → ((j : ℕ) → j < n → f j ≤ b) → sum n f ≤ n * b
unfolding sum
sum_most zero b f h = omega arith
sum_most (suc n) b f h = omega (arith, h n (omega arith), sum_most n b f (λ j l. h j (omega arith)))

-- what the drain sees of a view
unfoldable pub seen_of : State → ℕ → Seen
seen_of m v =
    seen (view m v).phase (view m v).changed (repair m v).flying (entry m v).status
    (not (eqb (ack_copies m (view m v).store v) 0)) (owes_ack m (view m v).store v) (not (eqb (record_copies m (view m v).store v) 0))
    (not (eqb (uack_copies m (entry m v).destination v) 0)) (owes_uack m (entry m v).destination v) (not (eqb (update_copies m (entry m v).destination v) 0))

abbrev pub left_of : State → ℕ → ℕ
left_of m k = steps_left (seen_of m (number k 0)) (seen_of m (number k 1))

unfoldable pub total : State → ℕ
total m = sum m.made (left_of m)

-- the other view of the interaction
abbrev pub opposite : ℕ → ℕ
opposite v = number (key_of v) (1 - role_of v)

pub total_most : (m : State) → ((v : ℕ) → v < m.made * 2 → Regular (seen_of m v)) → total m ≤ m.made * 22
unfolding total
total_most m w = sum_most m.made 22 (left_of m) (λ k l. left_most (seen_of m (number k 0)) (seen_of m (number k 1)) (w (number k 0) (omega arith)) (w (number k 1) (omega arith)))

module _ (m n : State) (made : n.made ≡ m.made) (v : ℕ) (hv : v < m.made * 2)
    (low : steps_left (seen_of n v) (seen_of n (opposite v)) < steps_left (seen_of m v) (seen_of m (opposite v))) where
  -- where no other interaction's number rises
  pub total_lower : ((j : ℕ) → j < m.made → j ≢ v / 2 → left_of n j ≤ left_of m j) → total n < total m
  unfolding total
  total_lower rest = subst (λ (c : ℕ). sum c (left_of n) < total m) (sym made) (sum_less m.made (left_of m) (left_of n) (v / 2) (omega arith) (go (ℕ_discrete (v % 2) 0)) rest)
    where
      go : Dec (v % 2 ≡ 0) → left_of n (v / 2) < left_of m (v / 2)
      go (yes e) =
          let p : number (v / 2) 0 ≡ v = omega arith in
          let q : number (v / 2) 1 ≡ opposite v = omega arith in
          rw (p, q) low
      go (no e) =
          let p : number (v / 2) 1 ≡ v = omega arith in
          let q : number (v / 2) 0 ≡ opposite v = omega arith in
          rw (p, q, left_either (seen_of n (opposite v)) (seen_of n v), left_either (seen_of m (opposite v)) (seen_of m v)) low

  -- .. since all other views look as before
  pub total_less : ((u : ℕ) → u < m.made * 2 → u ≢ v → u ≢ opposite v → seen_of n u ≡ seen_of m u) → total n < total m
  total_less e = search (rules, total_lower)

-- a step that changes what the drain sees of one view
module _ (m n : State) (made : n.made ≡ m.made) (v : ℕ) (hv : v < m.made * 2) (s t : Seen) (before : seen_of m v ≡ s) (after : seen_of n v ≡ t)
    (far : (u : ℕ) → u < m.made * 2 → u ≢ v → seen_of n u ≡ seen_of m u) (low : steps_left t (seen_of m (opposite v)) < steps_left s (seen_of m (opposite v))) where
  pub total_falls : total n < total m
  total_falls = total_less m n made v hv (rw (after, far (opposite v) (omega arith) (omega arith), before) low) (λ u l a b. far u l a)
