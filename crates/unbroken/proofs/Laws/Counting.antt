-- How often numbers stand in a list, two by two: a list of numbers below 2n that has at most one of each pair has at most n. Assumes nothing.
use Prim.Native.Nat.{ℕ, zero, suc, ◌+◌, ◌*◌, ◌≤◌, ◌<◌}
use mathlib.Core.Path.{◌≡◌, refl, sym, ap, subst}
use mathlib.Core.Logic.{◌≢◌}
use mathlib.Core.List.{List, [], ◌∷◌, ◌++◌}
use native.Mathlib.Omega.{arith}
use native.Mathlib.Decide.{dec_lt, ℕ_discrete}
use lib.ListN.{length, get_or}
use lib.Dec.{eqb}
use borrow.Author.Tests.{eq-eqb, ne_eqb}
use Rattle.std.proofs.Common.{rules}
use Rattle.protocol.specs.Words.{one, times}

-- the numbers 0 and 1, 2 and 3, .., 2n - 2 and 2n - 1 in a list
pairs : List ℕ → ℕ → ℕ
pairs l zero = 0
pairs l (suc n) = pairs l n + (times (n * 2) l + times (n * 2 + 1) l)

hits : ℕ → ℕ → ℕ
hits y zero = 0
hits y (suc n) = hits y n + (one (eqb y (n * 2)) + one (eqb y (n * 2 + 1)))

one_same : (a b : ℕ) → a ≡ b → one (eqb a b) ≡ 1
one_same a b e = ap one (eq-eqb a b e)

one_other : (a b : ℕ) → a ≢ b → one (eqb a b) ≡ 0
one_other a b e = ap one (ne_eqb a b e)

hits_out : (y n : ℕ) → n * 2 ≤ y → hits y n ≡ 0
unfolding hits
hits_out y zero h = refl
hits_out y (suc n) h = search (rules, one_other, hits_out y n (omega arith))

hits_in : (y n : ℕ) → y < n * 2 → hits y n ≡ 1
unfolding hits
hits_in y zero h = absurd (omega arith)
hits_in y (suc n) h = go (dec_lt y (n * 2)) (ℕ_discrete y (n * 2)) (hits_in y n)
  where
    go : Dec (y < n * 2) → Dec (y ≡ n * 2) → (y < n * 2 → hits y n ≡ 1) → hits y n + (one (eqb y (n * 2)) + one (eqb y (n * 2 + 1))) ≡ 1
    go (yes q) d f = let r = f q in let s = one_other y (n * 2) (omega arith) in let t = one_other y (n * 2 + 1) (omega arith) in omega arith
    go (no q) (yes e) f = let r = hits_out y n (omega arith) in let s = one_same y (n * 2) e in let t = one_other y (n * 2 + 1) (omega arith) in omega arith
    go (no q) (no e) f = let r = hits_out y n (omega arith) in let s = one_other y (n * 2) e in let t = one_same y (n * 2 + 1) (omega arith) in omega arith

pairs_none : (n : ℕ) → pairs [] n ≡ 0
unfolding pairs times
pairs_none zero = refl
pairs_none (suc n) = let r = pairs_none n in omega arith

pairs_cons : (y : ℕ) (ys : List ℕ) (n : ℕ) → pairs (y ∷ ys) n ≡ hits y n + pairs ys n
unfolding pairs hits times
pairs_cons y ys zero = refl
pairs_cons y ys (suc n) = let r = pairs_cons y ys n in omega arith

length_pairs : (l : List ℕ) (n : ℕ) → ((i : ℕ) → i < length l → get_or l i 0 < n * 2) → length l ≡ pairs l n
length_pairs [] n f = sym (pairs_none n)
length_pairs (y ∷ ys) n f =
    let r = length_pairs ys n (λ i h. f (suc i) (omega arith)) in
    let s = hits_in y n (f 0 (omega arith)) in
    let t = pairs_cons y ys n in
    omega arith

pairs_few : (l : List ℕ) (n : ℕ) → ((k : ℕ) → k < n → times (k * 2) l + times (k * 2 + 1) l ≤ 1) → pairs l n ≤ n
unfolding pairs
pairs_few l zero f = omega arith
pairs_few l (suc n) f = let r = pairs_few l n (λ k h. f k (omega arith)) in let s = f n (omega arith) in omega arith

pairs_fewer : (l : List ℕ) (n k : ℕ) → k < n → times (k * 2) l + times (k * 2 + 1) l ≡ 0 → ((j : ℕ) → j < n → times (j * 2) l + times (j * 2 + 1) l ≤ 1) → pairs l n < n
unfolding pairs
pairs_fewer l zero k h e f = absurd (omega arith)
pairs_fewer l (suc n) k h e f = go (ℕ_discrete k n) (λ q. pairs_fewer l n k q e (λ j b. f j (omega arith)))
  where
    go : Dec (k ≡ n) → (k < n → pairs l n < n) → pairs l n + (times (n * 2) l + times (n * 2 + 1) l) < suc n
    go (yes q) g = let r = pairs_few l n (λ j b. f j (omega arith)) in let s = subst (λ (i : ℕ). times (i * 2) l + times (i * 2 + 1) l ≡ 0) q e in omega arith
    go (no q) g = let r = g (omega arith) in let s = f n (omega arith) in omega arith

-- at most n, and fewer where a pair is not there at all
pub few : (l : List ℕ) (n : ℕ) → ((i : ℕ) → i < length l → get_or l i 0 < n * 2) → ((k : ℕ) → k < n → times (k * 2) l + times (k * 2 + 1) l ≤ 1) → length l ≤ n
few l n f g = let r = length_pairs l n f in let s = pairs_few l n g in omega arith

pub fewer : (l : List ℕ) (n k : ℕ) → ((i : ℕ) → i < length l → get_or l i 0 < n * 2) → ((j : ℕ) → j < n → times (j * 2) l + times (j * 2 + 1) l ≤ 1)
    → k < n → times (k * 2) l + times (k * 2 + 1) l ≡ 0 → length l < n
fewer l n k f g h e = let r = length_pairs l n f in let s = pairs_fewer l n k h e g in omega arith

-- what stands nowhere stands no times; what stands somewhere, once or more
pub times_none : (x : ℕ) (l : List ℕ) → ((i : ℕ) → i < length l → get_or l i 0 ≢ x) → times x l ≡ 0
unfolding times
times_none x [] f = refl
times_none x (y ∷ ys) f = let r = times_none x ys (λ i h. f (suc i) (omega arith)) in let s = one_other y x (f 0 (omega arith)) in omega arith

pub times_some : (x : ℕ) (l : List ℕ) (i : ℕ) → i < length l → get_or l i 0 ≡ x → 1 ≤ times x l
unfolding times
times_some x [] i h e = absurd (omega arith)
times_some x (y ∷ ys) zero h e = let s = one_same y x e in omega arith
times_some x (y ∷ ys) (suc i) h e = let r = times_some x ys i (omega arith) e in omega arith

-- one more at the end
pub times_last : (u v : ℕ) (l : List ℕ) → times u (l ++ (v ∷ [])) ≡ times u l + one (eqb v u)
unfolding times
times_last u v [] = omega arith
times_last u v (x ∷ xs) = omega (arith, times_last u v xs)

-- what stands at two places stands twice
pub times_two : (x : ℕ) (l : List ℕ) (i j : ℕ) → i < j → j < length l → get_or l i 0 ≡ x → get_or l j 0 ≡ x → 2 ≤ times x l
unfolding times
times_two x [] i j h k e f = absurd (omega arith)
times_two x (y ∷ ys) i zero h k e f = absurd (omega arith)
times_two x (y ∷ ys) zero (suc j) h k e f = let s = one_same y x e in let r = times_some x ys j (omega arith) f in omega arith
times_two x (y ∷ ys) (suc i) (suc j) h k e f = let r = times_two x ys i j (omega arith) (omega arith) e f in omega arith
