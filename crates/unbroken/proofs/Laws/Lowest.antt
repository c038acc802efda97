-- The lowest number that applies, from tests in the order of their numbers: each number applies exactly if its test holds, so the first
-- test that holds gives the lowest. Assumes nothing.
use Prim.Native.Nat.{ℕ, suc, ◌≤◌, ◌<◌}
use mathlib.Core.Path.{◌≡◌, refl, subst}
use mathlib.Core.Logic.{◌≢◌, ◌⊎◌, ⊎_elim}
use mathlib.Core.Bool.{Bool, true, false, ◌&&◌}
use mathlib.Core.List.{List, [], ◌∷◌}
use native.Mathlib.Omega.{arith}
use lib.Dec.{leb}
use borrow.Author.Tests.{leb-true}
use Rattle.std.proofs.lemmas.Bool.{and_parts}
use Rattle.std.proofs.Common.{rules}
use Rattle.protocol.specs.Words.{pick}
use Rattle.unbroken.proofs.Laws.Says.{Says, Splits}
use Rattle.unbroken.specs.Lowest.{IsLowest}

-- x is the lowest number from k on that applies, and 0 if none does
pub record LowestFrom (P : ℕ → Type 0) (k x : ℕ) : Type 0 where
  pub low : x ≢ 0 → k ≤ x
  pub applies : x ≢ 0 → P x
  pub first : (i : ℕ) → k ≤ i → P i → (x ≢ 0) × (x ≤ i)

module _ {P : ℕ → Type 0} {k : ℕ} where
  -- none is left
  pub from_none : ((i : ℕ) → k ≤ i → P i → ⊥) → LowestFrom P k 0
  from_none h = record { low = λ n. absurd (n refl); applies = λ n. absurd (n refl); first = λ i l p. absurd (h i l p) }

  -- no number applies below the next test's, and that one exactly if the test holds
  pub from_test : {test : Bool} {n rest : ℕ} → 1 ≤ k → k ≤ n → Says test (P n) → ((i : ℕ) → k ≤ i → i < n → P i → ⊥)
      → (test ≡ false → LowestFrom P (suc n) rest) → LowestFrom P k (pick test n rest)
  from_test e f g h i = search rules

-- the same of another family that says the same
pub lowest_put : {P Q : ℕ → Type 0} {k x : ℕ} → ((n : ℕ) → P n → Q n) → ((n : ℕ) → k ≤ n → Q n → P n) → LowestFrom P k x → LowestFrom Q k x
lowest_put {P} {Q} {k} {x} f g q = record { low = q.low; applies = λ z. f x (q.applies z); first = λ i l a. q.first i l (g i l a) }

-- where 0 never applies, the lowest from 1 on is the lowest
pub lowest : {P : ℕ → Type 0} {x : ℕ} → (P 0 → ⊥) → LowestFrom P 1 x → IsLowest P x
lowest e f = search rules

-- a test that holds exactly if the other fact doesn't
pub lacks : {b : Bool} {P N : Type 0} → Splits b P N → Says b (N → ⊥)
lacks e = search rules

-- tests with their numbers, in the order of these
pub record Test : Type 0 where
  pub number : ℕ
  pub holds : Bool

infix 20 ◌if◌
abbrev pub ◌if◌ : ℕ → Bool → Test
n if b = record { number = n; holds = b }

abbrev pub first : List Test → ℕ
first [] = 0
first (t ∷ ts) = pick t.holds t.number (first ts)

abbrev pub rising : ℕ → List Test → Bool
rising k [] = true
rising k (t ∷ ts) = leb k t.number && rising (suc t.number) ts

abbrev pub Has : ℕ → List Test → Type 0
Has n [] = ⊥
Has n (t ∷ ts) = ((t.number ≡ n) × (t.holds ≡ true)) ⊎ Has n ts

abbrev pub Each : (ℕ → Type 0) → List Test → Type 0
Each P [] = Unit
Each P (t ∷ ts) = (t.holds ≡ true → P t.number) × Each P ts

pub each_has : (P : ℕ → Type 0) (ts : List Test) (n : ℕ) → Each P ts → Has n ts → P n
each_has P [] n e h = absurd h
each_has P (t ∷ ts) n e h = ⊎_elim (λ x. subst P x.0 (e.0 x.1)) (λ g. each_has P ts n e.1 g) h

pub has_low : (ts : List Test) (k n : ℕ) → rising k ts ≡ true → Has n ts → k ≤ n
has_low [] k n r h = absurd h
has_low (t ∷ ts) k n r h =
    let l : k ≤ t.number = leb-true k t.number (and_parts (leb k t.number) (rising (suc t.number) ts) r).0 in
    ⊎_elim (λ e. omega (arith, e.0)) (λ g. omega (arith, has_low ts (suc t.number) n (and_parts (leb k t.number) (rising (suc t.number) ts) r).1 g)) h

pub tests_lowest : (ts : List Test) (k : ℕ) → 1 ≤ k → rising k ts ≡ true → LowestFrom (λ n. Has n ts) k (first ts)
tests_lowest [] k one r = from_none (λ i l h. h)
tests_lowest (t ∷ ts) k one r =
    let n : ℕ = t.number in
    let l : k ≤ n = leb-true k n (and_parts (leb k n) (rising (suc n) ts) r).0 in
    let r' : rising (suc n) ts ≡ true = (and_parts (leb k n) (rising (suc n) ts) r).1 in
    search (rules, leb-true, and_parts, from_test, has_low, lowest_put, tests_lowest ts (suc n) (omega arith) r')
