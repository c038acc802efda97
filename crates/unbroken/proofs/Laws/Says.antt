-- A test says a fact: it holds exactly if the fact does. One law for each word that tests are built from. Assumes nothing.
use Prim.Native.Nat.{ℕ, ◌≤◌, ◌<◌}
use mathlib.Core.Path.{◌≡◌}
use mathlib.Core.Bool.{Bool, true, false, ◌&&◌, ◌||◌, not}
use mathlib.Core.List.{List}
use native.Mathlib.Omega.{arith}
use lib.ListN.{length, get_or}
use lib.Dec.{ltb, leb, eqb}
use borrow.Author.Tests.{ltb-true, ltb-false, leb-true, leb-false, eqb-true, eqb-false, not-true, not-false, lt-ltb, le-ltb, le-leb, lt-leb, eq-eqb, ne_eqb}
use Rattle.std.proofs.lemmas.Bool.{and_from, and_parts, both_ways, not_from_false, not_from_true}
use Rattle.std.proofs.Common.{rules}
use Rattle.protocol.specs.Words.{pick, all, all_below}
use Rattle.unbroken.proofs.Laws.Tests.{or_else, or_of, by_test}
use Rattle.unbroken.proofs.Laws.Every.{all_at, all_each, below_at, below_each}

pub record Says (b : Bool) (P : Type 0) : Type 0 where
  pub tells : b ≡ true → P
  pub told : P → b ≡ true

-- .. and what its failing says
pub record Splits (b : Bool) (P N : Type 0) : Type 0 where
  pub holds : Says b P
  pub fails : b ≡ false → N
  pub failed : N → b ≡ false

pub le_says : (a b : ℕ) → Says (leb a b) (a ≤ b)
le_says a b = record { tells = leb-true a b; told = le-leb a b }

pub lt_says : (a b : ℕ) → Says (ltb a b) (a < b)
lt_says a b = record { tells = ltb-true a b; told = lt-ltb a b }

pub eq_says : (a b : ℕ) → Says (eqb a b) (a ≡ b)
eq_says a b = record { tells = eqb-true a b; told = eq-eqb a b }

pub is_says : (b : Bool) → Says b (b ≡ true)
is_says b = record { tells = λ e. e; told = λ e. e }

pub le_splits : (a b : ℕ) → Splits (leb a b) (a ≤ b) (b < a)
le_splits a b = record { holds = le_says a b; fails = leb-false a b; failed = lt-leb a b }

pub lt_splits : (a b : ℕ) → Splits (ltb a b) (a < b) (b ≤ a)
lt_splits a b = record { holds = lt_says a b; fails = ltb-false a b; failed = le-ltb a b }

pub eq_splits : (a b : ℕ) → Splits (eqb a b) (a ≡ b) (a ≡ b → ⊥)
eq_splits a b = record { holds = eq_says a b; fails = eqb-false a b; failed = ne_eqb a b }

positive : (a : ℕ) → (a ≡ 0 → ⊥) → 1 ≤ a
positive a h = omega arith

pub zero_splits : (a : ℕ) → Splits (eqb a 0) (a ≡ 0) (1 ≤ a)
zero_splits a = record { holds = eq_says a 0; fails = λ e. positive a (eqb-false a 0 e); failed = λ h. ne_eqb a 0 (λ e. omega arith) }

pub is_splits : (b : Bool) → Splits b (b ≡ true) (b ≡ false)
is_splits b = record { holds = is_says b; fails = λ e. e; failed = λ e. e }

module _ {a b : Bool} {A B : Type 0} where
  pub and_says : Says a A → Says b B → Says (a && b) (A × B)
  and_says x y =
      record { tells = λ e. (x.tells (and_parts a b e).0, y.tells (and_parts a b e).1); told = λ p. and_from a b (x.told p.0) (y.told p.1) }

  pub or_says : {N : Type 0} → Splits a A N → Says b B → Says (a || b) (N → B)
  or_says x y = record { tells = λ e n. y.tells (or_else a b e (x.failed n)); told = λ f. or_of a b (λ h. y.told (f (x.fails h))) }

pub not_says : {a : Bool} {A N : Type 0} → Splits a A N → Says (not a) N
not_says {a} x = record { tells = λ e. x.fails (not-true a e); told = λ n. not_from_false a (x.failed n) }

pub pick_says : {c a b : Bool} {P N A B : Type 0} → Splits c P N → Says a A → Says b B → Says (pick c a b) ((P → A) × (N → B))
pick_says e f g = search rules

pub all_says : {A : Type 0} (p : ℕ → A → Bool) (P : ℕ → A → Type 0) (l : List A) (d : A) → ((i : ℕ) (x : A) → Says (p i x) (P i x)) → Says (all p l) ((i : ℕ) → i < length l → P i (get_or l i d))
all_says p P l d s =
    record {
      tells = λ e i h. (s i (get_or l i d)).tells (all_at p l d e i h);
      told = λ f. all_each p l d (λ i h. (s i (get_or l i d)).told (f i h));
    }

pub below_says : (n : ℕ) (p : ℕ → Bool) (P : ℕ → Type 0) → ((i : ℕ) → Says (p i) (P i)) → Says (all_below n p) ((i : ℕ) → i < n → P i)
below_says n p P s =
    record { tells = λ e i h. (s i).tells (below_at n p e i h); told = λ f. below_each n p (λ i h. (s i).told (f i h)) }

-- a test that fails says that its fact doesn't hold
pub un_splits : {b : Bool} {P : Type 0} → Says b P → Splits b P (P → ⊥)
un_splits {b} s =
    record { holds = s; fails = λ e p. absurd (both_ways b e (s.told p)); failed = λ h. by_test b (λ e. absurd (h (s.tells e))) (λ e. e) }

pub not_splits : {a : Bool} {A N : Type 0} → Splits a A N → Splits (not a) N A
not_splits {a} s = record { holds = not_says s; fails = λ e. s.holds.tells (not-false a e); failed = λ p. not_from_true a (s.holds.told p) }

-- the same fact in other words
pub put_says : {b : Bool} {P Q : Type 0} → Says b P → (P → Q) → (Q → P) → Says b Q
put_says s f g = record { tells = λ e. f (s.tells e); told = λ q. s.told (g q) }
