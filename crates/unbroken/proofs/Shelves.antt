-- What stands in the stores once one of them is written. Assumes nothing.
use Prim.Native.Nat.{◌+◌, ℕ, zero, suc, ◌<◌}
use mathlib.Core.Path.{◌≡◌, refl, ap}
use mathlib.Core.Logic.{◌≢◌}
use mathlib.Core.Bool.{Bool, ◌&&◌}
use mathlib.Core.List.{List, [], ◌∷◌}
use native.Mathlib.Omega.{arith}
use lib.ListN.{length, get_or, set}
use lib.Seq.{get_or-set_same, get_or-set_other}
use Rattle.protocol.specs.Words.{bit, all_from, all}
use Rattle.protocol.specs.Slots.{no_store}
use Rattle.protocol.specs.declared.Store.{Store}

-- what a writing leaves where it writes, it leaves everywhere
left : {A B : Type 0} (f : A → B) (l : List A) (p : ℕ) (x d : A) → f x ≡ f (get_or l p d) → (q : ℕ) → f (get_or (set l p x) q d) ≡ f (get_or l q d)
left f [] p x d e q = refl
left f (y ∷ l) zero x d e zero = e
left f (y ∷ l) zero x d e (suc q) = refl
left f (y ∷ l) (suc p) x d e zero = refl
left f (y ∷ l) (suc p) x d e (suc q) = left f l p x d e q

-- .. and what a test of every place doesn't look at
unseen : {A : Type 0} (t : ℕ → A → Bool) (l : List A) (p : ℕ) (x d : A) → ((q : ℕ) → t q x ≡ t q (get_or l p d)) → (i : ℕ) → all_from t i (set l p x) ≡ all_from t i l
unfolding all_from
unseen t [] p x d e i = refl
unseen t (y ∷ l) zero x d e i = ap (λ (b : Bool). b && all_from t (i + 1) l) (e i)
unseen t (y ∷ l) (suc p) x d e i = ap (λ (b : Bool). t i y && b) (unseen t l p x d e (i + 1))

-- whether a view is in a set of a store
abbrev pub in_set : (Store → ℕ) → List Store → ℕ → ℕ → Bool
in_set f l p v = bit (f (get_or l p no_store)) v

-- the stores l with the store p written as x
module _ (l : List Store) (p : ℕ) (x : Store) where
  abbrev written : List Store
  written = set l p x

  -- what x has as the store had it, every store has as it had it; a test of every store that looks at no more says the same
  pub shelf_left : {B : Type 0} (f : Store → B) → f x ≡ f (get_or l p no_store) → (q : ℕ) → f (get_or written q no_store) ≡ f (get_or l q no_store)
  shelf_left f e q = left f l p x no_store e q

  pub shelf_unseen : (t : ℕ → Store → Bool) → ((q : ℕ) → t q x ≡ t q (get_or l p no_store)) → all t written ≡ all t l
  shelf_unseen t e = unseen t l p x no_store e 0

  -- the other stores are as they were
  pub shelf_beside : (q : ℕ) → q ≢ p → get_or written q no_store ≡ get_or l q no_store
  shelf_beside q m = get_or-set_other l p q x no_store m

  -- .. in a machine with its eight stores
  module _ (long : length l ≡ 8) (hp : p < 8) where
    pub shelf_same : get_or written p no_store ≡ x
    shelf_same = get_or-set_same l p x no_store (omega arith)
