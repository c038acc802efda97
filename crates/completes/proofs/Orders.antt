-- Lists in another order: what is gathered from them is too, they have one length, and a single element is the same. Assumes nothing.
use Prim.Native.Nat.{suc}
use mathlib.Core.Path.{◌≡◌, refl, sym, ap, ◌∙◌}
use mathlib.Core.List.{List, [], ◌∷◌, ◌++◌, head-eq_of_cons-eq, tail-eq_of_cons-eq}
use native.Mathlib.Omega.{arith}
use lib.ListN.{length}
use Rattle.completes.specs.Order.{Reordered, gather}
use Rattle.completes.specs.Order.Reordered.{empty, keep, swap, join}
use Rattle.completes.proofs.Lists.{nil_of_length}

module _ {A : Type 0} where
  pub unmoved : (l : List A) → Reordered l l
  unmoved [] = empty
  unmoved (x ∷ l) = keep (unmoved l)

  pub behind : (p : List A) {l k : List A} → Reordered l k → Reordered (p ++ l) (p ++ k)
  behind [] r = r
  behind (x ∷ p) r = keep (behind p r)

  -- one element, then a whole list, goes behind another list
  past : (x : A) (q r : List A) → Reordered (x ∷ (q ++ r)) (q ++ (x ∷ r))
  past x [] r = unmoved (x ∷ r)
  past x (y ∷ q) r = join swap (keep (past x q r))

  pub around : (p q r : List A) → Reordered (p ++ (q ++ r)) (q ++ (p ++ r))
  around [] q r = unmoved (q ++ r)
  around (x ∷ p) q r = join (keep (around p q r)) (past x q (p ++ r))

  pub length_reordered : {l k : List A} → Reordered l k → length l ≡ length k
  length_reordered empty = refl
  length_reordered (keep r) = ap suc (length_reordered r)
  length_reordered swap = refl
  length_reordered (join r q) = length_reordered r ∙ length_reordered q

  pub single : {l k : List A} → Reordered l k → (x : A) → l ≡ x ∷ [] → k ≡ x ∷ []
  single empty x e = e
  single (keep {x = y} {l = l} {k = k} r) x e =
      let none : k ≡ [] = nil_of_length k (sym (length_reordered r) ∙ ap length (tail-eq_of_cons-eq e)) in
      cc (head-eq_of_cons-eq e)
  single swap x e = absurd (omega (arith, ap length e))
  single (join r q) x e = single q x (single r x e)

pub reordered_gather : {A B : Type 0} (f : A → List B) {l k : List A} → Reordered l k → Reordered (gather f l) (gather f k)
unfolding gather
reordered_gather f empty = empty
reordered_gather f (keep {x = x} r) = behind (f x) (reordered_gather f r)
reordered_gather f (swap {x = x} {y = y} {l = l}) = around (f x) (f y) (gather f l)
reordered_gather f (join r q) = join (reordered_gather f r) (reordered_gather f q)
