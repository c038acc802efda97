-- Lists: the same elements in another order, what a list gives element by element, whether it has any.
use Rattle.std.specs.Prelude.{Bool, true, false, List, [], ◌∷◌, ◌++◌}

-- the same elements, each as often, in another order
pub data Reordered {A : Type 0} : List A → List A → Type 0 where
  empty : Reordered [] []
  keep : {x : A} {l k : List A} → Reordered l k → Reordered (x ∷ l) (x ∷ k)
  swap : {x y : A} {l : List A} → Reordered (x ∷ y ∷ l) (y ∷ x ∷ l)
  join : {l k j : List A} → Reordered l k → Reordered k j → Reordered l j

-- what f gives of each, one after another
unfoldable pub gather : {A B : Type 0} → (A → List B) → List A → List B
gather f [] = []
gather f (x ∷ l) = f x ++ gather f l

abbrev pub nothing : {A : Type 0} → List A → Bool
nothing [] = true
nothing (x ∷ l) = false
