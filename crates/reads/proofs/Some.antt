-- Some steps at a time: what some steps and then others give is what all give. Assumes nothing.
use Prim.Native.Nat.{ℕ}
use mathlib.Core.Path.{◌≡◌, refl, ap}
use mathlib.Core.List.{List, [], ◌∷◌, ◌++◌}
use Rattle.protocol.specs.declared.State.{State}
use Rattle.protocol.specs.Step.{step_of}
use Rattle.protocol.specs.declared.Step.{Step}
use Rattle.protocol.specs.Run.{ran, answers}

-- some steps and then others
pub ran_append : (m : State) (xs ys : List Step) → ran m (xs ++ ys) ≡ ran (ran m xs) ys
unfolding ran
ran_append m [] ys = refl
ran_append m (x ∷ xs) ys = ran_append (step_of m x).state xs ys

pub answers_append : (m : State) (xs ys : List Step) → answers m (xs ++ ys) ≡ answers m xs ++ answers (ran m xs) ys
unfolding ran answers
answers_append m [] ys = refl
answers_append m (x ∷ xs) ys = ap (λ (l : List ℕ). (step_of m x).answer ∷ l) (answers_append (step_of m x).state xs ys)
