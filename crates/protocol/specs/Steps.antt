-- Steps one after another. A refused step doesn't stop them: the machine after a list of steps, and the number of each.
use Rattle.std.specs.Prelude.{ℕ, List, [], ◌∷◌}
use Rattle.protocol.specs.declared.State.{State}
use Rattle.protocol.specs.declared.Step.{Step}
use Rattle.protocol.specs.Step.{step_of}

unfoldable pub ran : State → List Step → State
ran m [] = m
ran m (step ∷ steps) = ran (step_of m step).state steps

unfoldable pub answers : State → List Step → List ℕ
answers m [] = []
answers m (step ∷ steps) = (step_of m step).answer ∷ answers (step_of m step).state steps
