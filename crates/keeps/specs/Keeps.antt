-- A taken step leaves an unbroken machine unbroken; a refused one gives back its machine.
use Rattle.std.specs.Prelude.{◌≡◌, ◌≢◌, false}
use Rattle.protocol.specs.Broken.{broken_of}
use Rattle.protocol.specs.declared.State.{State}
use Rattle.protocol.specs.Step.{number_of, after_of, step_of}
use Rattle.protocol.specs.declared.Step.{Step}

abbrev pub Keeps : Type 0
Keeps = (m : State) (s : Step) → broken_of m ≡ false → number_of m s ≡ 0 → broken_of (after_of m s) ≡ false

abbrev pub StepKeeps : Type 0
StepKeeps = (m : State) (s : Step) → broken_of m ≡ false → broken_of (step_of m s).state ≡ false

abbrev pub RefusalGivesBack : Type 0
RefusalGivesBack = (m : State) (s : Step) → (step_of m s).answer ≢ 0 → (step_of m s).state ≡ m
