-- A taken step of any kind leaves an unbroken machine unbroken, since each of its changes does. A refused step gives back its
-- machine. Assumes nothing.
use mathlib.Core.Path.{◌≡◌, refl}
use mathlib.Core.Logic.{◌≢◌}
use mathlib.Core.Bool.{false}
use Rattle.protocol.specs.Broken.{broken_of}
use Rattle.unbroken.specs.Unbroken.{Unbroken}
use Rattle.protocol.specs.declared.State.{State}
use Rattle.unbroken.proofs.Laws.{unbroken, whole}
use Rattle.protocol.specs.Step.{after_of}
use Rattle.protocol.specs.declared.Step.{Step}
use Rattle.keeps.specs.Taken.{Taken}
use Rattle.keeps.specs.Keeps.{Keeps, StepKeeps, RefusalGivesBack}
use Rattle.keeps.proofs.Conditions.{taken_when}
use Rattle.keeps.proofs.Cases.{step_case}
use Rattle.keeps.proofs.Changes.{taken_changes, changes_kept}

pub every_kept : (m : State) (s : Step) → Unbroken m → Taken m s → Unbroken (after_of m s)
every_kept m s e c = changes_kept m (after_of m s) e (taken_changes m s e c)

pub keeps : Keeps
keeps m s e zero = whole (after_of m s) (every_kept m s (unbroken m e) (taken_when m s zero))

pub step_keeps : StepKeeps
step_keeps m s unbroken =
    step_case m s (λ x. broken_of x.state ≡ false) (λ e. unbroken) (λ e z. keeps m s unbroken z) (λ e n. unbroken)

pub refusal_gives_back : RefusalGivesBack
refusal_gives_back m s =
    step_case m s (λ x. x.answer ≢ 0 → x.state ≡ m) (λ e n. refl) (λ e z n. absurd (n refl)) (λ e n k. refl)
