-- Runs by the rules with some of them replaced, and guarantees 1 to 5 said of such runs, word for word.
use Rattle.std.specs.Prelude.{ℕ, ◌+◌, ◌-◌, ◌≤◌, ◌<◌, ◌≡◌, true, List, [], ◌∷◌, ◌++◌, length, get_or}
use Rattle.protocol.specs.Words.{pick, bit}
use Rattle.protocol.specs.Slots.{number, view, lasting_viewlink as viewlink}
use Rattle.protocol.specs.Setup.{answered}
use Rattle.protocol.specs.Broken.{broken_of}
use Rattle.protocol.specs.Closed.{closed_of}
use Rattle.protocol.specs.declared.State.{State}
use Rattle.protocol.specs.declared.Setup.{Setup}
use Rattle.protocol.specs.Outcome.{Outcome}
use Rattle.protocol.specs.Rule.{decided}
use Rattle.protocol.specs.Step.{number_of, after_of}
use Rattle.protocol.specs.declared.Step.{Step}
use Rattle.protocol.specs.Run.{fresh_of}
use Rattle.guarantees.specs.Acknowledged.{Legal, accepted_into}
use Rattle.guarantees.specs.Guarantees.{Holds}

-- the machine that a taken step gives; what refuses a step stays as the rules say
abbrev pub Rules : Type 0
Rules = State → Step → State

-- the rules themselves
abbrev pub right : Rules
right = after_of

-- as step_of
unfoldable pub step_by : Rules → State → Step → Outcome
step_by rules m s = pick (broken_of m) (answered 1 m) (decided (number_of m s) m (rules m s))

-- as ran
unfoldable pub ran_by : Rules → State → List Step → State
ran_by rules m [] = m
ran_by rules m (step ∷ steps) = ran_by rules (step_by rules m step).state steps

abbrev pub run_by : Rules → Setup → List Step → State
run_by rules u steps = ran_by rules (fresh_of u) steps

-- as accepted
abbrev pub accepted_by : Rules → State → Step → ℕ → List ℕ
accepted_by rules m s v = accepted_into m (step_by rules m s).state s v

-- as acknowledged, and AckedBy
unfoldable pub acknowledged_by : Rules → State → List Step → ℕ → List ℕ
acknowledged_by rules m [] v = []
acknowledged_by rules m (step ∷ steps) v = accepted_by rules m step v ++ acknowledged_by rules (step_by rules m step).state steps v

abbrev pub AckedIn : Rules → Setup → List Step → ℕ → ℕ → Type 0
AckedIn rules u steps v p = acknowledged_by rules (fresh_of u) steps v ≡ p ∷ []

-- 1. One acknowledgement (at most one), of runs by these rules.
abbrev pub AtMostOneBy : Rules → Type 0
AtMostOneBy rules = (u : Setup) → Legal u → (steps : List Step) (v : ℕ) → length (acknowledged_by rules (fresh_of u) steps v) ≤ 1

-- 2. Kept for ever, of runs by these rules.
abbrev pub KeptForEverBy : Rules → Type 0
KeptForEverBy rules =
    (u : Setup) → Legal u → (steps : List Step) (step : Step) (k r p : ℕ) → r < 2 → accepted_by rules (run_by rules u steps) step (number k r) ≡ p ∷ []
    → (further : List Step) → Holds (run_by rules u (steps ++ (step ∷ further))) p k r (view (run_by rules u steps) (number k r))

-- 3. Cause links, of runs by these rules.
abbrev pub CauseLinksBy : Rules → Type 0
CauseLinksBy rules =
    (u : Setup) → Legal u → (steps : List Step) (step : Step) (k p : ℕ) → accepted_by rules (run_by rules u steps) step (number k 0) ≡ p ∷ []
    → (j : ℕ) → j < 16 → bit (view (run_by rules u steps) (number k 0)).causes j ≡ true
    → ((view (run_by rules u steps) (number j 1)).actor ≡ (view (run_by rules u steps) (number k 0)).actor)
    × AckedIn rules u steps (number j 1) (get_or (view (run_by rules u steps) (number k 0)).links j 0)

-- 4. Closed stays closed, of runs by these rules.
abbrev pub StaysClosedBy : Rules → Type 0
StaysClosedBy rules =
    (u : Setup) → Legal u → (steps further : List Step) (k : ℕ) → closed_of (run_by rules u steps) k ≡ true
    → closed_of (run_by rules u (steps ++ further)) k ≡ true

-- 5. View links, of runs by these rules.
abbrev pub ViewLinksBy : Rules → Type 0
ViewLinksBy rules =
    (u : Setup) → Legal u → (steps further : List Step) (k r p q : ℕ) → r < 2 → closed_of (run_by rules u steps) k ≡ true
    → AckedIn rules u steps (number k r) p → AckedIn rules u steps (number k (1 - r)) q
    → viewlink (run_by rules u (steps ++ further)) p (number k r) ≡ q + 1
