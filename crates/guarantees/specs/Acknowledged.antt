-- A run, and the store that acknowledged a view, which is read off the run alone.
use Rattle.std.specs.Prelude.{ℕ, ◌≡◌, true, ◌&&◌, not, List, [], ◌∷◌, ◌++◌, eqb, length}
use Rattle.protocol.specs.Words.{pick}
use Rattle.protocol.specs.Slots.{number, view}
use Rattle.protocol.specs.declared.State.{State}
use Rattle.protocol.specs.declared.Setup.{Setup}
use Rattle.protocol.specs.Step.{step_of}
use Rattle.protocol.specs.declared.Step.{Step}
use Rattle.protocol.specs.Kinds.{on_take_ack}
use Rattle.protocol.specs.Run.{ran, legal_setup, fresh_of}

-- a legal setup, with a row for each of eight actors
pub record Legal (u : Setup) : Type 0 where
  pub legal : legal_setup u ≡ true
  pub homes8 : length u.homes ≡ 8
  pub lists8 : length u.lists ≡ 8

-- A run is a legal setup and a list of steps, any steps; the machine after it is the fold of step_of.
abbrev pub after : Setup → List Step → State
after u steps = ran (fresh_of u) steps

-- The store that acknowledged a view is the one whose ack moved that view to phase 4 in step 7:
-- the store of this step, which made next of m, if it did so, else none
unfoldable pub accepted_into : State → State → Step → ℕ → List ℕ
accepted_into m next s v =
    on_take_ack s (λ p k r. pick (eqb (number k r) v && not (eqb (view m v).phase 4) && eqb (view next v).phase 4) (p ∷ []) []) []

abbrev pub accepted : State → Step → ℕ → List ℕ
accepted m s v = accepted_into m (step_of m s).state s v

-- all the stores that acknowledged a view in a run, in order
unfoldable pub acknowledged : State → List Step → ℕ → List ℕ
acknowledged m [] v = []
acknowledged m (step ∷ steps) v = accepted m step v ++ acknowledged (step_of m step).state steps v

-- in the run, p acknowledged the view: it and no other store, once
abbrev pub AckedBy : Setup → List Step → ℕ → ℕ → Type 0
AckedBy u steps v p = acknowledged (fresh_of u) steps v ≡ p ∷ []
