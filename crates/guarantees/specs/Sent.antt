-- What was sent in a run, which is read off the run alone: the sends that were taken, in their order.
use Rattle.std.specs.Prelude.{ℕ, List, [], ◌∷◌, ◌++◌, eqb, get_or}
use Rattle.protocol.specs.Words.{pick}
use Rattle.protocol.specs.declared.State.{State}
use Rattle.protocol.specs.declared.Setup.{Setup}
use Rattle.protocol.specs.Step.{step_of}
use Rattle.protocol.specs.Kinds.{on_send}
use Rattle.protocol.specs.declared.Step.{Step}
use Rattle.protocol.specs.Run.{fresh_of}

-- what a send says
pub record Said : Type 0 where
  pub from : ℕ
  pub to : ℕ
  pub own : ℕ
  pub word : ℕ
  pub causes : ℕ

abbrev pub nothing_said : Said
nothing_said = record { from = 0; to = 0; own = 0; word = 0; causes = 0 }

-- no other step says anything
abbrev pub said_by : Step → List Said
said_by s = on_send s (λ from to own word causes. record { from = from; to = to; own = own; word = word; causes = causes } ∷ []) []

-- the sends that were taken, in their order: that of interaction k stands at k
unfoldable pub sends : State → List Step → List Said
sends m [] = []
sends m (step ∷ steps) =
    let rest = sends (step_of m step).state steps in
    pick (eqb (step_of m step).answer 0) (said_by step ++ rest) rest

abbrev pub sent_as : Setup → List Step → ℕ → Said
sent_as u steps k = get_or (sends (fresh_of u) steps) k nothing_said
