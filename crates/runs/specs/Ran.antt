-- What a run gives, as the definitions have it.
use Rattle.std.specs.Prelude.{ℕ, ◌≡◌, List, Result, Ok, Err}
use Rattle.protocol.specs.Refusal.{number}
use Rattle.protocol.specs.Run.{run_of, Ran as Outcome}
use Rattle.protocol.specs.declared.State.{State}
use Rattle.protocol.specs.declared.refusal.Refusal.{Refusal}
use Rattle.runs.specs.declared.Counts.{Counts}
use Rattle.runs.specs.declared.Ran.{Ran}

-- no steps where it is refused
abbrev pub ran_told : State → Result Counts Refusal → Outcome
ran_told m (Ok c) = record { state = m; answer = 0; steps = c.steps; taken = c.taken }
ran_told m (Err r) = record { state = m; answer = number r; steps = 0; taken = 0 }

abbrev pub told_run : Ran → Outcome
told_run r = ran_told r.state r.ran

-- nothing is left out: two results that tell what the definition gives are one
abbrev pub OneRun : Type 0
OneRun = (book : List ℕ) (room : ℕ) (a b : Ran) → told_run a ≡ run_of book room → told_run b ≡ run_of book room → a ≡ b
