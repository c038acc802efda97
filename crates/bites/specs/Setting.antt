-- Setup M, and the stretches of steps that the runs are made of.
use Rattle.std.specs.Prelude.{ℕ, List, [], ◌∷◌, ◌++◌, replicate}
use Rattle.protocol.specs.declared.Setup.{Setup}
use Rattle.protocol.specs.declared.Step.{Step}
use Rattle.protocol.specs.declared.Step.TheVariants.{Send, PreCheck, SendRecord, Timeout, TakeRecord, TakeAck, PostCheck, SendUpdate, TakeUpdate, TakeUack, Lose, Checkpoint}

-- Setup M: three stores, actor 0 home 0 list 5, actor 1 home 1 list 6.
abbrev pub M : Setup
M = record { stores = 3; actors = 2; homes = 0 ∷ 1 ∷ replicate 6 0; lists = 5 ∷ 6 ∷ replicate 6 0 }

-- S: send 0 to 1, own 0, data 7, no causes.
abbrev pub S : Step
S = Send 0 1 0 7 0

-- an actor's record is pre-checked and sent
abbrev pub sends : (actor : ℕ) → List Step
sends a = PreCheck a ∷ SendRecord a ∷ []

-- .., is lost on its way to one store, and is sent to another after a timeout
abbrev pub moves : (actor key role from to : ℕ) → List Step
moves a k r from to = Lose 0 from k r ∷ Timeout a to ∷ SendRecord a ∷ []

-- .., the store takes it and makes a checkpoint
abbrev pub keeps : (key role store : ℕ) → List Step
keeps k r p = TakeRecord p k r ∷ Checkpoint p ∷ []

-- .., the actor takes the ack, and the view settles
abbrev pub settles : (actor key role store : ℕ) → List Step
settles a k r p = keeps k r p ++ TakeAck p k r ∷ PostCheck a ∷ []

-- the coordinator's update goes to a store, which makes a checkpoint, and its uack comes back
abbrev pub updates : (key role store : ℕ) → List Step
updates k r p = SendUpdate k r ∷ TakeUpdate p k r ∷ Checkpoint p ∷ TakeUack p k r ∷ []
