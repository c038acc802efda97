-- The guarantees are not empty: runs on which the premises of each hold, in the words in which it states them.
use Rattle.std.specs.Prelude.{ℕ, ◌*◌, ◌≤◌, ◌≡◌, true, false, List, [], ◌∷◌, ◌++◌}
use Rattle.protocol.specs.Words.{bit}
use Rattle.protocol.specs.Slots.{number, is_up, view, ack_copies, uack_copies, is_held, is_lasting}
use Rattle.protocol.specs.Closed.{closed_of}
use Rattle.protocol.specs.declared.Setup.{Setup}
use Rattle.protocol.specs.declared.Step.{Step}
use Rattle.protocol.specs.declared.Step.TheVariants.{Send, Receive, SendRecord, Timeout, TakeRecord, TakeAck, TakeRepair, SendUpdate, TakeUpdate, Lose, Crash, Restart, Checkpoint}
use Rattle.protocol.specs.Run.{fresh_of, run_of}
use Rattle.protocol.specs.Drain.{all_up, drain_of}
use Rattle.reads.specs.Run.{example}
use Rattle.drains.specs.Drains.{steps_of}
use Rattle.guarantees.specs.Acknowledged.{Legal, after, accepted, acknowledged, AckedBy}
use Rattle.bites.specs.Setting.{M, S, sends, moves, keeps, settles}

-- W3 S, receive, both pre-checked, sent and both records lost.
abbrev pub W3 : List Step
W3 = S ∷ Receive 0 ∷ sends 0 ++ sends 1 ++ Lose 0 0 0 0 ∷ Lose 0 1 0 1 ∷ []

-- W4 S, receive, only the sender's pre-checked, sent and lost.
abbrev pub W4 : List Step
W4 = S ∷ Receive 0 ∷ sends 0 ++ Lose 0 0 0 0 ∷ []

-- .., then timeout to 2, which takes it and makes a checkpoint
abbrev pub moved_record : List Step
moved_record = W4 ++ Timeout 0 2 ∷ SendRecord 0 ∷ keeps 0 0 2

-- W5 S, pre-check, send, store 0 takes it and makes a checkpoint, timeout to 2, ack from 0.
abbrev pub W5 : List Step
W5 = S ∷ sends 0 ++ keeps 0 0 0 ++ Timeout 0 2 ∷ TakeAck 0 0 0 ∷ []

-- W12 S, receive, 1 sends to 0 own 1 cause 0.
abbrev pub W12 : List Step
W12 = S ∷ Receive 0 ∷ Send 1 0 1 7 1 ∷ []

-- .., then the receipt of 0 settles at its home, or moves to store 2; store 1 takes the record of its effect, 1, and makes a
-- checkpoint
abbrev pub stayed_receipt : List Step
stayed_receipt = W12 ++ sends 1 ++ settles 1 0 1 1 ++ sends 1 ++ keeps 1 0 1

abbrev pub moved_receipt : List Step
moved_receipt = W12 ++ sends 1 ++ moves 1 0 1 1 2 ++ settles 1 0 1 2 ++ sends 1 ++ keeps 1 0 1

-- S, pre-check, send, store 0 takes it
abbrev pub taken_only : List Step
taken_only = S ∷ sends 0 ++ TakeRecord 0 0 0 ∷ []

-- .., and makes a checkpoint
abbrev pub recorded : List Step
recorded = S ∷ sends 0 ++ keeps 0 0 0

-- the sender's record moves to store 2, and store 1 takes the update that says so and makes a checkpoint
abbrev pub updated : List Step
updated = S ∷ sends 0 ++ moves 0 0 0 0 2 ++ settles 0 0 0 2 ++ TakeRepair 0 0 ∷ SendUpdate 0 0 ∷ TakeUpdate 1 0 0 ∷ Checkpoint 1 ∷ []

-- a crash between record and checkpoint, and the store is up again
abbrev pub never_kept : List Step
never_kept = taken_only ++ Crash 0 ∷ Restart 0 ∷ []

-- a crash between checkpoint and ack
abbrev pub down_between : List Step
down_between = recorded ++ Crash 0 ∷ []

-- .., and the ack is taken all the same, or it is lost and the actor times out; then the store is up again
abbrev pub ack_taken_down : List Step
ack_taken_down = down_between ++ TakeAck 0 0 0 ∷ []

abbrev pub ack_taken_then_up : List Step
ack_taken_then_up = ack_taken_down ++ Restart 0 ∷ []

abbrev pub ack_lost_then_up : List Step
ack_lost_then_up = down_between ++ Lose 1 0 0 0 ∷ Timeout 0 2 ∷ Restart 0 ∷ []

-- a run with the drain's steps behind it
abbrev pub drained : List Step → List Step
drained steps = steps ++ steps_of (after M steps)

-- The premise of 6 and 7: all stores are up. Then, on the drained run, the premises of 1 (each view of a closed interaction), 4 and 5:
-- the interaction is closed, and these stores acknowledged its views.
pub record Closes (steps : List Step) (key sender receiver : ℕ) : Type 0 where
  pub up : all_up (after M steps) ≡ true
  pub closed : closed_of (after M (drained steps)) key ≡ true
  pub sent : AckedBy M (drained steps) (number key 0) sender
  pub received : AckedBy M (drained steps) (number key 1) receiver

-- The premise of 1 (exactly one).
abbrev pub Acknowledged : List Step → ℕ → ℕ → Type 0
Acknowledged steps key role = 4 ≤ (view (after M steps) (number key role)).phase

-- The premise of 2: after the run, a step accepts the ack of a view's record from a store.
abbrev pub Accepts : List Step → Step → ℕ → ℕ → ℕ → Type 0
Accepts steps step key role store = accepted (after M steps) step (number key role) ≡ store ∷ []

-- The premises of 1 (causes first) and 3: .., the record is an effect's, and j is a cause of it.
pub record AcceptsEffect (steps : List Step) (step : Step) (key store j : ℕ) : Type 0 where
  pub accepts : Accepts steps step key 0 store
  pub caused : bit (view (after M steps) (number key 0)).causes j ≡ true

pub record Witnesses : Type 0 where
  -- all
  pub legal : Legal M
  -- 1, 4 to 7
  pub both_moved : Closes W3 0 2 2
  pub sender_moved : Closes W4 0 2 1
  pub store_left : Closes W5 0 2 1
  pub cause : Closes W12 0 0 1
  pub effect : Closes W12 1 1 0
  pub crash_then_ack : Closes ack_taken_then_up 0 0 1
  pub crash_then_timeout : Closes ack_lost_then_up 0 2 1
  pub crash_then_nothing : Closes never_kept 0 2 1
  -- 1: the ack that W5 takes doesn't count, and one from a store that is down does
  pub left_ack : acknowledged (fresh_of M) W5 (number 0 0) ≡ []
  pub down : is_up (after M ack_taken_down) 0 ≡ false
  pub down_ack : Acknowledged ack_taken_down 0 0
  -- 2
  pub from_moved : Accepts moved_record (TakeAck 2 0 0) 0 0 2
  pub from_down : Accepts down_between (TakeAck 0 0 0) 0 0 0
  -- .. of a store that is up, and crashes then
  pub from_up : Accepts recorded (TakeAck 0 0 0) 0 0 0
  -- .. an ack and a uack in flight; contents in a checkpointed state that nobody has acknowledged yet
  pub ack_flies : 1 ≤ ack_copies (after M recorded) 0 (number 0 0)
  pub uack_flies : 1 ≤ uack_copies (after M updated) 1 (number 0 0)
  pub lasting : is_lasting (after M recorded) 0 (number 0 0) ≡ true
  -- .. and that they are in the checkpointed state is needed: what the working state alone has, a crash loses
  pub working : is_held (after M taken_only) 0 (number 0 0) ≡ true
  pub lost : is_held (after M never_kept) 0 (number 0 0) ≡ false
  -- 1, 3
  pub after_stay : AcceptsEffect stayed_receipt (TakeAck 1 1 0) 1 1 0
  pub after_move : AcceptsEffect moved_receipt (TakeAck 1 1 0) 1 1 0
  -- 8: the example book, with room for its answers, is not refused
  pub book : (run_of example 4).answer ≡ 0

-- The bound of 6 is met, so it can't be lowered: W3 makes one interaction, and its drain takes 22 steps.
pub record BoundMet : Type 0 where
  pub made : (after M W3).made ≡ 1
  pub count : (drain_of (after M W3)).count ≡ 22
  pub least : (n : ℕ) → ((u : Setup) → Legal u → (steps : List Step) → all_up (after u steps) ≡ true → (drain_of (after u steps)).count ≤ (after u steps).made * n) → 22 ≤ n
