-- What RULES.md, Repeats says of networks that repeat, bites: runs in which a record, an ack, an update and a uack come twice at the worst
-- moment, on which the premises of the guarantees hold; and a rule that is wrong about a repeated uack, with a run on which one fails.
use Rattle.std.specs.Prelude.{ℕ, ◌≡◌, List, [], ◌∷◌, ◌++◌, leb}
use Rattle.protocol.specs.Words.{pick}
use Rattle.protocol.specs.Slots.{number, entry, uack_copies}
use Rattle.protocol.specs.Writes.{with_entry}
use Rattle.protocol.specs.declared.State.{State}
use Rattle.protocol.specs.TakeUack.{finished_entry, uack_taken}
use Rattle.protocol.specs.Lose.{copies}
use Rattle.protocol.specs.Step.{after_of}
use Rattle.protocol.specs.Kinds.{on_take_uack}
use Rattle.protocol.specs.declared.Step.{Step}
use Rattle.protocol.specs.declared.Step.TheVariants.{Receive, SendRecord, Timeout, TakeAck, TakeRepair, SendUpdate, TakeUpdate, TakeUack, Lose, Crash, Restart, Checkpoint, Duplicate}
use Rattle.guarantees.specs.Acknowledged.{after}
use Rattle.bites.specs.Setting.{M, S, sends, moves, keeps, settles, updates}
use Rattle.bites.specs.Witnesses.{Closes, Accepts}
use Rattle.bites.specs.Variants.{Rules}
use Rattle.bites.specs.Wrong.{BreaksViewLinks}

-- the sender's view moves from store 0 to store 2, and the coordinator takes its repair
abbrev pub sender_moved : List Step
sender_moved = sends 0 ++ moves 0 0 0 0 2 ++ settles 0 0 0 2 ++ TakeRepair 0 0 ∷ []

-- 1. The receiver's record to store 1 comes twice: the second time when an update has written the viewlink beside the first.
abbrev pub twice_record : List Step
twice_record = S ∷ Receive 0 ∷ sends 1 ++ Duplicate 0 1 0 1 ∷ []

abbrev pub updated_between : List Step
updated_between = settles 1 0 1 1 ++ sender_moved ++ updates 0 0 1 ++ keeps 0 1 1

-- 2. The ack of the sender's record from store 0 comes twice. The sender is gone when the first comes; store 0 crashes, and is up again
-- when the sender is back, which takes the second.
abbrev pub twice_ack : List Step
twice_ack = S ∷ sends 0 ++ keeps 0 0 0 ++ Duplicate 1 0 0 0 ∷ []

abbrev pub gone_and_back : List Step
gone_and_back = Timeout 0 2 ∷ SendRecord 0 ∷ TakeAck 0 0 0 ∷ Crash 0 ∷ Restart 0 ∷ Timeout 0 0 ∷ SendRecord 0 ∷ []

-- 3. The update of the sender's entry to store 1 comes twice: the second time when the entry is done.
abbrev pub twice_update : List Step
twice_update = S ∷ Receive 0 ∷ sender_moved ++ SendUpdate 0 0 ∷ Duplicate 2 1 0 0 ∷ []

abbrev pub after_done : List Step
after_done = TakeUpdate 1 0 0 ∷ Checkpoint 1 ∷ TakeUack 1 0 0 ∷ TakeUpdate 1 0 0 ∷ Checkpoint 1 ∷ []

-- 4. The uack of that update from store 1 comes twice, both after the receiver's view moved too: the update was sent on to store 2, and
-- is lost.
abbrev pub twice_uack : List Step
twice_uack = S ∷ Receive 0 ∷ sender_moved ++ SendUpdate 0 0 ∷ TakeUpdate 1 0 0 ∷ Checkpoint 1 ∷ Duplicate 3 1 0 0 ∷ []

abbrev pub redirected : List Step
redirected =
    sends 1 ++ moves 1 0 1 1 2 ++ settles 1 0 1 2 ++ TakeRepair 0 1 ∷ SendUpdate 0 0 ∷ TakeUack 1 0 0 ∷ TakeUack 1 0 0 ∷ Lose 2 2 0 0 ∷ updates 0 1 2

-- The copy is there twice, and the run goes on to the premises of 1 and 4 to 7.
pub record Repeats (twice further : List Step) (what store key role sender receiver : ℕ) : Type 0 where
  pub two : copies (after M twice) what store (number key role) ≡ 2
  pub closes : Closes (twice ++ further) 0 sender receiver

-- A uack that comes twice finishes an update that was redirected: it counts as the destination's, whichever store it is from.
unfoldable pub finished_twice : State → ℕ → ℕ → ℕ → State
finished_twice m p k r =
    let e = entry m (number k r) in
    with_entry (uack_taken m p k r) (number k r) (finished_entry (pick (leb 2 (uack_copies m p (number k r))) e.destination p) e)

abbrev pub finishing_twice : Rules
finishing_twice m s = on_take_uack s (finished_twice m) (after_of m s)

pub record BitesDuplicates : Type 0 where
  pub repeated_record : Repeats twice_record updated_between 0 1 0 1 2 1
  pub repeated_ack : Repeats twice_ack (gone_and_back ++ TakeAck 0 0 0 ∷ []) 1 0 0 0 0 1
  pub repeated_update : Repeats twice_update after_done 2 1 0 0 2 1
  pub repeated_uack : Repeats twice_uack redirected 3 1 0 0 2 2
  -- the premise of 2: it is the repeated ack that is accepted
  pub back_at_store : Accepts (twice_ack ++ gone_and_back) (TakeAck 0 0 0) 0 0 0
  -- by the wrong rule 5 fails
  pub finished_twice : BreaksViewLinks finishing_twice (twice_uack ++ redirected) 2 2 1
