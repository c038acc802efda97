-- The step: 1 for a broken value, then by kind.
use Rattle.std.specs.Prelude.{ℕ}
use Rattle.protocol.specs.Words.{pick}
use Rattle.protocol.specs.Setup.{answered}
use Rattle.protocol.specs.Broken.{broken_of}
use Rattle.protocol.specs.declared.State.{State}
use Rattle.protocol.specs.Outcome.{Outcome}
use Rattle.protocol.specs.Rule.{decided}
use Rattle.protocol.specs.Send.{send_no, sent}
use Rattle.protocol.specs.Receive.{receive_no, received_of}
use Rattle.protocol.specs.PreCheck.{pre_check_no, pre_checked}
use Rattle.protocol.specs.SendRecord.{send_record_no, record_sent}
use Rattle.protocol.specs.Timeout.{timeout_no, timed_out}
use Rattle.protocol.specs.TakeRecord.{take_record_no, record_taken}
use Rattle.protocol.specs.TakeAck.{take_ack_no, ack_taken}
use Rattle.protocol.specs.PostCheck.{post_check_no, post_checked}
use Rattle.protocol.specs.TakeRepair.{take_repair_no, repair_taken}
use Rattle.protocol.specs.SendUpdate.{send_update_no, update_sent}
use Rattle.protocol.specs.TakeUpdate.{take_update_no, update_taken}
use Rattle.protocol.specs.TakeUack.{take_uack_no, uack_taken}
use Rattle.protocol.specs.Expire.{expire_no, expired}
use Rattle.protocol.specs.Lose.{lose_no, lost}
use Rattle.protocol.specs.Crash.{crash_no, crashed}
use Rattle.protocol.specs.Restart.{restart_no, restarted}
use Rattle.protocol.specs.Checkpoint.{checkpoint_no, checkpointed}
use Rattle.protocol.specs.Duplicate.{duplicate_no, duplicated}
use Rattle.protocol.specs.declared.Step.{Step}
use Rattle.protocol.specs.declared.Step.TheVariants.{Send, Receive, PreCheck, SendRecord, Timeout, TakeRecord, TakeAck, PostCheck, TakeRepair, SendUpdate, TakeUpdate, TakeUack, Expire, Lose, Crash, Restart, Checkpoint, Duplicate}

-- the number that refuses a step, 0 where it is taken
abbrev pub number_of : State → Step → ℕ
number_of m (Send from to own word causes) = send_no m from to own causes
number_of m (Receive k) = receive_no m k
number_of m (PreCheck a) = pre_check_no m a
number_of m (SendRecord a) = send_record_no m a
number_of m (Timeout a p) = timeout_no m a p
number_of m (TakeRecord p k r) = take_record_no m p k r
number_of m (TakeAck p k r) = take_ack_no m p k r
number_of m (PostCheck a) = post_check_no m a
number_of m (TakeRepair k r) = take_repair_no m k r
number_of m (SendUpdate k r) = send_update_no m k r
number_of m (TakeUpdate p k r) = take_update_no m p k r
number_of m (TakeUack p k r) = take_uack_no m p k r
number_of m (Expire k r) = expire_no m k r
number_of m (Lose what p k r) = lose_no m what p k r
number_of m (Crash p) = crash_no m p
number_of m (Restart p) = restart_no m p
number_of m (Checkpoint p) = checkpoint_no m p
number_of m (Duplicate what p k r) = duplicate_no m what p k r

-- the machine that the rule states
abbrev pub after_of : State → Step → State
after_of m (Send from to own word causes) = sent m from to own word causes
after_of m (Receive k) = received_of m k
after_of m (PreCheck a) = pre_checked m a
after_of m (SendRecord a) = record_sent m a
after_of m (Timeout a p) = timed_out m a p
after_of m (TakeRecord p k r) = record_taken m p k r
after_of m (TakeAck p k r) = ack_taken m p k r
after_of m (PostCheck a) = post_checked m a
after_of m (TakeRepair k r) = repair_taken m k r
after_of m (SendUpdate k r) = update_sent m k r
after_of m (TakeUpdate p k r) = update_taken m p k r
after_of m (TakeUack p k r) = uack_taken m p k r
after_of m (Expire k r) = expired m k r
after_of m (Lose what p k r) = lost m what p k r
after_of m (Crash p) = crashed m p
after_of m (Restart p) = restarted m p
after_of m (Checkpoint p) = checkpointed m p
after_of m (Duplicate what p k r) = duplicated m what p k r

-- the rule alone, for a machine that is not broken
unfoldable pub rule_of : State → Step → Outcome
rule_of m s = decided (number_of m s) m (after_of m s)

unfoldable pub step_of : State → Step → Outcome
step_of m s = pick (broken_of m) (answered 1 m) (rule_of m s)
