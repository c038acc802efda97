-- The table of marked runs holds, by computation. Assumes nothing.
use mathlib.Core.Path.{refl}
use Rattle.protocol.specs.Words.{all_from, table, times, all_below}
use Rattle.protocol.specs.Setup.{legal_actor, legal_actors, legal, fresh_with, empty_machine, setup_of}
use Rattle.protocol.specs.Broken.{slots_fine, setup_fine, rows_fine, links_fine, view_fine, queue_fine, message_fine, repair_fine, entry_fine, records_fine, updates_fine, contents_fine, same_links, held_links_fine, viewlinks_fine, notes_fine, store_fine, jobs_fine, places_fine, whole_of, broken_of}
use Rattle.protocol.specs.Closed.{closed_of}
use Rattle.protocol.specs.Send.{causes_known, send_no, sent}
use Rattle.protocol.specs.Receive.{receive_no, received_of}
use Rattle.protocol.specs.PreCheck.{pre_check_no, pre_checked}
use Rattle.protocol.specs.SendRecord.{send_record_no, record_sent}
use Rattle.protocol.specs.Timeout.{timeout_no, timed_out}
use Rattle.protocol.specs.TakeRecord.{take_record_no, record_taken}
use Rattle.protocol.specs.TakeAck.{take_ack_no, ack_taken}
use Rattle.protocol.specs.PostCheck.{post_check_no, post_checked}
use Rattle.protocol.specs.TakeRepair.{take_repair_no, repair_taken}
use Rattle.protocol.specs.SendUpdate.{send_update_no, update_sent}
use Rattle.protocol.specs.TakeUpdate.{take_update_no, update_taken}
use Rattle.protocol.specs.TakeUack.{take_uack_no, uack_taken}
use Rattle.protocol.specs.Expire.{expire_no, expired}
use Rattle.protocol.specs.Lose.{lose_no, lost}
use Rattle.protocol.specs.Sweep.{swept}
use Rattle.protocol.specs.Crash.{crash_no, crashed}
use Rattle.protocol.specs.Restart.{restart_no, restarted}
use Rattle.protocol.specs.Checkpoint.{checkpoint_no, checkpointed}
use Rattle.protocol.specs.Step.{rule_of, step_of}
use Rattle.protocol.specs.Drain.{lowest, job_step, entry_step, turn_of, course, drain_of}
use Rattle.protocol.specs.Walk.{found_of, receipt_of, hop_of, each, visit_of, walked_from, walk_of}
use Rattle.marked.specs.Marked.{same, holds, hold_all, concludes, goes, row_holds, table_holds, Claim}

pub marked_runs : Claim
unfolding all_from table times all_below legal_actor legal_actors legal fresh_with empty_machine setup_of slots_fine setup_fine rows_fine links_fine view_fine queue_fine message_fine repair_fine entry_fine records_fine updates_fine contents_fine same_links held_links_fine viewlinks_fine notes_fine store_fine jobs_fine places_fine whole_of broken_of closed_of causes_known send_no sent receive_no received_of pre_check_no pre_checked send_record_no record_sent timeout_no timed_out take_record_no record_taken take_ack_no ack_taken post_check_no post_checked take_repair_no repair_taken send_update_no update_sent take_update_no update_taken take_uack_no uack_taken expire_no expired lose_no lost swept crash_no crashed restart_no restarted checkpoint_no checkpointed rule_of step_of lowest job_step entry_step turn_of course drain_of found_of receipt_of hop_of each visit_of walked_from walk_of same holds hold_all concludes goes row_holds table_holds
marked_runs = refl
