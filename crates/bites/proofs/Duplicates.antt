-- The repeated copies are there and their runs go on to the premises of the guarantees, and the wrong rule breaks its guarantee: each run
-- is computed. Assumes nothing.
use Prim.Native.Nat.{ℕ}
use native.Mathlib.Omega.{arith}
use mathlib.Core.Path.{◌≡◌, refl, ap, ◌∙◌}
use mathlib.Core.List.{List, [], ◌∷◌, ◌++◌}
use Rattle.protocol.specs.Words.{all_from, table, times, all_below}
use Rattle.protocol.specs.Slots.{number}
use Rattle.protocol.specs.Broken.{slots_fine, setup_fine, rows_fine, links_fine, view_fine, queue_fine, message_fine, repair_fine, entry_fine, records_fine, updates_fine, contents_fine, same_links, held_links_fine, viewlinks_fine, notes_fine, store_fine, jobs_fine, places_fine, whole_of, broken_of}
use Rattle.protocol.specs.declared.State.{State}
use Rattle.protocol.specs.Setup.{legal_actor, legal_actors, legal, fresh_with}
use Rattle.protocol.specs.Closed.{closed_of}
use Rattle.protocol.specs.Send.{causes_known, send_no, sent}
use Rattle.protocol.specs.Receive.{receive_no, received_of}
use Rattle.protocol.specs.PreCheck.{pre_check_no, pre_checked}
use Rattle.protocol.specs.SendRecord.{send_record_no, record_sent}
use Rattle.protocol.specs.Timeout.{timeout_no, timed_out}
use Rattle.protocol.specs.TakeRecord.{take_record_no, record_taken}
use Rattle.protocol.specs.TakeAck.{take_ack_no, ack_taken}
use Rattle.protocol.specs.PostCheck.{post_check_no, post_checked}
use Rattle.protocol.specs.TakeRepair.{take_repair_no, repair_taken}
use Rattle.protocol.specs.SendUpdate.{send_update_no, update_sent}
use Rattle.protocol.specs.TakeUpdate.{take_update_no, update_taken}
use Rattle.protocol.specs.TakeUack.{take_uack_no, uack_taken}
use Rattle.protocol.specs.Expire.{expire_no, expired}
use Rattle.protocol.specs.Lose.{copies, lose_no, lost}
use Rattle.protocol.specs.Sweep.{swept}
use Rattle.protocol.specs.Crash.{crash_no, crashed}
use Rattle.protocol.specs.Restart.{restart_no, restarted}
use Rattle.protocol.specs.Checkpoint.{checkpoint_no, checkpointed}
use Rattle.protocol.specs.Duplicate.{duplicated}
use Rattle.protocol.specs.Run.{fresh_of}
use Rattle.protocol.specs.declared.Step.{Step}
use Rattle.protocol.specs.declared.Step.TheVariants.{TakeAck}
use Rattle.protocol.specs.Drain.{lowest, job_step, entry_step, turn_of}
use Rattle.guarantees.specs.Acknowledged.{accepted_into}
use Rattle.bites.specs.Setting.{M}
use Rattle.bites.specs.Witnesses.{Closes}
use Rattle.bites.specs.Variants.{right}
use Rattle.bites.specs.Duplicates.{twice_record, updated_between, twice_ack, gone_and_back, twice_update, after_done, twice_uack, redirected, Repeats, finished_twice, finishing_twice, BitesDuplicates}
use Rattle.bites.proofs.Ruled.{ruled, ran_ruled, acked_ruled, whole_along}
use Rattle.bites.proofs.Right.{course_ruled, after_ruled}
use Rattle.bites.proofs.Witnesses.{legal_M, closes, accepts}
use Rattle.bites.proofs.Wrong.{breaks_view_links}

repeats : (twice further : List Step) (what p k r s q : ℕ) → copies (ran_ruled right (fresh_of M) twice) what p (number k r) ≡ 2 → Closes (twice ++ further) 0 s q
    → Repeats twice further what p k r s q
repeats twice further what p k r s q e c = record { two = ap (λ (m : State). copies m what p (number k r)) (after_ruled M legal_M twice) ∙ e; closes = c }

pub bites_duplicates : BitesDuplicates
unfolding all_from table times all_below legal_actor legal_actors legal fresh_with slots_fine setup_fine rows_fine links_fine view_fine queue_fine message_fine repair_fine entry_fine records_fine updates_fine contents_fine same_links held_links_fine viewlinks_fine notes_fine store_fine jobs_fine places_fine whole_of broken_of closed_of causes_known send_no sent receive_no received_of pre_check_no pre_checked send_record_no record_sent timeout_no timed_out take_record_no record_taken take_ack_no ack_taken post_check_no post_checked take_repair_no repair_taken send_update_no update_sent take_update_no update_taken take_uack_no uack_taken expire_no expired lose_no lost swept crash_no crashed restart_no restarted checkpoint_no checkpointed duplicated accepted_into ruled ran_ruled acked_ruled whole_along finished_twice lowest job_step entry_step turn_of course_ruled
bites_duplicates =
    record {
      repeated_record = repeats twice_record updated_between 0 1 0 1 2 1 refl (closes (twice_record ++ updated_between) 0 2 1 refl refl refl refl);
      repeated_ack = repeats twice_ack (gone_and_back ++ TakeAck 0 0 0 ∷ []) 1 0 0 0 0 1 refl (closes (twice_ack ++ gone_and_back ++ TakeAck 0 0 0 ∷ []) 0 0 1 refl refl refl refl);
      repeated_update = repeats twice_update after_done 2 1 0 0 2 1 refl (closes (twice_update ++ after_done) 0 2 1 refl refl refl refl);
      repeated_uack = repeats twice_uack redirected 3 1 0 0 2 2 refl (closes (twice_uack ++ redirected) 0 2 2 refl refl refl refl);
      back_at_store = accepts (twice_ack ++ gone_and_back) (TakeAck 0 0 0) 0 0 0 refl;
      finished_twice = breaks_view_links finishing_twice (twice_uack ++ redirected) 2 2 1 refl refl refl refl refl (λ e. omega arith);
    }
