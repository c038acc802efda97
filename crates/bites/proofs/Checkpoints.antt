-- Each wrong crash, step 6, checkpoint and walk breaks its law: its machine is computed. Assumes nothing.
use native.Mathlib.Omega.{arith}
use mathlib.Core.Path.{◌≡◌, refl, sym, ap, subst, ◌∙◌}
use mathlib.Core.Bool.{false}
use mathlib.Core.List.Memᴰ
use mathlib.Core.List.{[], ◌∷◌}
use Rattle.protocol.specs.Slots.{shelf}
use Rattle.protocol.specs.Writes.{with_shelf}
use Rattle.protocol.specs.Words.{all_from, table, times, all_below}
use Rattle.protocol.specs.Setup.{legal_actor, legal_actors, legal, fresh_with}
use Rattle.protocol.specs.Broken.{slots_fine, setup_fine, rows_fine, links_fine, view_fine, queue_fine, message_fine, repair_fine, entry_fine, records_fine, updates_fine, contents_fine, same_links, held_links_fine, viewlinks_fine, notes_fine, store_fine, jobs_fine, places_fine, whole_of, broken_of}
use Rattle.protocol.specs.Closed.{closed_of}
use Rattle.protocol.specs.declared.State.{State}
use Rattle.protocol.specs.Send.{causes_known, send_no, sent}
use Rattle.protocol.specs.Receive.{receive_no, received_of}
use Rattle.protocol.specs.PreCheck.{pre_check_no, pre_checked}
use Rattle.protocol.specs.SendRecord.{send_record_no, record_sent}
use Rattle.protocol.specs.Timeout.{timeout_no, timed_out}
use Rattle.protocol.specs.TakeRecord.{take_record_no, record_taken}
use Rattle.protocol.specs.TakeAck.{take_ack_no, ack_taken}
use Rattle.protocol.specs.PostCheck.{post_check_no, post_checked}
use Rattle.protocol.specs.TakeRepair.{take_repair_no, repair_taken}
use Rattle.protocol.specs.SendUpdate.{send_update_no, update_sent}
use Rattle.protocol.specs.TakeUpdate.{take_update_no, update_taken}
use Rattle.protocol.specs.TakeUack.{take_uack_no, uack_taken}
use Rattle.protocol.specs.Expire.{expire_no, expired}
use Rattle.protocol.specs.Lose.{lose_no, lost}
use Rattle.protocol.specs.Sweep.{swept}
use Rattle.protocol.specs.Crash.{crash_no, crashed}
use Rattle.protocol.specs.Restart.{restart_no, restarted}
use Rattle.protocol.specs.Checkpoint.{checkpoint_no, checkpointed}
use Rattle.protocol.specs.declared.Step.TheVariants.{TakeAck, Crash}
use Rattle.protocol.specs.Run.{fresh_of}
use Rattle.protocol.specs.Walk.{found_of, receipt_of, hop_of, each, visit_of, walked_from, walk_of}
use Rattle.reaches.specs.Applies.{each_of, looked, no_entry, Applies, is_unfound}
use Rattle.reaches.proofs.Applies.{walk_refusals}
use Rattle.guarantees.specs.Acknowledged.{accepted_into}
use Rattle.bites.specs.Setting.{M}
use Rattle.bites.specs.Witnesses.{taken_only}
use Rattle.bites.specs.Variants.{right}
use Rattle.bites.specs.Checkpoints.{still_owing, owing_on, owed_of_nothing, acked_early, acking_early, forgotten, forgetting, settled, checkpointed_below, working_walk, uncheckpointed, never_checkpointed, BreaksRefusals, BitesCheckpoints}
use Rattle.bites.proofs.Ruled.{ruled, ran_ruled, acked_ruled, whole_along}
use Rattle.bites.proofs.Right.{after_ruled}
use Rattle.bites.proofs.Witnesses.{legal_M}
use Rattle.bites.proofs.Wrong.{breaks_view_links}
use Rattle.bites.proofs.Further.{breaks_kept}

abbrev never : State
never = let m = ran_ruled right (fresh_of M) settled in with_shelf m 0 (uncheckpointed (shelf m 0))

never_ruled : never_checkpointed ≡ never
never_ruled = ap (λ (m : State). with_shelf m 0 (uncheckpointed (shelf m 0))) (after_ruled M legal_M settled)

breaks_refusals : broken_of never ≡ false → Applies never 0 13 → (working_walk never 0).answer ≡ 0 → BreaksRefusals working_walk never_checkpointed
breaks_refusals b u a =
    let unfound = subst (λ (m : State). Applies m 0 13) (sym never_ruled) u in
    let answered = ap (λ (m : State). (working_walk m 0).answer) never_ruled ∙ a in
    record { unbroken = ap broken_of never_ruled ∙ b; unfound = unfound; answered = answered; refuted = λ law. (law never_checkpointed 0).none.0 answered 13 unfound }

pub bites_checkpoints : BitesCheckpoints
unfolding all_from table times all_below legal_actor legal_actors legal fresh_with slots_fine setup_fine rows_fine links_fine view_fine queue_fine message_fine repair_fine entry_fine records_fine updates_fine contents_fine same_links held_links_fine viewlinks_fine notes_fine store_fine jobs_fine places_fine whole_of broken_of closed_of causes_known send_no sent receive_no received_of pre_check_no pre_checked send_record_no record_sent timeout_no timed_out take_record_no record_taken take_ack_no ack_taken post_check_no post_checked take_repair_no repair_taken send_update_no update_sent take_update_no update_taken take_uack_no uack_taken expire_no expired lose_no lost swept crash_no crashed restart_no restarted checkpoint_no checkpointed accepted_into ruled ran_ruled acked_ruled whole_along found_of receipt_of hop_of each visit_of walked_from walk_of each_of looked still_owing acked_early forgotten checkpointed_below working_walk
bites_checkpoints =
    record {
      refusals = walk_refusals;
      still_owing = breaks_kept owing_on owed_of_nothing (TakeAck 0 0 0) [] refl refl refl;
      acked_early = breaks_kept acking_early taken_only (TakeAck 0 0 0) (Crash 0 ∷ []) refl refl refl;
      forgotten = breaks_view_links forgetting settled 0 1 0 refl refl refl refl refl (λ e. omega arith);
      working_walk = breaks_refusals refl (is_unfound (record { key = 0; link = 1 }) (Memᴰ.head refl) (no_entry refl)) refl;
    }
