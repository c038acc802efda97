-- The premises hold on the witnesses, by computation of their runs without the test for a broken value. Assumes nothing.
use Prim.Native.Nat.{ℕ, ◌*◌, ◌≤◌}
use native.Mathlib.Omega.{arith}
use mathlib.Core.Path.{◌≡◌, refl, ap, ◌∙◌}
use mathlib.Core.Bool.{true}
use mathlib.Core.List.{List, [], ◌∷◌, ◌++◌}
use lib.ListN.{length}
use Rattle.protocol.specs.Words.{bit, all_from, table, all_below}
use Rattle.protocol.specs.Slots.{number, view, is_up, is_held, is_lasting}
use Rattle.protocol.specs.Setup.{legal_actor, legal_actors, legal, fresh_with}
use Rattle.protocol.specs.Closed.{closed_of}
use Rattle.protocol.specs.declared.State.{State}
use Rattle.protocol.specs.Send.{causes_known, send_no, sent}
use Rattle.protocol.specs.Receive.{receive_no, received_of}
use Rattle.protocol.specs.PreCheck.{pre_check_no, pre_checked}
use Rattle.protocol.specs.SendRecord.{send_record_no, record_sent}
use Rattle.protocol.specs.Timeout.{timeout_no, timed_out}
use Rattle.protocol.specs.TakeRecord.{take_record_no, record_taken}
use Rattle.protocol.specs.TakeAck.{take_ack_no, ack_taken}
use Rattle.protocol.specs.PostCheck.{post_check_no, post_checked}
use Rattle.protocol.specs.TakeRepair.{take_repair_no, repair_taken}
use Rattle.protocol.specs.SendUpdate.{send_update_no, update_sent}
use Rattle.protocol.specs.TakeUpdate.{take_update_no, update_taken}
use Rattle.protocol.specs.TakeUack.{take_uack_no, uack_taken}
use Rattle.protocol.specs.Expire.{expire_no, expired}
use Rattle.protocol.specs.Lose.{lose_no, lost}
use Rattle.protocol.specs.Sweep.{swept}
use Rattle.protocol.specs.Crash.{crash_no, crashed}
use Rattle.protocol.specs.Restart.{restart_no, restarted}
use Rattle.protocol.specs.Checkpoint.{checkpoint_no, checkpointed}
use Rattle.protocol.specs.declared.Step.{Step}
use Rattle.protocol.specs.declared.Step.TheVariants.{TakeAck}
use Rattle.protocol.specs.Run.{fresh_of}
use Rattle.protocol.specs.Drain.{lowest, job_step, entry_step, turn_of, all_up, drain_of}
use Rattle.reads.proofs.Example.{example_runs}
use Rattle.guarantees.proofs.Drained.{the_drain}
use Rattle.guarantees.specs.Acknowledged.{Legal, after, accepted_into, acknowledged}
use Rattle.bites.specs.Setting.{M}
use Rattle.bites.specs.Witnesses.{W3, W4, moved_record, W5, W12, stayed_receipt, moved_receipt, taken_only, recorded, updated, never_kept, down_between, ack_taken_down, ack_taken_then_up, ack_lost_then_up, Closes, Accepts, AcceptsEffect, Witnesses, BoundMet}
use Rattle.bites.specs.Variants.{right}
use Rattle.bites.proofs.Ruled.{ruled, ran_ruled, acked_ruled}
use Rattle.bites.proofs.Right.{course_ruled, steps_ruled, after_ruled, accepted_ruled, acknowledged_ruled, steps_ruled_holds}

pub legal_M : Legal M
unfolding all_from legal_actor legal_actors legal
legal_M = record { legal = refl; homes8 = refl; lists8 = refl }

abbrev ruled_run : List Step → State
ruled_run steps = ran_ruled right (fresh_of M) steps

abbrev drained_run : List Step → List Step
drained_run steps = steps ++ steps_ruled (ruled_run steps)

pub closes : (steps : List Step) (k p q : ℕ) → all_up (ruled_run steps) ≡ true → closed_of (ruled_run (drained_run steps)) k ≡ true
    → acked_ruled right (fresh_of M) (drained_run steps) (number k 0) ≡ p ∷ [] → acked_ruled right (fresh_of M) (drained_run steps) (number k 1) ≡ q ∷ []
    → Closes steps k p q
closes steps k p q u c s r =
    let run = ap (λ (l : List Step). steps ++ l) (steps_ruled_holds M legal_M steps) in
    record {
      up = ap all_up (after_ruled M legal_M steps) ∙ u;
      closed = ap (λ (l : List Step). closed_of (after M l) k) run ∙ ap (λ (m : State). closed_of m k) (after_ruled M legal_M (drained_run steps)) ∙ c;
      sent = ap (λ (l : List Step). acknowledged (fresh_of M) l (number k 0)) run ∙ acknowledged_ruled M legal_M (drained_run steps) (number k 0) ∙ s;
      received = ap (λ (l : List Step). acknowledged (fresh_of M) l (number k 1)) run ∙ acknowledged_ruled M legal_M (drained_run steps) (number k 1) ∙ r;
    }

pub accepts : (steps : List Step) (s : Step) (k r p : ℕ) → accepted_into (ruled_run steps) (ruled right (ruled_run steps) s) s (number k r) ≡ p ∷ [] → Accepts steps s k r p
accepts steps s k r p e = accepted_ruled M legal_M steps s (number k r) ∙ e

accepts_effect : (steps : List Step) (s : Step) (k p j : ℕ) → accepted_into (ruled_run steps) (ruled right (ruled_run steps) s) s (number k 0) ≡ p ∷ []
    → bit (view (ruled_run steps) (number k 0)).causes j ≡ true → AcceptsEffect steps s k p j
accepts_effect steps s k p j e b =
    record { accepts = accepts steps s k 0 p e; caused = ap (λ (m : State). bit (view m (number k 0)).causes j) (after_ruled M legal_M steps) ∙ b }

pub witnesses : Witnesses
unfolding all_from table all_below fresh_with closed_of causes_known send_no sent receive_no received_of pre_check_no pre_checked send_record_no record_sent timeout_no timed_out take_record_no record_taken take_ack_no ack_taken post_check_no post_checked take_repair_no repair_taken send_update_no update_sent take_update_no update_taken take_uack_no uack_taken expire_no expired lose_no lost swept crash_no crashed restart_no restarted checkpoint_no checkpointed lowest job_step entry_step turn_of accepted_into ruled ran_ruled acked_ruled course_ruled
witnesses =
    record {
      legal = legal_M;
      both_moved = closes W3 0 2 2 refl refl refl refl;
      sender_moved = closes W4 0 2 1 refl refl refl refl;
      store_left = closes W5 0 2 1 refl refl refl refl;
      cause = closes W12 0 0 1 refl refl refl refl;
      effect = closes W12 1 1 0 refl refl refl refl;
      crash_then_ack = closes ack_taken_then_up 0 0 1 refl refl refl refl;
      crash_then_timeout = closes ack_lost_then_up 0 2 1 refl refl refl refl;
      crash_then_nothing = closes never_kept 0 2 1 refl refl refl refl;
      left_ack = acknowledged_ruled M legal_M W5 (number 0 0) ∙ refl;
      down = ap (λ (m : State). is_up m 0) (after_ruled M legal_M ack_taken_down) ∙ refl;
      down_ack = rw (after_ruled M legal_M ack_taken_down) (omega arith);
      from_moved = accepts moved_record (TakeAck 2 0 0) 0 0 2 refl;
      from_down = accepts down_between (TakeAck 0 0 0) 0 0 0 refl;
      from_up = accepts recorded (TakeAck 0 0 0) 0 0 0 refl;
      ack_flies = rw (after_ruled M legal_M recorded) (omega arith);
      uack_flies = rw (after_ruled M legal_M updated) (omega arith);
      lasting = ap (λ (m : State). is_lasting m 0 (number 0 0)) (after_ruled M legal_M recorded) ∙ refl;
      working = ap (λ (m : State). is_held m 0 (number 0 0)) (after_ruled M legal_M taken_only) ∙ refl;
      lost = ap (λ (m : State). is_held m 0 (number 0 0)) (after_ruled M legal_M never_kept) ∙ refl;
      after_stay = accepts_effect stayed_receipt (TakeAck 1 1 0) 1 1 0 refl refl;
      after_move = accepts_effect moved_receipt (TakeAck 1 1 0) 1 1 0 refl refl;
      book = example_runs.refusal;
    }

at_least : (count made n : ℕ) → count ≡ 22 → made ≡ 1 → count ≤ made * n → 22 ≤ n
at_least count made n c m h = let g : 22 ≤ 1 * n = rw (c, m) at h in omega arith

pub bound_met : BoundMet
unfolding all_from table all_below fresh_with causes_known send_no sent receive_no received_of pre_check_no pre_checked send_record_no record_sent timeout_no timed_out take_record_no record_taken take_ack_no ack_taken post_check_no post_checked take_repair_no repair_taken send_update_no update_sent take_update_no update_taken take_uack_no uack_taken expire_no expired lose_no lost swept crash_no crashed restart_no restarted checkpoint_no checkpointed lowest job_step entry_step turn_of ruled ran_ruled course_ruled
bound_met =
    let up = witnesses.both_moved.up in
    let made : (after M W3).made ≡ 1 = ap (λ (m : State). m.made) (after_ruled M legal_M W3) ∙ refl in
    let count : (drain_of (after M W3)).count ≡ 22 = (the_drain M legal_M W3 up).count ∙ ap length (steps_ruled_holds M legal_M W3) ∙ refl in
    record { made = made; count = count; least = λ n f. at_least (drain_of (after M W3)).count (after M W3).made n count made (f M legal_M W3 up) }
