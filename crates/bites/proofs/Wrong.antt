-- Each wrong rule breaks a guarantee: its run is computed, and stepped through once with the test for a broken value. Assumes nothing.
use Prim.Native.Nat.{ℕ, ◌+◌, ◌-◌}
use native.Mathlib.Omega.{arith}
use mathlib.Core.Path.{◌≡◌, refl, sym, ap, ◌∙◌}
use mathlib.Core.Logic.{◌≢◌}
use mathlib.Core.Bool.{true, false}
use mathlib.Core.List.{List, [], ◌∷◌, ◌++◌, append-nil}
use lib.ListN.{get_or}
use Rattle.protocol.specs.Words.{bit, all_from, table, times, all_below}
use Rattle.protocol.specs.Slots.{number, view, lasting_viewlink as viewlink}
use Rattle.protocol.specs.Setup.{legal_actor, legal_actors, legal, fresh_with}
use Rattle.protocol.specs.Broken.{slots_fine, setup_fine, rows_fine, links_fine, view_fine, queue_fine, message_fine, repair_fine, entry_fine, records_fine, updates_fine, contents_fine, same_links, held_links_fine, viewlinks_fine, notes_fine, store_fine, jobs_fine, places_fine, whole_of, broken_of}
use Rattle.protocol.specs.Closed.{closed_of}
use Rattle.protocol.specs.declared.State.{State}
use Rattle.protocol.specs.Send.{causes_known, send_no, sent}
use Rattle.protocol.specs.Receive.{receive_no, received_of}
use Rattle.protocol.specs.PreCheck.{pre_check_no, pre_checked}
use Rattle.protocol.specs.SendRecord.{send_record_no, record_sent}
use Rattle.protocol.specs.Timeout.{timeout_no, timed_out}
use Rattle.protocol.specs.TakeRecord.{take_record_no, record_taken}
use Rattle.protocol.specs.TakeAck.{take_ack_no, ack_taken}
use Rattle.protocol.specs.PostCheck.{post_check_no, post_checked}
use Rattle.protocol.specs.TakeRepair.{take_repair_no, repair_taken}
use Rattle.protocol.specs.SendUpdate.{send_update_no, update_sent}
use Rattle.protocol.specs.TakeUpdate.{take_update_no, update_taken}
use Rattle.protocol.specs.TakeUack.{take_uack_no, uack_taken}
use Rattle.protocol.specs.Expire.{expire_no, expired}
use Rattle.protocol.specs.Lose.{lose_no, lost}
use Rattle.protocol.specs.Sweep.{swept}
use Rattle.protocol.specs.Crash.{crash_no, crashed}
use Rattle.protocol.specs.Restart.{restart_no, restarted}
use Rattle.protocol.specs.Checkpoint.{checkpoint_no, checkpointed}
use Rattle.protocol.specs.declared.Step.{Step}
use Rattle.protocol.specs.declared.Step.TheVariants.{TakeAck}
use Rattle.protocol.specs.Run.{ran, fresh_of}
use Rattle.guarantees.specs.Acknowledged.{accepted_into}
use Rattle.guarantees.proofs.Demand.{cause_links_holds, view_links_holds}
use Rattle.bites.specs.Setting.{M}
use Rattle.bites.specs.Witnesses.{moved_receipt}
use Rattle.bites.specs.Variants.{Rules, right, run_by, accepted_by, AckedIn, CauseLinksBy, ViewLinksBy}
use Rattle.bites.specs.Wrong.{overwritten, overwriting, late_record, finished_early, finishing, replaced_destination, one_redirected, leaving, second_repair, unchecked, sending_only, accepted_late, accepting, left_store, BreaksViewLinks, BreaksCauseLinks, Bites}
use Rattle.bites.proofs.Ruled.{ruled, ran_ruled, acked_ruled, whole_along, step_ruled, ran_ruled_holds, acked_ruled_holds}
use Rattle.bites.proofs.Right.{ran_right, accepted_right, acknowledged_right}
use Rattle.bites.proofs.Witnesses.{legal_M}

view_links_right : ViewLinksBy right
view_links_right u l steps further k r p q hr e a b =
    rw (ran_right (fresh_of u) (steps ++ further))
    (view_links_holds u l steps further k r p q hr (rw (ran_right (fresh_of u) steps) at e)
    (sym (acknowledged_right (fresh_of u) steps (number k r)) ∙ a) (sym (acknowledged_right (fresh_of u) steps (number k (1 - r))) ∙ b))

cause_links_right : CauseLinksBy right
cause_links_right u l steps step k p e j hj b =
    let h = ran_right (fresh_of u) steps in
    let a = cause_links_holds u l steps step k p (sym (accepted_right (ran (fresh_of u) steps) step (number k 0)) ∙ rw h at e) j hj (rw h at b) in
    rw h (a.0, acknowledged_right (fresh_of u) steps (number j 1) ∙ a.1)

-- the premises of 5 with a viewlink elsewhere refute it
no_view_links : (rules : Rules) (steps : List Step) (s r link : ℕ) → closed_of (run_by rules M steps) 0 ≡ true → AckedIn rules M steps (number 0 0) s
    → AckedIn rules M steps (number 0 1) r → viewlink (run_by rules M steps) r (number 0 1) ≡ link → link ≢ s + 1 → ¬ ViewLinksBy rules
no_view_links rules steps s r link c a b e n law =
    let f = law M legal_M steps [] 0 1 r s (omega arith) c b a in
    n (sym e ∙ rw (append-nil steps) at f)

pub breaks_view_links : (rules : Rules) (steps : List Step) (s r link : ℕ) → whole_along rules (fresh_of M) steps ≡ true
    → closed_of (ran_ruled rules (fresh_of M) steps) 0 ≡ true → acked_ruled rules (fresh_of M) steps (number 0 0) ≡ s ∷ []
    → acked_ruled rules (fresh_of M) steps (number 0 1) ≡ r ∷ [] → viewlink (ran_ruled rules (fresh_of M) steps) r (number 0 1) ≡ link
    → link ≢ s + 1 → BreaksViewLinks rules steps s r link
breaks_view_links rules steps s r link w c a b e n =
    let run = ran_ruled_holds rules (fresh_of M) steps w in
    let closed = ap (λ (m : State). closed_of m 0) run ∙ c in
    let sent = acked_ruled_holds rules (fresh_of M) steps (number 0 0) w ∙ a in
    let received = acked_ruled_holds rules (fresh_of M) steps (number 0 1) w ∙ b in
    let beside = ap (λ (m : State). viewlink m r (number 0 1)) run ∙ e in
    record {
      closed = closed;
      sent = sent;
      received = received;
      beside = beside;
      elsewhere = n;
      refuted = no_view_links rules steps s r link closed sent received beside n;
    }

-- the premises of 3 with a cause link elsewhere refute it
no_cause_links : (rules : Rules) (steps : List Step) (step : Step) (p q link : ℕ) → accepted_by rules (run_by rules M steps) step (number 1 0) ≡ p ∷ []
    → bit (view (run_by rules M steps) (number 1 0)).causes 0 ≡ true → AckedIn rules M steps (number 0 1) q
    → get_or (view (run_by rules M steps) (number 1 0)).links 0 0 ≡ link → link ≢ q → ¬ CauseLinksBy rules
no_cause_links rules steps step p q link a c b e n law =
    let f = (law M legal_M steps step 1 p a 0 (omega arith) c).1 in
    n (same_head link q (ap (λ (x : ℕ). x ∷ []) (sym e) ∙ sym f ∙ b))
  where
    same_head : (x y : ℕ) → ◌≡◌ {A = List ℕ} (x ∷ []) (y ∷ []) → x ≡ y
    same_head x y h = cc

breaks_cause_links : (rules : Rules) (steps : List Step) (step : Step) (p q link : ℕ) → whole_along rules (fresh_of M) steps ≡ true
    → broken_of (ran_ruled rules (fresh_of M) steps) ≡ false
    → accepted_into (ran_ruled rules (fresh_of M) steps) (ruled rules (ran_ruled rules (fresh_of M) steps) step) step (number 1 0) ≡ p ∷ []
    → bit (view (ran_ruled rules (fresh_of M) steps) (number 1 0)).causes 0 ≡ true → acked_ruled rules (fresh_of M) steps (number 0 1) ≡ q ∷ []
    → get_or (view (ran_ruled rules (fresh_of M) steps) (number 1 0)).links 0 0 ≡ link → link ≢ q → BreaksCauseLinks rules steps step p q link
breaks_cause_links rules steps step p q link w z a c b e n =
    let m = ran_ruled rules (fresh_of M) steps in
    let run = ran_ruled_holds rules (fresh_of M) steps w in
    let accepts = ap (λ (x : State). accepted_by rules x step (number 1 0)) run ∙ ap (λ (x : State). accepted_into m x step (number 1 0)) (step_ruled rules m step z) ∙ a in
    let caused = ap (λ (x : State). bit (view x (number 1 0)).causes 0) run ∙ c in
    let received = acked_ruled_holds rules (fresh_of M) steps (number 0 1) w ∙ b in
    let names = ap (λ (x : State). get_or (view x (number 1 0)).links 0 0) run ∙ e in
    record {
      accepts = accepts;
      caused = caused;
      received = received;
      names = names;
      elsewhere = n;
      refuted = no_cause_links rules steps step p q link accepts caused received names n;
    }

-- the runs of two wrong rules, apart from the others: one declaration has only so many steps
repairs_broken : BreaksViewLinks finishing replaced_destination 2 2 1 × BreaksViewLinks leaving second_repair 2 2 1
unfolding all_from table times all_below legal_actor legal_actors legal fresh_with slots_fine setup_fine rows_fine links_fine view_fine queue_fine message_fine repair_fine entry_fine records_fine updates_fine contents_fine same_links held_links_fine viewlinks_fine notes_fine store_fine jobs_fine places_fine whole_of broken_of closed_of causes_known send_no sent receive_no received_of pre_check_no pre_checked send_record_no record_sent timeout_no timed_out take_record_no record_taken take_ack_no ack_taken post_check_no post_checked take_repair_no repair_taken send_update_no update_sent take_update_no update_taken take_uack_no uack_taken expire_no expired lose_no lost swept crash_no crashed restart_no restarted checkpoint_no checkpointed accepted_into ruled ran_ruled acked_ruled whole_along finished_early one_redirected
repairs_broken = (
  breaks_view_links finishing replaced_destination 2 2 1 refl refl refl refl refl (λ e. omega arith),
  breaks_view_links leaving second_repair 2 2 1 refl refl refl refl refl (λ e. omega arith),
)

pub bites : Bites
unfolding all_from table times all_below legal_actor legal_actors legal fresh_with slots_fine setup_fine rows_fine links_fine view_fine queue_fine message_fine repair_fine entry_fine records_fine updates_fine contents_fine same_links held_links_fine viewlinks_fine notes_fine store_fine jobs_fine places_fine whole_of broken_of closed_of causes_known send_no sent receive_no received_of pre_check_no pre_checked send_record_no record_sent timeout_no timed_out take_record_no record_taken take_ack_no ack_taken post_check_no post_checked take_repair_no repair_taken send_update_no update_sent take_update_no update_taken take_uack_no uack_taken expire_no expired lose_no lost swept crash_no crashed restart_no restarted checkpoint_no checkpointed accepted_into ruled ran_ruled acked_ruled whole_along overwritten unchecked accepted_late
bites =
    record {
      cause_links = cause_links_right;
      view_links = view_links_right;
      overwritten = breaks_view_links overwriting late_record 2 1 1 refl refl refl refl refl (λ e. omega arith);
      finished_early = repairs_broken.0;
      one_redirected = repairs_broken.1;
      unchecked = breaks_cause_links sending_only moved_receipt (TakeAck 1 1 0) 1 2 1 refl refl refl refl refl refl (λ e. omega arith);
      accepted_late = breaks_view_links accepting left_store 0 1 3 refl refl refl refl refl (λ e. omega arith);
    }
