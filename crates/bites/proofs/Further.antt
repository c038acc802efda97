-- Each wrong rule, drain and walk breaks its guarantee: its run is computed. Assumes nothing.
use Prim.Native.Nat.{ℕ, ◌+◌, ◌-◌, ◌*◌, ◌≤◌, ◌<◌}
use native.Mathlib.Omega.{arith}
use mathlib.Core.Path.{◌≡◌, refl, sym, ap, ◌∙◌, subst}
use mathlib.Core.Bool.{true, false, true≢false}
use mathlib.Core.List.{List, [], ◌∷◌, ◌++◌}
use lib.Dec.{leb}
use Rattle.protocol.specs.Words.{pick, bit, all_from, table, times, all_below}
use Rattle.protocol.specs.Slots.{number, view, is_lasting}
use Rattle.protocol.specs.Setup.{legal_actor, legal_actors, legal, fresh_with}
use Rattle.protocol.specs.Broken.{slots_fine, setup_fine, rows_fine, store_fine, links_fine, view_fine, queue_fine, message_fine, repair_fine, entry_fine, records_fine, updates_fine, contents_fine, same_links, held_links_fine, viewlinks_fine, notes_fine, jobs_fine, places_fine, whole_of, broken_of}
use Rattle.protocol.specs.Closed.{closed_of}
use Rattle.protocol.specs.declared.State.{State}
use Rattle.protocol.specs.Send.{causes_known, send_no, sent}
use Rattle.protocol.specs.Receive.{receive_no, received_of}
use Rattle.protocol.specs.PreCheck.{pre_check_no, pre_checked}
use Rattle.protocol.specs.SendRecord.{send_record_no, record_sent}
use Rattle.protocol.specs.Timeout.{timeout_no, timed_out}
use Rattle.protocol.specs.TakeRecord.{take_record_no, record_taken}
use Rattle.protocol.specs.TakeAck.{take_ack_no, ack_taken}
use Rattle.protocol.specs.PostCheck.{post_check_no, post_checked}
use Rattle.protocol.specs.TakeRepair.{take_repair_no, repair_taken}
use Rattle.protocol.specs.SendUpdate.{send_update_no, update_sent}
use Rattle.protocol.specs.TakeUpdate.{take_update_no, update_taken}
use Rattle.protocol.specs.TakeUack.{take_uack_no, uack_taken}
use Rattle.protocol.specs.Expire.{expire_no, expired}
use Rattle.protocol.specs.Lose.{lose_no, lost}
use Rattle.protocol.specs.Sweep.{swept}
use Rattle.protocol.specs.Crash.{crash_no, crashed}
use Rattle.protocol.specs.Restart.{restart_no, restarted}
use Rattle.protocol.specs.Checkpoint.{checkpoint_no, checkpointed}
use Rattle.protocol.specs.declared.Step.{Step}
use Rattle.protocol.specs.declared.Step.TheVariants.{TakeAck, Crash, Restart}
use Rattle.protocol.specs.Run.{ran, fresh_of}
use Rattle.protocol.specs.Drain.{lowest, job_step, entry_step, turn_of, all_up, drain_of}
use Rattle.protocol.specs.Walk.{found_of, receipt_of, hop_of, each, visit_of, unmet, refused_walk, answer_of}
use Rattle.reaches.specs.Reaches.{keys_of}
use Rattle.guarantees.specs.Acknowledged.{accepted_into, after}
use Rattle.guarantees.specs.Guarantees.{Holds, SentCause, SentReach}
use Rattle.guarantees.proofs.Demand.{reached, one_acknowledgement, kept_for_ever_holds, stays_closed_for_ever}
use Rattle.guarantees.proofs.Sent.{told}
use Rattle.guarantees.proofs.Drained.{the_drain}
use Rattle.bites.specs.Setting.{M}
use Rattle.bites.specs.Witnesses.{W3, recorded}
use Rattle.bites.specs.Variants.{Rules, right, run_by, accepted_by, AtMostOneBy, KeptForEverBy, StaysClosedBy}
use Rattle.bites.specs.Wrong.{late_record}
use Rattle.bites.specs.Further.{accepted_again, accepting_again, two_acks, BreaksAtMostOne, wiped, wiping, BreaksKeptForEver, resent, reopened, reopening, BreaksStaysClosed, short_drain, BreaksDrain, short_walk, chain, BreaksWalk, lasting_only, visit_lasting, open_walk, sender_only, BreaksEveryWalk, BitesFurther}
use Rattle.bites.proofs.Ruled.{ruled, ran_ruled, acked_ruled, whole_along, whole_split, whole_first, step_ruled, ran_ruled_holds, acked_ruled_holds}
use Rattle.bites.proofs.Right.{course_ruled, steps_ruled, course_ruled_holds, ran_right, accepted_right, acknowledged_right, after_ruled, steps_ruled_holds}
use Rattle.bites.proofs.Witnesses.{legal_M}

-- by the rules themselves
at_most_one_right : AtMostOneBy right
at_most_one_right u l steps v = rw (acknowledged_right (fresh_of u) steps v) (one_acknowledgement.at_most_one u l steps v)

kept_right : KeptForEverBy right
kept_right u l steps step k r p hr e further =
    let h = ran_right (fresh_of u) steps in
    let a = kept_for_ever_holds u l steps step k r p hr (sym (accepted_right (ran (fresh_of u) steps) step (number k r)) ∙ rw h at e) further in
    subst (λ (m : State). Holds m p k r (view (run_by right u steps) (number k r))) (sym (ran_right (fresh_of u) (steps ++ (step ∷ further))))
    (subst (λ (m : State). Holds (after u (steps ++ (step ∷ further))) p k r (view m (number k r))) (sym h) a)

closed_right : StaysClosedBy right
closed_right u l steps further k e =
    rw (ran_right (fresh_of u) (steps ++ further)) (stays_closed_for_ever u l steps further k (rw (ran_right (fresh_of u) steps) at e))

-- 1, 2, 4: a run by wrong rules, computed without the test for a broken value
breaks_one : (rules : Rules) (steps : List Step) → whole_along rules (fresh_of M) steps ≡ true → acked_ruled rules (fresh_of M) steps (number 0 0) ≡ 0 ∷ 0 ∷ [] → BreaksAtMostOne rules steps
breaks_one rules steps w a =
    let e = acked_ruled_holds rules (fresh_of M) steps (number 0 0) w ∙ a in
    record { twice = e; refuted = λ law. let f = law M legal_M steps (number 0 0) in let z : 2 ≤ 1 = rw e at f in let y : ⊥ = omega arith in y }

pub breaks_kept : (rules : Rules) (steps : List Step) (step : Step) (further : List Step)
    → whole_along rules (fresh_of M) (steps ++ (step ∷ further)) ≡ true
    → accepted_into (ran_ruled rules (fresh_of M) steps) (ruled rules (ran_ruled rules (fresh_of M) steps) step) step (number 0 0) ≡ 0 ∷ []
    → is_lasting (ran_ruled rules (fresh_of M) (steps ++ (step ∷ further))) 0 (number 0 0) ≡ false → BreaksKeptForEver rules steps step further
breaks_kept rules steps step further x a c =
    let m = ran_ruled rules (fresh_of M) steps in
    let w = whole_split rules (fresh_of M) steps (step ∷ further) x in
    let accepts = ap (λ (n : State). accepted_by rules n step (number 0 0)) (ran_ruled_holds rules (fresh_of M) steps w.0) ∙ ap (λ (n : State). accepted_into m n step (number 0 0)) (step_ruled rules m step (whole_first rules m step further w.1)) ∙ a in
    let gone = ap (λ (n : State). is_lasting n 0 (number 0 0)) (ran_ruled_holds rules (fresh_of M) (steps ++ (step ∷ further)) x) ∙ c in
    record { accepts = accepts; gone = gone; refuted = λ law. true≢false (sym (law M legal_M steps step 0 0 0 (omega arith) accepts further).held ∙ gone) }

breaks_closed : (rules : Rules) (steps further : List Step) → whole_along rules (fresh_of M) (steps ++ further) ≡ true
    → closed_of (ran_ruled rules (fresh_of M) steps) 0 ≡ true → closed_of (ran_ruled rules (fresh_of M) (steps ++ further)) 0 ≡ false → BreaksStaysClosed rules steps further
breaks_closed rules steps further x c o =
    let closed = ap (λ (n : State). closed_of n 0) (ran_ruled_holds rules (fresh_of M) steps (whole_split rules (fresh_of M) steps further x).0) ∙ c in
    let unclosed = ap (λ (n : State). closed_of n 0) (ran_ruled_holds rules (fresh_of M) (steps ++ further) x) ∙ o in
    record { closed = closed; unclosed = unclosed; refuted = λ law. true≢false (sym (law M legal_M steps further 0 closed) ∙ unclosed) }

-- 6: the drain of a run, computed likewise
abbrev pub ruled_run : List Step → State
ruled_run steps = ran_ruled right (fresh_of M) steps

pub whole : (steps : List Step) → broken_of (ruled_run steps) ≡ false
whole steps = subst (λ (m : State). broken_of m ≡ false) (after_ruled M legal_M steps) (reached M legal_M steps).fine

breaks_drain : (steps : List Step) → all_up (ruled_run steps) ≡ true → 0 < (ruled_run steps).made → closed_of (course_ruled ((ruled_run steps).made * 22 - 1) (ruled_run steps)).state 0 ≡ false → BreaksDrain short_drain steps
unfolding short_drain
breaks_drain steps u h c =
    let run = after_ruled M legal_M steps in
    let up = ap all_up run ∙ u in
    let made : 0 < (after M steps).made = rw run h in
    let unclosed : closed_of (short_drain (after M steps)).state 0 ≡ false =
    ap (λ (m : State). closed_of (short_drain m).state 0) run ∙ rw (whole steps, u, course_ruled_holds ((ruled_run steps).made * 22 - 1) (ruled_run steps) (whole steps)) c in
    record { up = up; made = made; unclosed = unclosed; refuted = λ law. true≢false (sym ((law M legal_M steps up).closes 0 made) ∙ unclosed) }

-- 7: the walk of a run, and of a drained one
pub drained_run_holds : (steps : List Step) → all_up (after M steps) ≡ true → (drain_of (after M steps)).state ≡ ruled_run (steps ++ steps_ruled (ruled_run steps))
drained_run_holds steps up =
    (the_drain M legal_M steps up).run ∙ ap (λ (l : List Step). after M (steps ++ l)) (steps_ruled_holds M legal_M steps)
    ∙ after_ruled M legal_M (steps ++ steps_ruled (ruled_run steps))

pub caused : (steps : List Step) (k j : ℕ) → k < (ruled_run steps).made → j < 16 → bit (view (ruled_run steps) (number k 0)).causes j ≡ true → SentCause M steps k j
caused steps k j h l b =
    let run = after_ruled M legal_M steps in
    let hk : k < (after M steps).made = rw run h in
    record { low = l; set = rw (← (told M legal_M steps k hk).causes, run) b }

breaks_walk : (steps : List Step) → all_up (ruled_run steps) ≡ true → 2 < (ruled_run steps).made → bit (view (ruled_run steps) (number 2 0)).causes 1 ≡ true
    → bit (view (ruled_run steps) (number 1 0)).causes 0 ≡ true
    → times 0 (keys_of (pick (leb (ruled_run (steps ++ steps_ruled (ruled_run steps))).made 2) (refused_walk 2) (answer_of (visit_of 2 (ruled_run (steps ++ steps_ruled (ruled_run steps))) 2 ((view (ruled_run (steps ++ steps_ruled (ruled_run steps))) (number 2 0)).store + 1) unmet)))) ≡ 0
    → BreaksWalk short_walk steps
unfolding short_walk
breaks_walk steps u h a b c =
    let run = after_ruled M legal_M steps in
    let up = ap all_up run ∙ u in
    let made : 2 < (after M steps).made = rw run h in
    let reach : SentReach M steps 2 0 = SentReach.by (caused steps 2 1 h (omega arith) a) (SentReach.by (caused steps 1 0 (omega arith) (omega arith) b) SentReach.here) in
    let missing : times 0 (keys_of (short_walk (drain_of (after M steps)).state 2)) ≡ 0 =
    ap (λ (m : State). times 0 (keys_of (short_walk m 2))) (drained_run_holds steps up) ∙ rw (whole (steps ++ steps_ruled (ruled_run steps))) c in
    record { up = up; made = made; reached = reach; missing = missing; refuted = λ law. let z : ◌≡◌ {A = ℕ} 1 0 = sym ((law M legal_M steps up 2 made).once 0 reach) ∙ missing in let y : ⊥ = omega arith in y }

breaks_every_walk : (steps : List Step) → 0 < (ruled_run steps).made
    → (pick (leb (ruled_run steps).made 0) (refused_walk 2) (answer_of (visit_lasting 16 (ruled_run steps) 0 ((view (ruled_run steps) (number 0 0)).store + 1) unmet))).answer ≡ 0
    → closed_of (ruled_run steps) 0 ≡ false → BreaksEveryWalk open_walk steps
unfolding open_walk
breaks_every_walk steps h a c =
    let run = after_ruled M legal_M steps in
    let made : 0 < (after M steps).made = rw run h in
    let answered : (open_walk (after M steps) 0).answer ≡ 0 = ap (λ (m : State). (open_walk m 0).answer) run ∙ rw (whole steps) a in
    let unclosed = ap (λ (m : State). closed_of m 0) run ∙ c in
    record { made = made; answered = answered; unclosed = unclosed; refuted = λ law. true≢false (sym ((law M legal_M steps 0 made).closed answered 0 SentReach.here) ∙ unclosed) }

pub bites_further : BitesFurther
unfolding all_from table times all_below legal_actor legal_actors legal fresh_with slots_fine setup_fine rows_fine links_fine view_fine queue_fine message_fine repair_fine entry_fine records_fine updates_fine contents_fine same_links held_links_fine viewlinks_fine notes_fine store_fine jobs_fine places_fine whole_of broken_of closed_of causes_known send_no sent receive_no received_of pre_check_no pre_checked send_record_no record_sent timeout_no timed_out take_record_no record_taken take_ack_no ack_taken post_check_no post_checked take_repair_no repair_taken send_update_no update_sent take_update_no update_taken take_uack_no uack_taken expire_no expired lose_no lost swept crash_no crashed restart_no restarted checkpoint_no checkpointed lowest job_step entry_step turn_of found_of receipt_of hop_of each visit_of accepted_into ruled ran_ruled acked_ruled course_ruled whole_along accepted_again wiped resent reopened lasting_only visit_lasting
bites_further =
    record {
      at_most_one = at_most_one_right;
      kept_for_ever = kept_right;
      stays_closed = closed_right;
      accepted_again = breaks_one accepting_again two_acks refl refl;
      wiped = breaks_kept wiping recorded (TakeAck 0 0 0) (Crash 0 ∷ []) refl refl refl;
      reopened = breaks_closed reopening late_record (Crash 1 ∷ Restart 1 ∷ []) refl refl refl;
      short_drain = breaks_drain W3 refl (omega arith) refl;
      short_walk = breaks_walk chain refl (omega arith) refl refl refl;
      open_walk = breaks_every_walk sender_only (omega arith) refl refl;
    }
