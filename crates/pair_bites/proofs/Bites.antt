-- The runs are computed, with their drain and the walk of the forecast; a wrong check says of the sends what is not so. Assumes nothing.
use Prim.Native.Nat.{ℕ, ◌<◌}
use native.Mathlib.Omega.{arith}
use mathlib.Core.Path.{◌≡◌, refl, sym, ap, ◌∙◌}
use mathlib.Core.Logic.{◌≢◌}
use mathlib.Core.Bool.{Bool, true, false}
use mathlib.Core.List.{List, ◌++◌}
use lib.Dec.{leb}
use Rattle.protocol.specs.Words.{pick, all_from, table, all_below}
use Rattle.protocol.specs.Slots.{number, view}
use Rattle.protocol.specs.Setup.{fresh_with}
use Rattle.protocol.specs.Closed.{closed_of}
use Rattle.protocol.specs.declared.State.{State}
use Rattle.protocol.specs.Walk.{Walked, found_of, receipt_of, hop_of, each, visit_of, walked_from, refused_walk, answer_of, walk_of}
use Rattle.protocol.specs.Send.{causes_known, send_no, sent}
use Rattle.protocol.specs.Receive.{receive_no, received_of}
use Rattle.protocol.specs.PreCheck.{pre_check_no, pre_checked}
use Rattle.protocol.specs.SendRecord.{send_record_no, record_sent}
use Rattle.protocol.specs.Timeout.{timeout_no, timed_out}
use Rattle.protocol.specs.TakeRecord.{take_record_no, record_taken}
use Rattle.protocol.specs.TakeAck.{take_ack_no, ack_taken}
use Rattle.protocol.specs.PostCheck.{post_check_no, post_checked}
use Rattle.protocol.specs.TakeRepair.{take_repair_no, repair_taken}
use Rattle.protocol.specs.SendUpdate.{send_update_no, update_sent}
use Rattle.protocol.specs.TakeUpdate.{take_update_no, update_taken}
use Rattle.protocol.specs.TakeUack.{take_uack_no, uack_taken}
use Rattle.protocol.specs.Expire.{expire_no, expired}
use Rattle.protocol.specs.Lose.{lose_no, lost}
use Rattle.protocol.specs.Sweep.{swept}
use Rattle.protocol.specs.Crash.{crash_no, crashed}
use Rattle.protocol.specs.Restart.{restart_no, restarted}
use Rattle.protocol.specs.Checkpoint.{checkpoint_no, checkpointed}
use Rattle.protocol.specs.declared.Step.{Step}
use Rattle.protocol.specs.Drain.{lowest, job_step, entry_step, turn_of, all_up, drain_of}
use Rattle.guarantees.specs.Acknowledged.{after}
use Rattle.guarantees.specs.Sent.{sent_as}
use Rattle.guarantees.specs.Guarantees.{SentReach}
use Rattle.guarantees.proofs.Sent.{told}
use Rattle.bites.specs.Setting.{M}
use Rattle.bites.proofs.Ruled.{ruled, ran_ruled}
use Rattle.bites.proofs.Right.{course_ruled, steps_ruled, after_ruled}
use Rattle.bites.proofs.Witnesses.{legal_M}
use Rattle.bites.proofs.Further.{ruled_run, whole, drained_run_holds, caused}
use Rattle.pairing.specs.Pair.{Checked, kind_of, bundle_of, record_of, is_rule, counted, last_sender, rule_one, two_adds, rule_two, passes_of, refused_check, answered_check, checked_of, check_of}
use Rattle.pairs.specs.Pairs.{old, scaler}
use Rattle.pair_bites.specs.Bites.{right_pair, mixed_pair, two_scalers, behind_the_weights, Says, direct_by, direct_check, receipt_by, receipt_check, any_by, any_check, BreaksAfterDrain, PairBites}

-- the machine that the drain gives, and the walk of a key in it, computed without the test for a broken value
abbrev drained : List Step → State
drained steps = ruled_run (steps ++ steps_ruled (ruled_run steps))

abbrev walk_in : State → ℕ → Walked
walk_in m k = pick (leb m.made k) (refused_walk 2) (answer_of (walked_from m k))

walk_in_holds : (steps : List Step) (k : ℕ) → walk_of (drained steps) k ≡ walk_in (drained steps) k
unfolding walk_of
walk_in_holds steps k = rw (whole (steps ++ steps_ruled (ruled_run steps)))

said : (steps : List Step) (k n : ℕ) → k < (ruled_run steps).made → (view (ruled_run steps) (number k 0)).word ≡ n → (sent_as M steps k).word ≡ n
said steps k n h e =
    let run = after_ruled M legal_M steps in
    let hk : k < (after M steps).made = rw run h in
    sym (told M legal_M steps k hk).word ∙ ap (λ (m : State). (view m (number k 0)).word) run ∙ e

checked : (steps : List Step) (rule k : ℕ) → all_up (after M steps) ≡ true → check_of (drain_of (after M steps)).state rule k ≡ pick (is_rule rule) (checked_of (drained steps) (walk_in (drained steps) k) rule (record_of (drained steps) k)) (refused_check 19)
unfolding check_of
checked steps rule k up =
    ap (λ (m : State). check_of m rule k) (drained_run_holds steps up)
    ∙ ap (λ (w : Walked). pick (is_rule rule) (checked_of (drained steps) w rule (record_of (drained steps) k)) (refused_check 19)) (walk_in_holds steps k)

says : (steps : List Step) (k n : ℕ) (one two : Bool) → all_up (ruled_run steps) ≡ true → k < (ruled_run steps).made → (view (ruled_run steps) (number k 0)).word ≡ n → kind_of n ≡ 3
    → checked_of (drained steps) (walk_in (drained steps) k) 1 (record_of (drained steps) k) ≡ answered_check one
    → checked_of (drained steps) (walk_in (drained steps) k) 2 (record_of (drained steps) k) ≡ answered_check two → Says steps k one two
says steps k n one two u h e f a b =
    let run = after_ruled M legal_M steps in
    let up = ap all_up run ∙ u in
    record { up = up; made = rw run h; forecast = ap kind_of (said steps k n h e) ∙ f; by_one = checked steps 1 k up ∙ a; by_two = checked steps 2 k up ∙ b }

-- a check that says yes though a scaler of another bundle leads to the forecast
breaks : (check : State → ℕ → ℕ → Checked) (by : State → Walked → ℕ → ℕ → Checked) → ((m : State) (k : ℕ) → check m 1 k ≡ by m (walk_of m k) 1 k)
    → (steps : List Step) (k i n o : ℕ) → all_up (ruled_run steps) ≡ true → k < (ruled_run steps).made → i < (ruled_run steps).made
    → (view (ruled_run steps) (number k 0)).word ≡ n → kind_of n ≡ 3 → (view (ruled_run steps) (number i 0)).word ≡ o → kind_of o ≡ 2 → bundle_of o ≢ bundle_of n
    → SentReach M steps k i → by (drained steps) (walk_in (drained steps) k) 1 k ≡ answered_check true → BreaksAfterDrain check steps k (answered_check true)
breaks check by same steps k i n o u h hi e f g q d r a =
    let run = after_ruled M legal_M steps in
    let up = ap all_up run ∙ u in
    let made : k < (after M steps).made = rw run h in
    let forecast : kind_of (sent_as M steps k).word ≡ 3 = ap kind_of (said steps k n h e) ∙ f in
    let wrong : check (drain_of (after M steps)).state 1 k ≡ answered_check true =
    ap (λ (m : State). check m 1 k) (drained_run_holds steps up) ∙ same (drained steps) k ∙ ap (λ (w : Walked). by (drained steps) w 1 k) (walk_in_holds steps k) ∙ a in
    record {
      up = up;
      made = made;
      forecast = forecast;
      wrong = wrong;
      refuted = λ law.
          let p = (law M legal_M steps up k made forecast 1 old).1.tells (ap (λ (c : Checked). c.passes) wrong) in
          d (ap bundle_of (sym (said steps i o hi g)) ∙ p.bundle 2 scaler i r (ap kind_of (said steps i o hi g) ∙ q) ∙ ap bundle_of (said steps k n h e));
    }

-- a check that refuses a forecast
breaks_answer : (check : State → ℕ → ℕ → Checked) (by : State → Walked → ℕ → ℕ → Checked) → ((m : State) (k : ℕ) → check m 1 k ≡ by m (walk_of m k) 1 k)
    → (steps : List Step) (k n : ℕ) → all_up (ruled_run steps) ≡ true → k < (ruled_run steps).made → (view (ruled_run steps) (number k 0)).word ≡ n → kind_of n ≡ 3
    → by (drained steps) (walk_in (drained steps) k) 1 k ≡ refused_check 20 → BreaksAfterDrain check steps k (refused_check 20)
breaks_answer check by same steps k n u h e f a =
    let run = after_ruled M legal_M steps in
    let up = ap all_up run ∙ u in
    let made : k < (after M steps).made = rw run h in
    let forecast : kind_of (sent_as M steps k).word ≡ 3 = ap kind_of (said steps k n h e) ∙ f in
    let wrong : check (drain_of (after M steps)).state 1 k ≡ refused_check 20 =
    ap (λ (m : State). check m 1 k) (drained_run_holds steps up) ∙ same (drained steps) k ∙ ap (λ (w : Walked). by (drained steps) w 1 k) (walk_in_holds steps k) ∙ a in
    record {
      up = up;
      made = made;
      forecast = forecast;
      wrong = wrong;
      refuted = λ law. let z : ◌≡◌ {A = ℕ} 20 0 = sym (ap (λ (c : Checked). c.answer) wrong) ∙ (law M legal_M steps up k made forecast 1 old).0 in let y : ⊥ = omega arith in y;
    }

direct_same : (m : State) (k : ℕ) → direct_check m 1 k ≡ direct_by m (walk_of m k) 1 k
unfolding direct_check
direct_same m k = refl

receipt_same : (m : State) (k : ℕ) → receipt_check m 1 k ≡ receipt_by m (walk_of m k) 1 k
unfolding receipt_check
receipt_same m k = refl

any_same : (m : State) (k : ℕ) → any_check m 1 k ≡ any_by m (walk_of m k) 1 k
unfolding any_check
any_same m k = refl

pub pair_bites : PairBites
unfolding all_from table all_below fresh_with closed_of causes_known send_no sent receive_no received_of pre_check_no pre_checked send_record_no record_sent timeout_no timed_out take_record_no record_taken take_ack_no ack_taken post_check_no post_checked take_repair_no repair_taken send_update_no update_sent take_update_no update_taken take_uack_no uack_taken expire_no expired lose_no lost swept crash_no crashed restart_no restarted checkpoint_no checkpointed lowest job_step entry_step turn_of found_of receipt_of hop_of each visit_of walked_from ruled ran_ruled course_ruled counted last_sender rule_one two_adds rule_two passes_of checked_of
pair_bites =
    record {
      right = says right_pair 2 50331655 true true refl (omega arith) refl refl refl refl;
      mixed = says mixed_pair 2 50331655 false false refl (omega arith) refl refl refl refl;
      second = says two_scalers 3 50331655 false false refl (omega arith) refl refl refl refl;
      behind = says behind_the_weights 3 50331655 false false refl (omega arith) refl refl refl refl;
      direct = breaks direct_check direct_by direct_same behind_the_weights 3 0 50331655 33554440 refl (omega arith) (omega arith) refl refl refl refl (λ e. omega arith)
          (SentReach.by (caused behind_the_weights 3 1 (omega arith) (omega arith) refl) (SentReach.by (caused behind_the_weights 1 0 (omega arith) (omega arith) refl) SentReach.here)) refl;
      receipt = breaks_answer receipt_check receipt_by receipt_same right_pair 2 50331655 refl (omega arith) refl refl refl;
      forgotten = breaks any_check any_by any_same two_scalers 3 2 50331655 33554440 refl (omega arith) (omega arith) refl refl refl refl (λ e. omega arith)
          (SentReach.by (caused two_scalers 3 2 (omega arith) (omega arith) refl) SentReach.here) refl;
    }
