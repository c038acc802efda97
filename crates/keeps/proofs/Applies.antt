-- The answer of a step is the lowest number that applies to it: each kind's tests, in the order of their numbers, hold exactly if the
-- rows of the table do. Assumes nothing.
use Prim.Native.Nat.{ℕ, ◌≤◌}
use mathlib.Core.Path.{◌≡◌, refl, sym, ap, subst, ◌∙◌}
use mathlib.Core.Logic.{◌⊎◌, inl, inr, ⊎_elim}
use mathlib.Core.Bool.{Bool, true, false, ◌||◌, not, false≢true}
use mathlib.Core.List.Memᴰ
use mathlib.Core.List.{List, [], ◌∷◌, Memᴰ}
use native.Mathlib.Omega.{arith}
use lib.Dec.{leb, eqb}
use borrow.Author.Tests.{not-true, not-false, eq-eqb, eqb-true, le-leb, leb-true}
use Rattle.std.proofs.lemmas.Bool.{both_ways, not_from_false, or_parts}
use Rattle.std.proofs.Common.{rules}
use Rattle.protocol.specs.Words.{pick, bit}
use Rattle.protocol.specs.Slots.{number, status_number, list, is_up, view, repair, entry, record_copies, ack_copies, update_copies, uack_copies}
use Rattle.protocol.specs.Broken.{broken_of}
use Rattle.protocol.specs.declared.State.{State}
use Rattle.protocol.specs.declared.Entry.{Entry}
use Rattle.protocol.specs.Rule.{outside, head_view, head_in}
use Rattle.protocol.specs.Send.{received, cause_known, causes_known, send_no}
use Rattle.protocol.specs.Receive.{receive_no}
use Rattle.protocol.specs.PreCheck.{pre_check_no}
use Rattle.protocol.specs.SendRecord.{send_record_no}
use Rattle.protocol.specs.Timeout.{is_spent, timeout_no}
use Rattle.protocol.specs.TakeRecord.{take_record_no}
use Rattle.protocol.specs.TakeAck.{take_ack_no}
use Rattle.protocol.specs.PostCheck.{post_check_no}
use Rattle.protocol.specs.TakeRepair.{take_repair_no}
use Rattle.protocol.specs.SendUpdate.{send_update_no}
use Rattle.protocol.specs.TakeUpdate.{take_update_no}
use Rattle.protocol.specs.TakeUack.{take_uack_no}
use Rattle.protocol.specs.Expire.{expire_no}
use Rattle.protocol.specs.Lose.{copies, lose_no}
use Rattle.protocol.specs.Crash.{crash_no}
use Rattle.protocol.specs.Restart.{restart_no}
use Rattle.protocol.specs.Checkpoint.{checkpoint_no}
use Rattle.protocol.specs.Step.{number_of, step_of}
use Rattle.protocol.specs.declared.Step.{Step}
use Rattle.protocol.specs.declared.Step.TheVariants.{Send, Receive, PreCheck, SendRecord, Timeout, TakeRecord, TakeAck, PostCheck, TakeRepair, SendUpdate, TakeUpdate, TakeUack, Expire, Lose, Crash, Restart, Checkpoint, Duplicate}
use Rattle.unbroken.proofs.Laws.Every.{below_fails}
use Rattle.unbroken.proofs.Laws.Tests.{by_test, or_else, or_of}
use Rattle.unbroken.proofs.Laws.Says.{Says, eq_says, is_says, zero_splits, put_says}
use Rattle.keeps.proofs.Conditions.{waiting, to_send_holds, unless, spent_splits, head_says, received_says, causes_say}
use Rattle.keeps.proofs.Cases.{step_case}
use Rattle.unbroken.specs.Lowest.{IsLowest}
use Rattle.keeps.specs.Applies.{Thing, actor, store, key, role, what, named, In, Needs, Applies, is_broken, is_outside, to_itself, is_full, record_down, update_down, crash_down, checkpoint_down, restart_up, is_missing, own_unlisted, timeout_unlisted, timeout_current, unreceived, StepRefusals}
use Rattle.unbroken.proofs.Laws.Lowest.{lowest, lowest_put, lacks, Test, ◌if◌, first, rising, Has, Each, each_has, has_low, tests_lowest}

module _ (m : State) where
  -- what isn't in this machine
  abbrev out : Thing → Bool
  out (actor a) = outside a m.actors
  out (store p) = outside p m.stores
  out (key k) = outside k m.made
  out (role r) = outside r 2
  out (what w) = outside w 4

  out_says : (x : Thing) → Says (out x) (In m x → ⊥)
  out_says x = search rules

  -- one of a list isn't, in the words of the rules
  abbrev or_out : Bool → List Thing → Bool
  or_out b [] = b
  or_out b (x ∷ l) = or_out (b || out x) l

  abbrev any_out : List Thing → Bool
  any_out [] = false
  any_out (x ∷ l) = or_out (out x) l

  or_first : (b : Bool) (l : List Thing) → b ≡ true → or_out b l ≡ true
  or_first b [] e = e
  or_first b (x ∷ l) e = or_first (b || out x) l (or_of b (out x) (λ f. absurd (both_ways b f e)))

  or_told : (b : Bool) (l : List Thing) (x : Thing) → Memᴰ x l → out x ≡ true → or_out b l ≡ true
  or_told b [] x h o = absurd (Memᴰ.not-nil h)
  or_told b (y ∷ l) x h o =
      ⊎_elim (λ e. or_first (b || out y) l (or_of b (out y) (λ f. sym (ap out e) ∙ o))) (λ g. or_told (b || out y) l x g o) (Memᴰ.cases_cons h)

  or_tells : (b : Bool) (l : List Thing) → or_out b l ≡ true → (b ≡ true) ⊎ ((x : Thing) × Memᴰ x l × (out x ≡ true))
  or_tells b [] e = inl e
  or_tells b (y ∷ l) e =
      ⊎_elim (λ h. by_test b (λ f. inl f) (λ f. inr (y, Memᴰ.head refl, or_else b (out y) h f))) (λ x. inr (x.0, Memᴰ.tail x.1, x.2)) (or_tells (b || out y) l e)

  any_tells : (l : List Thing) → any_out l ≡ true → (x : Thing) × Memᴰ x l × (In m x → ⊥)
  any_tells [] e = absurd (false≢true e)
  any_tells (y ∷ l) e =
      ⊎_elim (λ h. (y, Memᴰ.head refl, (out_says y).tells h)) (λ x. (x.0, Memᴰ.tail x.1, (out_says x.0).tells x.2)) (or_tells (out y) l e)

  any_told : (l : List Thing) (x : Thing) → Memᴰ x l → (In m x → ⊥) → any_out l ≡ true
  any_told l x e f = search (rules, or_first, out_says, or_told)

  -- the tests of a kind behind that, and what they say
  record Rows (s : Step) : Type 0 where
    tests : List Test
    rises : rising 3 tests ≡ true
    number : number_of m s ≡ first ((2 if any_out (named s)) ∷ tests)
    missing : (Needs m s → ⊥) → Has 7 tests
    tells : Each (Applies m s) tests

  -- a kind that needs a phase, a status or a copy and no more
  plain : (s : Step) {b : Bool} → Says b (Needs m s → ⊥) → number_of m s ≡ first ((2 if any_out (named s)) ∷ (7 if b) ∷ []) → Rows s
  plain s {b} y e = record { tests = (7 if b) ∷ []; rises = refl; number = e; missing = λ n. inl (refl, y.told n); tells = (λ h. is_missing (y.tells h), tt) }

  -- .. of a store that is up
  unfoldable plain_up : (s : Step) (p : ℕ) {b : Bool} → Says b (Needs m s → ⊥) → (is_up m p ≡ false → Applies m s 5)
      → number_of m s ≡ first ((2 if any_out (named s)) ∷ (5 if not (is_up m p)) ∷ (7 if b) ∷ []) → Rows s
  plain_up s p {b} y d e =
      record {
        tests = (5 if not (is_up m p)) ∷ (7 if b) ∷ [];
        rises = refl;
        number = e;
        missing = λ n. inr (inl (refl, y.told n));
        tells = (λ h. d (not-true (is_up m p) h), (λ h. is_missing (y.tells h), tt));
      }

  -- a kind that needs a store that is up and no more
  unfoldable only_up : (s : Step) (p : ℕ) → ((Needs m s → ⊥) → ⊥) → (is_up m p ≡ false → Applies m s 5)
      → number_of m s ≡ first ((2 if any_out (named s)) ∷ (5 if not (is_up m p)) ∷ []) → Rows s
  only_up s p y d e =
      record {
        tests = (5 if not (is_up m p)) ∷ [];
        rises = refl;
        number = e;
        missing = λ n. absurd (y n);
        tells = (λ h. d (not-true (is_up m p) h), tt);
      }

  -- a copy isn't there
  no_copy : (n : ℕ) → Says (eqb n 0) (1 ≤ n → ⊥)
  no_copy n = lacks (zero_splits n)

  cause_fails : (from to own word causes : ℕ) → not (causes_known m from causes) ≡ true → Applies m (Send from to own word causes) 9
  unfolding causes_known
  cause_fails from to own word causes e =
      let x = below_fails 16 (cause_known m from causes) (not-true (causes_known m from causes) e) in
      let j : ℕ = x.0 in
      let f : cause_known m from causes j ≡ false = x.2 in
      unreceived from to own word causes j x.1 (not-false (bit causes j) (or_parts (not (bit causes j)) (received m from j) f).0)
      (λ y. absurd (both_ways (received m from j) (or_parts (not (bit causes j)) (received m from j) f).1 ((received_says m from j).told y)))

  timeout_fails : (a p : ℕ) → not (bit (list m a) p) || is_spent p (head_view m a) ≡ true → Applies m (Timeout a p) 8
  timeout_fails a p e =
      let spent : bit (list m a) p ≡ true → ((head_view m a).store ≡ p) × (3 ≤ (head_view m a).tries) =
      λ b. (spent_splits m a p).holds.tells (or_else (not (bit (list m a) p)) (is_spent p (head_view m a)) e (ap not b)) in
      by_test (bit (list m a) p) (λ b. timeout_current a p (spent b).0 (spent b).1) (λ b. timeout_unlisted a p b)

  unfoldable rows : (s : Step) → Rows s
  unfolding send_no receive_no pre_check_no send_record_no timeout_no take_record_no take_ack_no post_check_no take_repair_no send_update_no take_update_no take_uack_no expire_no lose_no crash_no restart_no checkpoint_no
  rows (Send from to own word causes) =
      record {
        tests = (3 if eqb from to) ∷ (4 if leb 16 m.made) ∷ (8 if not (bit (list m from) own)) ∷ (9 if not (causes_known m from causes)) ∷ [];
        rises = refl;
        number = refl;
        missing = λ n. absurd (n tt);
        tells = (
          λ h. to_itself from to own word causes (eqb-true from to h),
          (
            λ h. is_full from to own word causes (leb-true 16 m.made h),
            (λ h. own_unlisted from to own word causes (not-true (bit (list m from) own) h), (λ h. cause_fails from to own word causes h, tt)),
          ),
        );
      }
  rows (Receive k) = plain (Receive k) (unless (eq_says (view m (number k 1)).phase 0)).holds refl
  rows (PreCheck a) = plain (PreCheck a) (unless (head_says 1 m a)).holds refl
  rows (SendRecord a) = plain (SendRecord a) (unless (head_says 2 m a)).holds refl
  rows (Timeout a p) =
      record {
        tests = (7 if not (head_in 3 m a)) ∷ (8 if not (bit (list m a) p) || is_spent p (head_view m a)) ∷ [];
        rises = refl;
        number = refl;
        missing = λ n. inl (refl, (unless (head_says 3 m a)).holds.told n);
        tells = (λ h. is_missing ((unless (head_says 3 m a)).holds.tells h), (λ h. timeout_fails a p h, tt));
      }
  rows (TakeRecord p k r) = plain_up (TakeRecord p k r) p (no_copy (record_copies m p (number k r))) (record_down p k r) refl
  rows (TakeAck p k r) = plain (TakeAck p k r) (no_copy (ack_copies m p (number k r))) refl
  rows (PostCheck a) = plain (PostCheck a) (unless (head_says 4 m a)).holds refl
  rows (TakeRepair k r) = plain (TakeRepair k r) (unless (is_says (repair m (number k r)).flying)).holds refl
  rows (SendUpdate k r) =
      let e : Entry = entry m (number k r) in
      plain (SendUpdate k r) (unless (put_says (eq_says (status_number e.status) 1) (to_send_holds e.status) (λ h. ap status_number h))).holds refl
  rows (TakeUpdate p k r) = plain_up (TakeUpdate p k r) p (no_copy (update_copies m p (number k r))) (update_down p k r) refl
  rows (TakeUack p k r) = plain (TakeUack p k r) (no_copy (uack_copies m p (number k r))) refl
  rows (Expire k r) =
      let e : Entry = entry m (number k r) in
      plain (Expire k r) (unless (put_says (eq_says (status_number e.status) 2) (waiting e.status) (λ h. ap status_number h))).holds refl
  rows (Lose w p k r) = plain (Lose w p k r) (no_copy (copies m w p (number k r))) refl
  rows (Crash p) = only_up (Crash p) p (λ n. n tt) (crash_down p) refl
  rows (Restart p) =
      record { tests = (6 if is_up m p) ∷ []; rises = refl; number = refl; missing = λ n. absurd (n tt); tells = (λ h. restart_up p h, tt) }
  rows (Checkpoint p) = only_up (Checkpoint p) p (λ n. n tt) (checkpoint_down p) refl
  rows (Duplicate w p k r) = plain (Duplicate w p k r) (no_copy (copies m w p (number k r))) refl

  -- all tests of a step, and that they say what the table does
  abbrev all : Step → List Test
  all s = (1 if broken_of m) ∷ (2 if any_out (named s)) ∷ (rows s).tests

  told : {s : Step} {n : ℕ} → Applies m s n → Has n (all s)
  unfolding rows plain_up only_up
  told (is_broken e) = inl (refl, e)
  told (is_outside {s = s} x h n) = inr (inl (refl, any_told (named s) x h n))
  told (to_itself from to own word causes e) = inr (inr (inl (refl, eq-eqb from to e)))
  told (is_full from to own word causes l) = inr (inr (inr (inl (refl, le-leb 16 m.made l))))
  told (record_down p k r e) = inr (inr (inl (refl, not_from_false (is_up m p) e)))
  told (update_down p k r e) = inr (inr (inl (refl, not_from_false (is_up m p) e)))
  told (crash_down p e) = inr (inr (inl (refl, not_from_false (is_up m p) e)))
  told (checkpoint_down p e) = inr (inr (inl (refl, not_from_false (is_up m p) e)))
  told (restart_up p e) = inr (inr (inl (refl, e)))
  told (is_missing {s = s} n) = inr (inr ((rows s).missing n))
  told (own_unlisted from to own word causes e) = inr (inr (inr (inr (inl (refl, not_from_false (bit (list m from) own) e)))))
  told (timeout_unlisted a p e) =
      inr (inr (inr (inl (refl, or_of (not (bit (list m a) p)) (is_spent p (head_view m a)) (λ f. absurd (both_ways (not (bit (list m a) p)) f (not_from_false (bit (list m a) p) e)))))))
  told (timeout_current a p e t) = inr (inr (inr (inl (refl, or_of (not (bit (list m a) p)) (is_spent p (head_view m a)) (λ f. (spent_splits m a p).holds.told (e, t))))))
  told (unreceived from to own word causes j l b n) =
      inr (inr (inr (inr (inr (inl (refl, (unless (causes_say m from causes)).holds.told (λ f. n (f j l b))))))))

  tells_all : (s : Step) (n : ℕ) → Has n (all s) → Applies m s n
  tells_all s n h =
      each_has (Applies m s) (all s) n (λ e. is_broken e, (λ e. (let x = any_tells (named s) e in is_outside x.0 x.1 x.2), (rows s).tells)) h

  answer_is : (s : Step) → first (all s) ≡ (step_of m s).answer
  answer_is s =
      let e : number_of m s ≡ first ((2 if any_out (named s)) ∷ (rows s).tests) = (rows s).number in
      step_case m s (λ x. first (all s) ≡ x.answer) (λ b. ap (λ c. pick c 1 (first ((2 if any_out (named s)) ∷ (rows s).tests))) b)
      (λ b z. ap (λ c. pick c 1 (first ((2 if any_out (named s)) ∷ (rows s).tests))) b ∙ sym e ∙ z)
      (λ b n. ap (λ c. pick c 1 (first ((2 if any_out (named s)) ∷ (rows s).tests))) b ∙ sym e)

pub step_refusals : StepRefusals
step_refusals m s =
    let r : rising 1 (all m s) ≡ true = (rows m s).rises in
    subst (IsLowest (Applies m s)) (answer_is m s)
    (lowest (λ a. omega (arith, has_low (all m s) 1 0 r (told m a))) (lowest_put (tells_all m s) (λ n l a. told m a) (tests_lowest (all m s) 1 (omega arith) r)))
