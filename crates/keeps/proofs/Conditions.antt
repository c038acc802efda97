-- Each kind's number is 0 exactly if its condition holds: one law for each word of a rule, then kind by kind. Assumes nothing.
use Prim.Native.Nat.{ℕ, ◌≤◌, ◌<◌}
use mathlib.Core.Path.{◌≡◌, refl}
use mathlib.Core.Bool.{Bool, true, ◌&&◌, ◌||◌, not}
use native.Mathlib.Omega.{arith}
use Rattle.std.proofs.Common.{rules}
use Rattle.protocol.specs.Words.{bit}
use Rattle.protocol.specs.Slots.{status_number, list, is_up, queue}
use Rattle.protocol.specs.declared.State.{State}
use Rattle.protocol.specs.declared.Status.{Status}
use Rattle.protocol.specs.declared.Status.TheVariants.{ToSend, Waiting}
use Rattle.unbroken.proofs.Laws.Every.{below_at, below_each}
use Rattle.unbroken.proofs.Laws.Says.{Says, Splits, eq_says, is_says, le_splits, eq_splits, zero_splits, is_splits, and_says, or_says, not_says, not_splits, un_splits}
use Rattle.protocol.specs.Rule.{refused, outside, head_view, head_in}
use Rattle.protocol.specs.Send.{received, cause_known, causes_known, send_no}
use Rattle.protocol.specs.Receive.{receive_no}
use Rattle.protocol.specs.PreCheck.{pre_check_no}
use Rattle.protocol.specs.SendRecord.{send_record_no}
use Rattle.protocol.specs.Timeout.{is_spent, timeout_no}
use Rattle.protocol.specs.TakeRecord.{take_record_no}
use Rattle.protocol.specs.TakeAck.{take_ack_no}
use Rattle.protocol.specs.PostCheck.{post_check_no}
use Rattle.protocol.specs.TakeRepair.{take_repair_no}
use Rattle.protocol.specs.SendUpdate.{send_update_no}
use Rattle.protocol.specs.TakeUpdate.{take_update_no}
use Rattle.protocol.specs.TakeUack.{take_uack_no}
use Rattle.protocol.specs.Expire.{expire_no}
use Rattle.protocol.specs.Lose.{lose_no}
use Rattle.protocol.specs.Crash.{crash_no}
use Rattle.protocol.specs.Restart.{restart_no}
use Rattle.protocol.specs.Checkpoint.{checkpoint_no}
use Rattle.protocol.specs.Step.{number_of}
use Rattle.protocol.specs.declared.Step.{Step}
use Rattle.keeps.specs.Taken.{HeadIn, ReceivedBy, SendTaken, ReceiveTaken, TimeoutTaken, TakeRecordTaken, TakeAckTaken, TakeRepairTaken, SendUpdateTaken, TakeUpdateTaken, TakeUackTaken, ExpireTaken, CopyThere, StoreUp, RestartTaken, Taken}

-- a number is 0 exactly if a fact holds
record Zero (n : ℕ) (P : Type 0) : Type 0 where
  tells : n ≡ 0 → P
  told : P → n ≡ 0

zero_taken : Zero 0 (Unit {0})
zero_taken = record { tells = λ e. tt; told = λ u. refl }

zero_refused : {n : ℕ} {test : Bool} {rest : ℕ} {A N P : Type 0} → 1 ≤ n → Splits test A N → Zero rest P → Zero (refused n test rest) (N × P)
zero_refused e f g = search rules

zero_put : {n : ℕ} {P Q : Type 0} → Zero n P → (P → Q) → (Q → P) → Zero n Q
zero_put z f g = record { tells = λ e. f (z.tells e); told = λ q. z.told (g q) }

-- a test that fails exactly if both of its parts do
or_splits : {a b : Bool} {A B N M : Type 0} → Splits a A N → Splits b B M → Splits (a || b) (a || b ≡ true) (N × M)
or_splits e f = search rules

-- a test that fails exactly if the second of its parts does where the first holds
both_splits : {a b : Bool} {A B N M : Type 0} → Splits a A N → Splits b B M → Splits (a && b) (A × B) (A → M)
both_splits e f = search rules

-- a test that refuses where its fact doesn't hold
pub unless : {b : Bool} {P : Type 0} → Says b P → Splits (not b) (P → ⊥) P
unless s = not_splits (un_splits s)

inside : (x count : ℕ) → Splits (outside x count) (count ≤ x) (x < count)
inside x count = le_splits count x

pub head_says : (n : ℕ) (m : State) (a : ℕ) → Says (head_in n m a) ((1 ≤ (queue m a).len) × ((head_view m a).phase ≡ n))
head_says n m a = and_says (not_says (zero_splits (queue m a).len)) (eq_says (head_view m a).phase n)

-- the heads of 3, 4 and 8
head_zero : (n : ℕ) (m : State) (a : ℕ) → Zero (refused 2 (outside a m.actors) (refused 7 (not (head_in n m a)) 0)) (HeadIn n m a)
head_zero n m a = search rules

pub to_send_holds : (s : Status) → status_number s ≡ 1 → s ≡ ToSend
to_send_holds s e = search rules

pub waiting : (s : Status) → status_number s ≡ 2 → s ≡ Waiting
waiting s e = search rules

module _ (m : State) where
  -- 1
  pub received_says : (a j : ℕ) → Says (received m a j) (ReceivedBy m a j)
  received_says a j = search rules

  cause_says : (a causes j : ℕ) → Says (cause_known m a causes j) (bit causes j ≡ true → ReceivedBy m a j)
  cause_says a causes j = or_says (not_splits (is_splits (bit causes j))) (received_says a j)

  pub causes_say : (a causes : ℕ) → Says (causes_known m a causes) ((j : ℕ) → j < 16 → bit causes j ≡ true → ReceivedBy m a j)
  unfolding causes_known
  causes_say a causes =
      record {
        tells = λ e j h. (cause_says a causes j).tells (below_at 16 (cause_known m a causes) e j h);
        told = λ f. below_each 16 (cause_known m a causes) (λ j h. (cause_says a causes j).told (f j h));
      }

  send_zero : (from to own causes : ℕ) → Zero (send_no m from to own causes) (SendTaken m from to own causes)
  unfolding send_no
  send_zero from to own causes =
      zero_put
      (zero_refused (omega arith) (or_splits (or_splits (inside from m.actors) (inside to m.actors)) (inside own m.stores))
      (zero_refused (omega arith) (eq_splits from to)
      (zero_refused (omega arith) (inside m.made 16)
      (zero_refused (omega arith) (unless (is_says (bit (list m from) own)))
      (zero_refused (omega arith) (unless (causes_say from causes)) zero_taken)))))
      (λ x. record { from_in = x.0.0.0; to_in = x.0.0.1; own_in = x.0.1; others = x.1.0; room = x.1.1.0; listed = x.1.1.1.0; known = x.1.1.1.1.0 })
      (λ s. (((s.from_in, s.to_in), s.own_in), (s.others, (s.room, (s.listed, (s.known, tt))))))

  -- 2
  receive_zero : (k : ℕ) → Zero (receive_no m k) (ReceiveTaken m k)
  unfolding receive_no
  receive_zero k = search rules

  -- 5
  pub spent_splits : (a p : ℕ) → Splits (is_spent p (head_view m a)) (((head_view m a).store ≡ p) × (3 ≤ (head_view m a).tries)) ((head_view m a).store ≡ p → (head_view m a).tries < 3)
  spent_splits a p = both_splits (eq_splits (head_view m a).store p) (le_splits 3 (head_view m a).tries)

  timeout_zero : (a p : ℕ) → Zero (timeout_no m a p) (TimeoutTaken m a p)
  unfolding timeout_no
  timeout_zero a p = search rules

  -- 6
  take_record_zero : (p k r : ℕ) → Zero (take_record_no m p k r) (TakeRecordTaken m p k r)
  unfolding take_record_no
  take_record_zero p k r = search rules

  -- 7
  take_ack_zero : (p k r : ℕ) → Zero (take_ack_no m p k r) (TakeAckTaken m p k r)
  unfolding take_ack_no
  take_ack_zero p k r = search rules

  -- 9
  take_repair_zero : (k r : ℕ) → Zero (take_repair_no m k r) (TakeRepairTaken m k r)
  unfolding take_repair_no
  take_repair_zero k r = search rules

  -- 10
  send_update_zero : (k r : ℕ) → Zero (send_update_no m k r) (SendUpdateTaken m k r)
  unfolding send_update_no
  send_update_zero k r = search rules

  -- 11
  take_update_zero : (p k r : ℕ) → Zero (take_update_no m p k r) (TakeUpdateTaken m p k r)
  unfolding take_update_no
  take_update_zero p k r = search rules

  -- 12
  take_uack_zero : (p k r : ℕ) → Zero (take_uack_no m p k r) (TakeUackTaken m p k r)
  unfolding take_uack_no
  take_uack_zero p k r = search rules

  -- 13
  expire_zero : (k r : ℕ) → Zero (expire_no m k r) (ExpireTaken m k r)
  unfolding expire_no
  expire_zero k r = search rules

  -- 14 and 18
  copy_zero : (what p k r : ℕ) → Zero (lose_no m what p k r) (CopyThere m what p k r)
  unfolding lose_no
  copy_zero what p k r = search rules

  -- 15 and 17, 16
  up_zero : (p : ℕ) → Zero (refused 2 (outside p m.stores) (refused 5 (not (is_up m p)) 0)) (StoreUp m p)
  up_zero p = search rules

  restart_zero : (p : ℕ) → Zero (restart_no m p) (RestartTaken m p)
  unfolding restart_no
  restart_zero p = search rules

  number_zero : (s : Step) → Zero (number_of m s) (Taken m s)
  unfolding pre_check_no send_record_no post_check_no crash_no checkpoint_no
  number_zero s = search (rules, send_zero, receive_zero, head_zero, timeout_zero, take_record_zero, take_ack_zero, take_repair_zero, send_update_zero, take_update_zero, take_uack_zero, expire_zero, copy_zero, up_zero, restart_zero)

  -- taken exactly when the condition holds
  pub taken_when : (s : Step) → number_of m s ≡ 0 → Taken m s
  taken_when s = (number_zero s).tells

  pub when_taken : (s : Step) → Taken m s → number_of m s ≡ 0
  when_taken s = (number_zero s).told
