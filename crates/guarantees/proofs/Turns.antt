-- What a taken step makes of a view's record that is there: one of seven turns. The kinds are walked here once.
-- Assumes nothing.
use mathlib.Core.Path.{◌≡◌, refl, sym, ap, ◌∙◌, subst}
use mathlib.Core.Bool.{Bool, true, false, ◌&&◌}
use Prim.Native.Nat.{ℕ, ◌*◌, ◌<◌}
use native.Mathlib.Omega.{arith}
use native.Mathlib.Decide.{ℕ_discrete}
use borrow.Author.Tests.{eqb-true}
use lib.Dec.{eqb}
use lib.ListN.{get_or, set}
use lib.Seq.{get_or-set_same, get_or-set_other}
use Rattle.std.proofs.lemmas.Bool.{and_parts}
use Rattle.protocol.specs.Words.{pick}
use Rattle.protocol.specs.Slots.{number, view, no_view}
use Rattle.protocol.specs.Writes.{with_record_copies, with_ack_copies, with_update_copies, with_uack_copies}
use Rattle.unbroken.specs.Unbroken.{Unbroken}
use Rattle.protocol.specs.declared.State.{State}
use Rattle.protocol.specs.declared.View.{View}
use Rattle.protocol.specs.Views.{phased}
use Rattle.protocol.specs.Rule.{head, head_view}
use Rattle.protocol.specs.Send.{sent, sent_view, awaited_view}
use Rattle.protocol.specs.Receive.{received_of, received_view}
use Rattle.protocol.specs.PreCheck.{pre_checked, checked_view}
use Rattle.protocol.specs.SendRecord.{record_sent}
use Rattle.protocol.specs.Timeout.{timed_out, timed_view}
use Rattle.protocol.specs.TakeRecord.{record_taken}
use Rattle.protocol.specs.TakeAck.{ack_taken, accepts, is_head, acked_view}
use Rattle.protocol.specs.PostCheck.{post_checked}
use Rattle.protocol.specs.TakeRepair.{repair_taken}
use Rattle.protocol.specs.SendUpdate.{update_sent}
use Rattle.protocol.specs.TakeUpdate.{update_taken}
use Rattle.protocol.specs.TakeUack.{uack_taken}
use Rattle.protocol.specs.Expire.{expired}
use Rattle.protocol.specs.Lose.{with_copies, lost}
use Rattle.protocol.specs.Sweep.{swept}
use Rattle.protocol.specs.Crash.{crashed}
use Rattle.protocol.specs.Restart.{restarted}
use Rattle.protocol.specs.Checkpoint.{checkpointed}
use Rattle.protocol.specs.Duplicate.{duplicated}
use Rattle.protocol.specs.Step.{number_of, after_of}
use Rattle.protocol.specs.declared.Step.{Step}
use Rattle.protocol.specs.declared.Step.TheVariants.{Send, Receive, PreCheck, SendRecord, Timeout, TakeRecord, TakeAck, PostCheck, TakeRepair, SendUpdate, TakeUpdate, TakeUack, Expire, Lose, Crash, Restart, Checkpoint, Duplicate}
use Rattle.keeps.proofs.Conditions.{taken_when}
use Rattle.guarantees.proofs.Heads.{Headed, headed}

pub data Turn (m : State) (s : Step) (v : ℕ) : View → Type 0 where
  stays : Turn m s v (view m v)
  received : (k : ℕ) → v ≡ number k 1 → (view m v).phase ≡ 0 → Turn m s v (received_view m k)
  checked : (view m v).phase ≡ 1 → v ≡ head m (view m v).actor → Turn m s v (checked_view m (view m v))
  sends : (view m v).phase ≡ 2 → Turn m s v (phased 3 (view m v))
  timed : (p : ℕ) → (view m v).phase ≡ 3 → Turn m s v (timed_view p (view m v))
  acked : (p k r : ℕ) → s ≡ TakeAck p k r → v ≡ number k r → (view m v).phase ≡ 3 → (view m v).store ≡ p → Turn m s v (phased 4 (view m v))
  settled : (view m v).phase ≡ 4 → v ≡ head m (view m v).actor → Turn m s v (phased 5 (view m v))

module _ (m : State) (u : Unbroken m) (v : ℕ) (h : v < m.made * 2) where
  -- one view is written: that one turns, the others stay
  one : (s : Step) (i : ℕ) (w : View) → i < 32 → (v ≡ i → Turn m s v w) → Turn m s v (get_or (set m.views i w) v no_view)
  one s i w hi f = go (ℕ_discrete v i)
    where
      go : Dec (v ≡ i) → Turn m s v (get_or (set m.views i w) v no_view)
      go (yes e) = rw (ap (λ (x : ℕ). get_or (set m.views i w) x no_view) e ∙ get_or-set_same m.views i w no_view (omega (arith, u.sized.views))) (f e)
      go (no n) = rw (get_or-set_other m.views i v w no_view n) stays

  head32 : (a n : ℕ) → Headed m a n → head m a < 32
  head32 a n g = omega (arith, u.made16, g.made)

  -- a head in the phase n, read as the view v
  of_head : (P : View → Type 0) (a n : ℕ) → Headed m a n → v ≡ head m a → ((view m v).phase ≡ n → v ≡ head m (view m v).actor → P (view m v)) → P (head_view m a)
  of_head P a n g e f =
      let x : head_view m a ≡ view m v = ap (view m) (sym e) in
      subst P (sym x) (f (rw e g.phase) (rw e (ap (head m) (sym g.owner))))

  -- a number of copies is written: the view stays
  counted : (s : Step) (what p i n : ℕ) → Turn m s v (view (with_copies m what p i n) v)
  counted s what p i n = go (eqb what 0) (eqb what 1) (eqb what 2)
    where
      go : (a b c : Bool) → Turn m s v (view (pick a (with_record_copies m p i n) (pick b (with_ack_copies m p i n) (pick c (with_update_copies m p i n) (with_uack_copies m p i n)))) v)
      go true b c = stays
      go false true c = stays
      go false false true = stays
      go false false false = stays

  pub turns : (s : Step) → number_of m s ≡ 0 → Turn m s v (view (after_of m s) v)
  unfolding sent received_of pre_checked record_sent timed_out record_taken ack_taken post_checked repair_taken update_sent update_taken uack_taken expired lost swept crashed restarted checkpointed duplicated
  turns (Send from to own word causes) e =
      let t = taken_when m (Send from to own word causes) e in
      let room = t.room in
      let z = u.sized.views in
      rw (
        get_or-set_other (set m.views (number m.made 0) (sent_view m from to own word causes)) (number m.made 1) v (awaited_view to) no_view (λ x. let y : ⊥ = omega arith in y),
        get_or-set_other m.views (number m.made 0) v (sent_view m from to own word causes) no_view (λ x. let y : ⊥ = omega arith in y),
      ) stays
  turns (Receive k) e =
      let t = taken_when m (Receive k) e in
      one (Receive k) (number k 1) (received_view m k) (omega (arith, u.made16, t.key_in)) (λ x. received k x (rw x t.unreceived))
  turns (PreCheck a) e =
      let g = headed m u a 1 (taken_when m (PreCheck a) e) in
      one (PreCheck a) (head m a) (checked_view m (head_view m a)) (head32 a 1 g) (λ x. of_head (λ w. Turn m (PreCheck a) v (checked_view m w)) a 1 g x (λ y i. checked y i))
  turns (SendRecord a) e =
      let g = headed m u a 2 (taken_when m (SendRecord a) e) in
      one (SendRecord a) (head m a) (phased 3 (head_view m a)) (head32 a 2 g) (λ x. of_head (λ w. Turn m (SendRecord a) v (phased 3 w)) a 2 g x (λ y i. sends y))
  turns (Timeout a p) e =
      let g = headed m u a 3 (taken_when m (Timeout a p) e).head in
      one (Timeout a p) (head m a) (timed_view p (head_view m a)) (head32 a 3 g) (λ x. of_head (λ w. Turn m (Timeout a p) v (timed_view p w)) a 3 g x (λ y i. timed p y))
  turns (TakeRecord p k r) e = stays
  turns (TakeAck p k r) e =
      let t = taken_when m (TakeAck p k r) e in
      one (TakeAck p k r) (number k r) (acked_view m p (number k r)) (omega (arith, u.made16, t.place.key_in, t.place.role_in)) (λ x. go x (accepts m p (number k r)) refl)
    where
      go : v ≡ number k r → (b : Bool) → accepts m p (number k r) ≡ b → Turn m (TakeAck p k r) v (pick (accepts m p (number k r)) (phased 4 (view m (number k r))) (view m (number k r)))
      go x true c =
          let a = and_parts (is_head m (number k r) && eqb (view m (number k r)).phase 3) (eqb (view m (number k r)).store p) c in
          let b = and_parts (is_head m (number k r)) (eqb (view m (number k r)).phase 3) a.0 in
          let f = eqb-true (view m (number k r)).phase 3 b.1 in
          let g = eqb-true (view m (number k r)).store p a.1 in
          rw c (subst (λ (y : ℕ). Turn m (TakeAck p k r) v (phased 4 (view m y))) x (acked p k r refl x (rw x f) (rw x g)))
      go x false c = rw c (subst (λ (y : ℕ). Turn m (TakeAck p k r) v (view m y)) x stays)
  turns (PostCheck a) e =
      let g = headed m u a 4 (taken_when m (PostCheck a) e) in
      one (PostCheck a) (head m a) (phased 5 (head_view m a)) (head32 a 4 g) (λ x. of_head (λ w. Turn m (PostCheck a) v (phased 5 w)) a 4 g x (λ y i. settled y i))
  turns (TakeRepair k r) e = stays
  turns (SendUpdate k r) e = stays
  turns (TakeUpdate p k r) e = stays
  turns (TakeUack p k r) e = stays
  turns (Expire k r) e = stays
  turns (Lose what p k r) e = counted (Lose what p k r) what p (number k r) _
  turns (Crash p) e = stays
  turns (Restart p) e = stays
  turns (Checkpoint p) e = stays
  turns (Duplicate what p k r) e = counted (Duplicate what p k r) what p (number k r) _
