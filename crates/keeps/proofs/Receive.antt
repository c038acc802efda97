-- Step 2 keeps every slot: the receiver's record joins the queue, and its message is no longer in flight. Assumes nothing.
use Prim.Native.Nat.{ℕ, ◌-◌, ◌/◌, ◌≤◌, ◌<◌}
use mathlib.Core.Path.{◌≡◌, refl, sym, ap, subst, ◌∙◌}
use mathlib.Core.Logic.{◌≢◌}
use mathlib.Core.Bool.{false≢true}
use mathlib.Core.List.{List}
use native.Mathlib.Omega.{arith}
use lib.ListN.{get_or, set, length-set}
use lib.Seq.{get_or-set_other}
use Rattle.protocol.specs.Slots.{number, no_view, no_message, view, queue, message}
use Rattle.unbroken.specs.Unbroken.{ViewSlot, MessageSlot, Unbroken}
use Rattle.protocol.specs.declared.State.{State}
use Rattle.protocol.specs.declared.View.{View}
use Rattle.protocol.specs.declared.Message.{Message}
use Rattle.unbroken.proofs.Laws.Room.{bounds_of}
use Rattle.unbroken.proofs.Laws.Fresh.{no_causes}
use Rattle.protocol.specs.Send.{joined}
use Rattle.protocol.specs.Receive.{received_view, received_of}
use Rattle.keeps.specs.Taken.{ReceiveTaken}
use Rattle.keeps.proofs.Index.{at_others}
use Rattle.keeps.proofs.Jobs.{jobs_kept, read_same, one_job, views_long}
use Rattle.keeps.proofs.Heads.{moved_job_holds}
use Rattle.keeps.proofs.Joins.{home_in_holds, join_queued, join_once}
use Rattle.keeps.proofs.Stores.{number_32, key_16}

module _ (m : State) (s : Unbroken m) (k : ℕ) (hk : k < m.made) (old : (view m (number k 1)).phase ≡ 0) where
  abbrev v : ℕ
  v = number k 1

  abbrev a : ℕ
  a = (view m (number k 1)).actor

  abbrev w : View
  w = received_view m k

  v_32 : number k 1 < 32
  v_32 = number_32 m s k 1 hk (omega arith)

  a_in : a < m.actors
  a_in = (s.view_at v v_32).actor_in (omega arith)

  received_slot : ViewSlot m.stores m.actors m.made (view m (v - 1)).actor v w
  received_slot =
      let o = s.view_at v v_32 in
      let g = s.message_at k (key_16 m s k hk) in
      record {
        causes = no_causes m.stores (v / 2);
        store_in = λ b. home_in_holds m s a a_in;
        viewlink_in = λ b. g.own_in (g.sent hk old);
        tries3 = λ b. omega arith;
        unset = λ e. absurd (omega arith);
        actor_in = λ b. a_in;
        phase5 = λ b. omega arith;
        sender_made = λ b r. omega arith;
        receiver_causes = λ b r. refl;
        two_actors = o.two_actors;
        actor_blank = o.actor_blank;
        phase_blank = λ b. absurd (omega arith);
      }

  abbrev views : List View
  views = set m.views v w

  abbrev messages : List Message
  messages = set m.messages k no_message

  others : (u : ℕ) → u ≢ v → get_or views u no_view ≡ view m u
  others u n = get_or-set_other m.views v u w no_view n

  here : get_or views v no_view ≡ w
  here = read_same m s v v_32 w refl

  received_messages : (j : ℕ) → j < 16 → MessageSlot m.stores m.made (get_or views (number j 1) no_view).phase j (get_or messages j no_message)
  received_messages =
      at_others m.messages 16 k no_message no_message s.sized.messages (key_16 m s k hk) (λ j g. MessageSlot m.stores m.made (get_or views (number j 1) no_view).phase j g)
      (let now : (get_or views v no_view).phase ≡ 1 = ap (λ (x : View). x.phase) here in
      record {
        key_made = λ e. absurd (false≢true e);
        unreceived = λ e. absurd (false≢true e);
        own_in = λ e. absurd (false≢true e);
        sent = λ b z. absurd (omega arith);
        blank = λ e. refl;
      })
      (λ j hj n. subst (λ (x : View). MessageSlot m.stores m.made x.phase j (message m j)) (sym (others (number j 1) (λ e. n (omega arith)))) (s.message_at j hj))

  pub received_kept : Unbroken (received_of m k)
  unfolding received_of
  received_kept =
      let room = (bounds_of m s).receive_room k hk old in
      let actor : (get_or views v no_view).actor ≡ a = ap (λ (x : View). x.actor) here in
      let first : (get_or views v no_view).phase ≡ 1 = ap (λ (x : View). x.phase) here in
      let same : (u : ℕ) → 1 ≤ (view m u).phase → get_or views u no_view ≡ view m u =
      λ u h. others u (λ e. let z = subst (λ (n : ℕ). 1 ≤ (view m n).phase) e h in absurd (omega arith)) in
      let only : (u : ℕ) → u ≢ v → 1 ≤ (get_or views u no_view).phase → get_or views u no_view ≡ view m u = λ u n h. others u n in
      jobs_kept m s m.made views (set m.queues a (joined (queue m a) v)) messages
      (views_long m s v v_32 w refl) (length-set m.queues a (joined (queue m a) v) ∙ s.sized.queues) (length-set m.messages k no_message ∙ s.sized.messages) s.made16 (omega arith)
      (one_job m s v v_32 w refl (moved_job_holds m s v v_32 (omega arith) m.made (view m (v - 1)).actor w received_slot (λ h. absurd (omega arith))))
      (join_once m s a a_in v v_32 old room views actor first same only)
      (join_queued m s a a_in v v_32 old room views actor first same only)
      received_messages

pub receive_kept : (m : State) → Unbroken m → (k : ℕ) → ReceiveTaken m k → Unbroken (received_of m k)
receive_kept m s k c = received_kept m s k c.key_in c.unreceived
