-- Step 1 keeps every slot: the sender's record joins the queue, the receiver's waits, and the message is in flight. Assumes nothing.
use Prim.Native.Nat.{ℕ, ◌+◌, ◌-◌, ◌≤◌, ◌<◌}
use mathlib.Core.Path.{◌≡◌, refl, sym, ap, subst, ◌∙◌}
use mathlib.Core.Logic.{◌≢◌}
use mathlib.Core.Bool.{true, true≢false}
use mathlib.Core.List.{List}
use native.Mathlib.Omega.{arith}
use native.Mathlib.Decide.{ℕ_discrete}
use lib.ListN.{length, get_or, set, length-set}
use lib.Seq.{get_or-set_same, get_or-set_other}
use Rattle.std.proofs.lemmas.Bool.{both_ways}
use Rattle.std.proofs.Common.{rules}
use Rattle.protocol.specs.Words.{bit}
use Rattle.protocol.specs.Slots.{number, no_view, no_message, view, queue, message, home}
use Rattle.unbroken.specs.Unbroken.{ViewSlot, MessageSlot, Unbroken}
use Rattle.protocol.specs.declared.State.{State}
use Rattle.protocol.specs.declared.View.{View}
use Rattle.protocol.specs.declared.Message.{Message}
use Rattle.unbroken.proofs.Laws.Every.{length_table, table_at}
use Rattle.unbroken.proofs.Laws.Room.{actors8, bounds_of}
use Rattle.unbroken.proofs.Laws.Fresh.{no_causes}
use Rattle.protocol.specs.Send.{joined, home_link, sent_view, awaited_view, sent}
use Rattle.keeps.specs.Taken.{SendTaken}
use Rattle.keeps.proofs.Index.{at_others}
use Rattle.keeps.proofs.Jobs.{Job, job_at, jobs_kept}
use Rattle.keeps.proofs.Heads.{moved_job_holds}
use Rattle.keeps.proofs.Joins.{home_in_holds, join_queued, join_once}
use Rattle.keeps.proofs.Cases.{pick_case}

module _ (m : State) (s : Unbroken m) (from to own word causes : ℕ) (c : SendTaken m from to own causes) where
  abbrev k : ℕ
  k = m.made

  abbrev sender : View
  sender = sent_view m from to own word causes

  abbrev receiver : View
  receiver = awaited_view to

  abbrev views : List View
  views = set (set m.views (number k 0) sender) (number k 1) receiver

  abbrev flying : Message
  flying = record { flying = true; own = own; word = word }

  abbrev messages : List Message
  messages = set m.messages k flying

  room : k < 16
  room = c.room

  inner_long : length (set m.views (number k 0) sender) ≡ 32
  inner_long = length-set m.views (number k 0) sender ∙ s.sized.views

  views_long : length views ≡ 32
  views_long = length-set (set m.views (number k 0) sender) (number k 1) receiver ∙ inner_long

  at_receiver : get_or views (number k 1) no_view ≡ receiver
  at_receiver = let b = room in let l = inner_long in get_or-set_same (set m.views (number k 0) sender) (number k 1) receiver no_view (omega arith)

  at_sender : get_or views (number k 0) no_view ≡ sender
  at_sender = search rules

  others : (u : ℕ) → u ≢ number k 0 → u ≢ number k 1 → get_or views u no_view ≡ view m u
  others u n n' = get_or-set_other (set m.views (number k 0) sender) (number k 1) u receiver no_view n' ∙ get_or-set_other m.views (number k 0) u sender no_view n

  -- neither view was made
  unmade : (r : ℕ) → r < 2 → (view m (number k r)).phase ≡ 0
  unmade r h = let b = room in (s.view_at (number k r) (omega arith)).phase_blank (omega arith)

  link_at : (j : ℕ) → j < 16 → get_or sender.links j 0 ≡ home_link causes (home m from) j
  link_at j h = table_at (home_link causes (home m from)) 16 0 j h

  sender_slot : (before : ℕ) → ViewSlot m.stores m.actors (k + 1) before (number k 0) sender
  sender_slot before =
      record {
        causes = record {
          long = length_table (home_link causes (home m from)) 16;
          below = λ j h b. let i = (c.known j h b).key_in in omega arith;
          link_in = λ j h b. subst (λ (n : ℕ). n < m.stores) (sym (link_at j h))
              (pick_case (λ (n : ℕ). n < m.stores) (bit causes j) _ _ (λ e. home_in_holds m s from c.from_in) (λ e. absurd (both_ways (bit causes j) e b)));
          link_blank = λ j h b. link_at j h ∙ pick_case (λ (n : ℕ). n ≡ 0) (bit causes j) _ _ (λ e. absurd (both_ways (bit causes j) b e)) (λ e. refl);
        };
        store_in = λ h. c.own_in;
        viewlink_in = λ h. home_in_holds m s to c.to_in;
        tries3 = λ h. omega arith;
        unset = λ e. absurd (omega arith);
        actor_in = λ h. c.from_in;
        phase5 = λ h. omega arith;
        sender_made = λ h r. omega arith;
        receiver_causes = λ h r. absurd (omega arith);
        two_actors = λ h r. absurd (omega arith);
        actor_blank = λ h. absurd (omega arith);
        phase_blank = λ h. absurd (omega arith);
      }

  receiver_slot : (before : ℕ) → before ≡ from → ViewSlot m.stores m.actors (k + 1) before (number k 1) receiver
  receiver_slot before e = search (rules, no_causes)

  -- the other views, with one interaction more
  other_slot : (u : ℕ) → u < 32 → u ≢ number k 0 → u ≢ number k 1 → ViewSlot m.stores m.actors (k + 1) (get_or views (u - 1) no_view).actor u (view m u)
  other_slot u h n n' =
      let o = s.view_at u h in
      record {
        causes = o.causes;
        store_in = o.store_in;
        viewlink_in = o.viewlink_in;
        tries3 = o.tries3;
        unset = o.unset;
        actor_in = λ b. o.actor_in (omega arith);
        phase5 = λ b. o.phase5 (omega arith);
        sender_made = λ b. o.sender_made (omega arith);
        receiver_causes = λ b. o.receiver_causes (omega arith);
        two_actors = λ b r e. o.two_actors (omega arith) r (e ∙ ap (λ (x : View). x.actor) (others (u - 1) (omega arith) (omega arith)));
        actor_blank = λ b. o.actor_blank (omega arith);
        phase_blank = λ b. o.phase_blank (omega arith);
      }

  jobs : (u : ℕ) → u < 32 → Job m (k + 1) (get_or views (u - 1) no_view).actor u (get_or views u no_view)
  jobs u h = go (ℕ_discrete u (number k 0)) (ℕ_discrete u (number k 1))
    where
      b : k < 16
      b = room

      before : (get_or views (number k 1 - 1) no_view).actor ≡ from
      before = let e : number k 1 - 1 ≡ number k 0 = omega arith in ap (λ (n : ℕ). (get_or views n no_view).actor) e ∙ ap (λ (x : View). x.actor) at_sender

      new_job : (r : ℕ) → r < 2 → (sender : ℕ) (w : View) → ViewSlot m.stores m.actors (k + 1) sender (number k r) w → Job m (k + 1) sender (number k r) w
      new_job r hr sender w x = let z = unmade r hr in moved_job_holds m s (number k r) (omega arith) (omega arith) (k + 1) sender w x (λ g. absurd (omega arith))

      other_job : u ≢ number k 0 → u ≢ number k 1 → Job m (k + 1) (get_or views (u - 1) no_view).actor u (view m u)
      other_job n n' =
          let o = job_at m s u h in
          record {
            view_slot = other_slot u h n n';
            repair_slot = o.repair_slot;
            entry_slot = o.entry_slot;
            record_slot = o.record_slot;
            ack_slot = o.ack_slot;
            contents_slot = o.contents_slot;
            links_slot = o.links_slot;
            ack_owed = o.ack_owed;
          }

      go : Dec (u ≡ number k 0) → Dec (u ≡ number k 1) → Job m (k + 1) (get_or views (u - 1) no_view).actor u (get_or views u no_view)
      go (yes e) d =
          subst (λ (n : ℕ). Job m (k + 1) (get_or views (n - 1) no_view).actor n (get_or views n no_view)) (sym e)
          (subst (Job m (k + 1) _ (number k 0)) (sym at_sender) (new_job 0 (omega arith) _ sender (sender_slot _)))
      go (no n) (yes e) =
          subst (λ (n : ℕ). Job m (k + 1) (get_or views (n - 1) no_view).actor n (get_or views n no_view)) (sym e)
          (subst (Job m (k + 1) _ (number k 1)) (sym at_receiver) (new_job 1 (omega arith) _ receiver (receiver_slot _ before)))
      go (no n) (no n') = subst (Job m (k + 1) _ u) (sym (others u n n')) (other_job n n')

  sent_messages : (j : ℕ) → j < 16 → MessageSlot m.stores (k + 1) (get_or views (number j 1) no_view).phase j (get_or messages j no_message)
  sent_messages =
      at_others m.messages 16 k flying no_message s.sized.messages room (λ j g. MessageSlot m.stores (k + 1) (get_or views (number j 1) no_view).phase j g)
      (record {
        key_made = λ e. omega arith;
        unreceived = λ e. ap (λ (x : View). x.phase) at_receiver;
        own_in = λ e. c.own_in;
        sent = λ h z. refl;
        blank = λ e. absurd (true≢false e);
      })
      (λ j h n.
      let g = s.message_at j h in
      subst (λ (x : View). MessageSlot m.stores (k + 1) x.phase j (message m j)) (sym (others (number j 1) (omega arith) (λ e. n (omega arith))))
      (record {
        key_made = λ e. let i = g.key_made e in omega arith;
        unreceived = g.unreceived;
        own_in = g.own_in;
        sent = λ i z. g.sent (omega arith) z;
        blank = g.blank;
      }))

  pub send_kept : Unbroken (sent m from to own word causes)
  unfolding sent
  send_kept =
      let b = room in
      let t = actors8 m s in
      let hf = c.from_in in
      let free = (bounds_of m s).send_room from (omega arith) room in
      let actor : (get_or views (number k 0) no_view).actor ≡ from = ap (λ (x : View). x.actor) at_sender in
      let first : (get_or views (number k 0) no_view).phase ≡ 1 = ap (λ (x : View). x.phase) at_sender in
      let apart : (u r : ℕ) → r < 2 → 1 ≤ (view m u).phase → u ≢ number k r =
      λ u r hr h e. let z = subst (λ (n : ℕ). 1 ≤ (view m n).phase) e h in let y = unmade r hr in absurd (omega arith) in
      let same : (u : ℕ) → 1 ≤ (view m u).phase → get_or views u no_view ≡ view m u = λ u h. others u (apart u 0 (omega arith) h) (apart u 1 (omega arith) h) in
      let only : (u : ℕ) → u ≢ number k 0 → 1 ≤ (get_or views u no_view).phase → get_or views u no_view ≡ view m u =
      λ u n h. others u n (λ e. let z = subst (λ (i : ℕ). 1 ≤ (get_or views i no_view).phase) e h in let y = ap (λ (x : View). x.phase) at_receiver in absurd (omega arith)) in
      jobs_kept m s (k + 1) views (set m.queues from (joined (queue m from) (number k 0))) messages
      views_long (length-set m.queues from (joined (queue m from) (number k 0)) ∙ s.sized.queues) (length-set m.messages k flying ∙ s.sized.messages) (omega arith) (omega arith)
      jobs
      (join_once m s from hf (number k 0) (omega arith) (unmade 0 (omega arith)) free views actor first same only)
      (join_queued m s from hf (number k 0) (omega arith) (unmade 0 (omega arith)) free views actor first same only)
      sent_messages
