-- Every step goes onward, and what is closed stays closed: by cases on a change. Assumes nothing.
use Prim.Native.Nat.{ℕ, zero, suc, ◌*◌, ◌-◌, ◌≤◌, ◌<◌}
use mathlib.Core.Path.{◌≡◌, refl, sym, ap, subst, ◌∙◌}
use mathlib.Core.Logic.{◌≢◌}
use mathlib.Core.Bool.{true, false}
use mathlib.Core.List.{List}
use native.Mathlib.Omega.{arith}
use lib.ListN.{length, get_or, set, length-set}
use lib.Seq.{get_or-set_other}
use Rattle.std.proofs.lemmas.Bool.{both_ways}
use Rattle.std.proofs.Common.{rules}
use Rattle.protocol.specs.Slots.{number, no_view, no_entry, no_repair, status_number, view, repair, entry}
use Rattle.protocol.specs.Writes.{with_view, with_entry}
use Rattle.unbroken.specs.Unbroken.{Unbroken}
use Rattle.protocol.specs.declared.State.{State}
use Rattle.protocol.specs.declared.View.{View}
use Rattle.protocol.specs.declared.Entry.{Entry}
use Rattle.protocol.specs.declared.Repair.{Repair}
use Rattle.protocol.specs.declared.Status.{Status}
use Rattle.protocol.specs.Closed.{rests_of, closed_of}
use Rattle.unbroken.proofs.Laws.{unbroken}
use Rattle.unbroken.proofs.Laws.Room.{made_view_holds}
use Rattle.unbroken.proofs.Laws.Says.{Says, and_says, put_says}
use Rattle.protocol.specs.Views.{phased}
use Rattle.protocol.specs.Rule.{head, head_view}
use Rattle.protocol.specs.Send.{sent}
use Rattle.protocol.specs.Receive.{received_view, received_of}
use Rattle.protocol.specs.Sweep.{swept}
use Rattle.protocol.specs.Crash.{crashed}
use Rattle.protocol.specs.Restart.{restarted}
use Rattle.protocol.specs.Checkpoint.{checkpointed}
use Rattle.protocol.specs.PostCheck.{post_checked}
use Rattle.protocol.specs.TakeRepair.{entered, repaired_entry, redirected_entry, repair_taken}
use Rattle.protocol.specs.SendUpdate.{in_status}
use Rattle.keeps.specs.Taken.{HeadIn, SendTaken, ReceiveTaken, TakeRepairTaken}
use Rattle.keeps.specs.Change.{HeadMove, is_checked, is_sent, is_timed, is_acked, StatusMove}
use Rattle.keeps.specs.Change.{Change, on_send, on_receive, on_head, on_settle, on_flight, on_taken, on_updated, on_status, on_repair, on_crash, on_restart, on_checkpoint}
use Rattle.keeps.specs.Onward.{ViewOn, Onward, Resting, Closed, ClosedSays, StepOnward, ClosedStays}
use Rattle.keeps.proofs.Index.{at_index}
use Rattle.keeps.proofs.Heads.{head_32}
use Rattle.keeps.proofs.Cases.{pick_case}
use Rattle.keeps.proofs.Stores.{number_32}
use Rattle.keeps.proofs.Changes.{change_kept, step_related, step_has}

-- a record that stays as it is, and one change after another
view_still : (w : View) → ViewOn w w
view_still w = search rules

view_after : (w x y : View) → ViewOn w x → ViewOn x y → ViewOn w y
view_after w x y a b =
    let one : 1 ≤ w.phase → 1 ≤ x.phase = λ h. a.phase 1 (omega arith) h in
    let two : 2 ≤ w.phase → 2 ≤ x.phase = λ h. a.phase 2 (omega arith) h in
    let four : 4 ≤ w.phase → 4 ≤ x.phase = λ h. a.phase 4 (omega arith) h in
    record {
      actor = b.actor ∙ a.actor;
      phase = λ c n h. b.phase c n (a.phase c n h);
      word = λ h. b.word (one h) ∙ a.word h;
      causes = λ h. b.causes (one h) ∙ a.causes h;
      viewlink = λ h. b.viewlink (one h) ∙ a.viewlink h;
      changed = λ h e. b.changed (one h) (a.changed h e);
      links = λ h. b.links (two h) ∙ a.links h;
      store = λ h. b.store (four h) ∙ a.store h;
      unmoved = λ h. b.unmoved (four h) ∙ a.unmoved h;
      settled = λ e. let q = a.settled e in b.settled (ap (λ (z : View). z.phase) q ∙ e) ∙ q;
    }

pub still : (m : State) → Onward m m
still m = search rules

pub after : (m n o : State) → Onward m n → Onward n o → Onward m o
after m n o a b =
    let first = a.made in
    let second = b.made in
    record {
      stores = b.stores ∙ a.stores;
      actors = b.actors ∙ a.actors;
      homes = b.homes ∙ a.homes;
      lists = b.lists ∙ a.lists;
      made = omega arith;
      views = λ v h. view_after (view m v) (view n v) (view o v) (a.views v h) (b.views v (omega arith));
      entered = λ v hv h. b.entered v hv (a.entered v hv h);
    }

-- the head of a queue goes on
head_on : (m : State) (a : ℕ) (w : View) → HeadMove m a w → ViewOn (head_view m a) w
head_on m a w e = search rules

settle_on : (w : View) → w.phase ≡ 4 → ViewOn w (phased 5 w)
settle_on w e = search rules

receive_on : (m : State) (k : ℕ) → (view m (number k 1)).phase ≡ 0 → ViewOn (view m (number k 1)) (received_view m k)
receive_on m k e = search rules

-- of the arrays that speak of the past only the views are written, and each goes on
views_onward : (m n : State) → n.stores ≡ m.stores → n.actors ≡ m.actors → n.homes ≡ m.homes → n.lists ≡ m.lists → m.made ≤ n.made
    → ((v : ℕ) → v < m.made * 2 → ViewOn (view m v) (view n v))
    → n.entries ≡ m.entries → Onward m n
views_onward m n e f g h i j k = search rules

module _ (m : State) (s : Unbroken m) where
  one_view : (u : ℕ) → u < 32 → (w : View) → ViewOn (view m u) w → (v : ℕ) → v < m.made * 2 → ViewOn (view m v) (get_or (set m.views u w) v no_view)
  one_view u hu w o v hv =
      let few = s.made16 in
      at_index m.views 32 u w no_view s.sized.views hu (λ i x. ViewOn (view m i) x) o (λ i hi. view_still (view m i)) v (omega arith)

  send_onward : (from to own word causes : ℕ) → SendTaken m from to own causes → Onward m (sent m from to own word causes)
  unfolding sent
  send_onward from to own word causes e = search rules

  receive_onward : (k : ℕ) → ReceiveTaken m k → Onward m (received_of m k)
  unfolding received_of
  receive_onward k c =
      views_onward m (received_of m k) refl refl refl refl (omega arith) (one_view (number k 1) (number_32 m s k 1 c.key_in (omega arith)) (received_view m k) (receive_on m k c.unreceived)) refl

  head_onward : (a : ℕ) (w : View) → HeadMove m a w → head m a < 32 → Onward m (with_view m (head m a) w)
  head_onward a w h b = views_onward m (with_view m (head m a) w) refl refl refl refl (omega arith) (one_view (head m a) b w (head_on m a w h)) refl

  head_place : (a : ℕ) (w : View) → HeadMove m a w → head m a < 32
  head_place a w (is_checked h) = head_32 m s a h.actor_in h.queued
  head_place a w (is_sent h) = head_32 m s a h.actor_in h.queued
  head_place a w (is_timed p t) = head_32 m s a t.head.actor_in t.head.queued
  head_place a w (is_acked p h e c) = head_32 m s a h.actor_in h.queued

  settle_onward : (a : ℕ) → HeadIn 4 m a → Onward m (post_checked m a)
  unfolding post_checked
  settle_onward a e = search (rules, views_onward, one_view, head_32, settle_on)

-- an entry stays an entry
entry_onward : (m : State) → length m.entries ≡ 32 → (u : ℕ) → u < 32 → (e : Entry) → (1 ≤ status_number (entry m u).status → 1 ≤ status_number e.status) → Onward m (with_entry m u e)
entry_onward m f u g e h = search rules

-- .. also where the opposite view's repair redirects it
repair_onward : (m : State) → Unbroken m → (k r : ℕ) → TakeRepairTaken m k r → Onward m (repair_taken m k r)
unfolding repair_taken
repair_onward m s k r c =
    let hk = c.view.key_in in
    let hr = c.view.role_in in
    let v = number k r in
    let o = number k (1 - r) in
    let hv = number_32 m s k r hk hr in
    let ho = number_32 m s k (1 - r) hk (omega arith) in
    let e₁ = repaired_entry (repair m v) (entry m o) in
    let e₂ = redirected_entry (repair m v) (entry m o) in
    let m₁ = with_entry m v e₁ in
    let there : entry m₁ o ≡ entry m o = get_or-set_other m.entries v o e₁ no_entry (omega arith) in
    let long = s.sized.entries in
    let a = entry_onward m long v hv e₁ (λ h. omega arith) in
    let b = entry_onward m₁ (length-set m.entries v e₁ ∙ long) o ho e₂
    (λ h. pick_case (λ (x : Entry). 1 ≤ status_number x.status) (entered (entry m o)) _ _ (λ f. omega arith) (λ f. subst (λ (x : Entry). 1 ≤ status_number x.status) there h)) in
    let d = after m m₁ (with_entry m₁ o e₂) a b in
    record {
      stores = refl;
      actors = refl;
      homes = refl;
      lists = refl;
      made = omega arith;
      views = λ u h. view_still (view m u);
      entered = d.entered;
    }

-- what is written is neither a view nor an entry
beside_onward : (m n : State) → n.stores ≡ m.stores → n.actors ≡ m.actors → n.homes ≡ m.homes → n.lists ≡ m.lists → n.made ≡ m.made
    → n.views ≡ m.views → n.entries ≡ m.entries → Onward m n
beside_onward m n s₁ s₂ s₃ s₄ k w e =
    views_onward m n s₁ s₂ s₃ s₄ (omega arith) (λ v h. subst (λ (l : List View). ViewOn (view m v) (get_or l v no_view)) (sym w) (view_still (view m v))) e

-- a status that was to-send or waiting is one of an entry
status_from : (m : State) (v : ℕ) (t : Status) → StatusMove m v t → (1 ≤ status_number t) × (1 ≤ status_number (entry m v).status) × (status_number (entry m v).status ≤ 2)
status_from m v t e = search rules

pub change_onward : (m n : State) → Unbroken m → Change m n → Onward m n
unfolding swept crashed restarted checkpointed
change_onward m n s (on_send from to own word causes c) = send_onward m s from to own word causes c
change_onward m n s (on_receive k c) = receive_onward m s k c
change_onward m n s (on_head a w h) = head_onward m s a w h (head_place m s a w h)
change_onward m n s (on_settle a h) = settle_onward m s a h
change_onward m n s (on_flight records acks updates uacks f) = beside_onward m n refl refl refl refl refl refl refl
change_onward m n s (on_taken p k r o c) = beside_onward m n refl refl refl refl refl refl refl
change_onward m n s (on_updated p k r o c) = beside_onward m n refl refl refl refl refl refl refl
change_onward m n s (on_status k r t o c) =
    entry_onward m s.sized.entries (number k r) (number_32 m s k r o.key_in o.role_in) (in_status t (entry m (number k r))) (λ h. (status_from m (number k r) t c).0)
change_onward m n s (on_repair k r c) = repair_onward m s k r c
change_onward m n s (on_crash p h) = beside_onward m n refl refl refl refl refl refl refl
change_onward m n s (on_restart p h) = beside_onward m n refl refl refl refl refl refl refl
change_onward m n s (on_checkpoint p h up) = beside_onward m n refl refl refl refl refl refl refl

pub step_onward : StepOnward
step_onward = step_related Onward still after change_onward

-- the views of a closed interaction rest through every change
module _ (m : State) (s : Unbroken m) (k : ℕ) (rests : (r : ℕ) → r < 2 → Resting m (number k r)) where
  settle_rests : (a : ℕ) → HeadIn 4 m a → (r : ℕ) → r < 2 → (repair (post_checked m a) (number k r)).flying ≡ false
  unfolding post_checked
  settle_rests a e r f = grind (arith, get_or-set_other)

  status_rests : (j i : ℕ) (t : Status) → StatusMove m (number j i) t → (r : ℕ) → r < 2 → entry (with_entry m (number j i) (in_status t (entry m (number j i)))) (number k r) ≡ entry m (number k r)
  status_rests j i t e r f = grind (arith, status_from, get_or-set_other)

  module _ (j i : ℕ) (c : TakeRepairTaken m j i) where
    apart : (r : ℕ) → r < 2 → number k r ≢ number j i
    apart r hr f = absurd (both_ways (repair m (number j i)).flying (ap (λ (u : ℕ). (repair m u).flying) (sym f) ∙ (rests r hr).repair) c.flying)

    repair_rests : (r : ℕ) → r < 2 → (repair (repair_taken m j i) (number k r)).flying ≡ false
    unfolding repair_taken
    repair_rests r hr = ap (λ (x : Repair). x.flying) (get_or-set_other m.repairs (number j i) (number k r) no_repair no_repair (apart r hr)) ∙ (rests r hr).repair

    entry_rests : (r : ℕ) → r < 2 → entry (repair_taken m j i) (number k r) ≡ entry m (number k r)
    unfolding repair_taken
    entry_rests r hr =
        let v = number j i in
        let o = number j (1 - i) in
        let hi = c.view.role_in in
        let off : number k r ≢ o = λ f. apart (1 - r) (omega arith) (omega arith) in
        let e₁ = repaired_entry (repair m v) (entry m o) in
        let e₂ = redirected_entry (repair m v) (entry m o) in
        get_or-set_other (set m.entries v e₁) o (number k r) e₂ no_entry off ∙ get_or-set_other m.entries v (number k r) e₁ no_entry (apart r hr)

  change_repair : (n : State) → Change m n → (r : ℕ) → r < 2 → (repair n (number k r)).flying ≡ false
  unfolding sent received_of swept crashed restarted checkpointed
  change_repair n (on_send from to own word causes c) r hr = (rests r hr).repair
  change_repair n (on_receive j c) r hr = (rests r hr).repair
  change_repair n (on_head a w h) r hr = (rests r hr).repair
  change_repair n (on_settle a h) r hr = settle_rests a h r hr
  change_repair n (on_flight records acks updates uacks f) r hr = (rests r hr).repair
  change_repair n (on_taken p j i o c) r hr = (rests r hr).repair
  change_repair n (on_updated p j i o c) r hr = (rests r hr).repair
  change_repair n (on_status j i t o c) r hr = (rests r hr).repair
  change_repair n (on_repair j i c) r hr = repair_rests j i c r hr
  change_repair n (on_crash p h) r hr = (rests r hr).repair
  change_repair n (on_restart p h) r hr = (rests r hr).repair
  change_repair n (on_checkpoint p h up) r hr = (rests r hr).repair

  change_entry : (n : State) → Change m n → (r : ℕ) → r < 2 → entry n (number k r) ≡ entry m (number k r)
  unfolding sent received_of post_checked swept crashed restarted checkpointed
  change_entry n (on_send from to own word causes c) r hr = refl
  change_entry n (on_receive j c) r hr = refl
  change_entry n (on_head a w h) r hr = refl
  change_entry n (on_settle a h) r hr = refl
  change_entry n (on_flight records acks updates uacks f) r hr = refl
  change_entry n (on_taken p j i o c) r hr = refl
  change_entry n (on_updated p j i o c) r hr = refl
  change_entry n (on_status j i t o c) r hr = status_rests j i t c r hr
  change_entry n (on_repair j i c) r hr = entry_rests j i c r hr
  change_entry n (on_crash p h) r hr = refl
  change_entry n (on_restart p h) r hr = refl
  change_entry n (on_checkpoint p h up) r hr = refl

  change_rests : k < m.made → (n : State) → Change m n → (r : ℕ) → r < 2 → Resting n (number k r)
  change_rests e n f r g = search (rules, change_entry, change_onward, change_repair)

pub closed_change : (k : ℕ) (m n : State) → Unbroken m → Change m n → Closed m k → Closed n k
closed_change k m n s c d =
    let on = change_onward m n s c in
    let hk = d.key_in in
    let more = on.made in
    let q = change_rests m s k rests hk n c in
    record { key_in = omega arith; sender = q 0 (omega arith); receiver = q 1 (omega arith) }
  where
    rests : (r : ℕ) → r < 2 → Resting m (number k r)
    rests zero h = d.sender
    rests (suc zero) h = d.receiver
    rests (suc (suc r)) h = absurd (omega arith)

-- the test for closed says that
rests_say : (m : State) (v : ℕ) → Says (rests_of m v) (Resting m v)
rests_say m v = search rules

closed_slots : (m : State) (k : ℕ) → Unbroken m → Says (closed_of m k) (Closed m k)
unfolding closed_of
closed_slots m k s =
    put_says (and_says (rests_say m (number k 0)) (rests_say m (number k 1)))
    (λ x. let e = x.0.phase in let b = made_view_holds m s (number k 0) (omega arith) in record { key_in = omega arith; sender = x.0; receiver = x.1 })
    (λ y. (y.sender, y.receiver))

pub closed_says : ClosedSays
closed_says m k e = let c = closed_slots m k (unbroken m e) in (c.tells, c.told)

pub closed_stays : ClosedStays
closed_stays m s k =
    step_has (λ x. closed_of x k ≡ true) (λ a b z c e. (closed_slots b k (change_kept a b z c)).told (closed_change k a b z c ((closed_slots a k z).tells e))) m s
