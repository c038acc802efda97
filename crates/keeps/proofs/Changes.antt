-- A change leaves every slot as it must be; each taken step is a chain of changes; so what every change keeps, every step keeps.
-- The kinds are walked here, once. Assumes nothing.
use Prim.Native.Nat.{ℕ, ◌+◌, ◌-◌, ◌≤◌, ◌<◌}
use mathlib.Core.Path.{◌≡◌, sym, ap, subst, ◌∙◌}
use mathlib.Core.Bool.{Bool, true, false, ◌&&◌}
use mathlib.Core.List.{List}
use native.Mathlib.Omega.{arith}
use lib.Seq.{get_or-set_same, set-get_or}
use lib.Dec.{ltb, eqb}
use borrow.Author.Tests.{ltb-true, eqb-true}
use Rattle.std.proofs.lemmas.Bool.{and_parts}
use Rattle.std.proofs.Common.{rules}
use Rattle.protocol.specs.Words.{pick}
use Rattle.protocol.specs.Slots.{number, no_view, no_entry, status_number, view, queue, entry, record_copies, ack_copies, update_copies, uack_copies}
use Rattle.protocol.specs.Writes.{with_view, with_entry, with_entries, with_ack_copies, with_uack_copies, with_record_copies, with_update_copies}
use Rattle.protocol.specs.Broken.{broken_of}
use Rattle.unbroken.specs.Unbroken.{Unbroken}
use Rattle.protocol.specs.declared.State.{State}
use Rattle.protocol.specs.declared.View.{View}
use Rattle.protocol.specs.declared.Entry.{Entry}
use Rattle.protocol.specs.declared.Status.{Status}
use Rattle.protocol.specs.declared.Status.TheVariants.{ToSend, Waiting, Done}
use Rattle.unbroken.proofs.Laws.{unbroken}
use Rattle.unbroken.proofs.Laws.Says.{eq_says, zero_splits, not_says, and_says}
use Rattle.protocol.specs.Views.{phased}
use Rattle.protocol.specs.Rule.{head, head_view, more}
use Rattle.protocol.specs.SendUpdate.{in_status, update_sent}
use Rattle.protocol.specs.TakeUack.{finished_entry, uack_taken}
use Rattle.protocol.specs.TakeUpdate.{update_taken}
use Rattle.protocol.specs.TakeRecord.{record_taken}
use Rattle.protocol.specs.TakeAck.{is_head, accepts, acked_view, ack_taken}
use Rattle.protocol.specs.SendRecord.{record_sent}
use Rattle.protocol.specs.PreCheck.{checked_view, pre_checked}
use Rattle.protocol.specs.Timeout.{timed_view, timed_out}
use Rattle.protocol.specs.Expire.{expired}
use Rattle.protocol.specs.Lose.{copies, with_copies, lost}
use Rattle.protocol.specs.Duplicate.{duplicated}
use Rattle.protocol.specs.Step.{number_of, after_of, step_of}
use Rattle.protocol.specs.declared.Step.{Step}
use Rattle.protocol.specs.declared.Step.TheVariants.{Send, Receive, PreCheck, SendRecord, Timeout, TakeRecord, TakeAck, PostCheck, TakeRepair, SendUpdate, TakeUpdate, TakeUack, Expire, Lose, Crash, Restart, Checkpoint, Duplicate}
use Rattle.keeps.specs.Taken.{HeadIn, PlaceOf, TakeRecordTaken, TakeAckTaken, SendUpdateTaken, TakeUpdateTaken, TakeUackTaken, CopyThere, Taken}
use Rattle.keeps.specs.Change.{HeadMove, is_checked, is_sent, is_timed, is_acked, with_flight, FlightMove, record_comes, update_comes, records_there, acks_there, updates_there, uacks_there}
use Rattle.keeps.specs.Change.{with_taken, with_updated, StatusMove, is_waiting, is_expired, is_done, Change, on_send, on_receive, on_head, on_settle, on_flight, on_taken, on_updated, on_status, on_repair, on_crash, on_restart, on_checkpoint, Changes, nothing, then}
use Rattle.keeps.proofs.Conditions.{taken_when, waiting}
use Rattle.keeps.proofs.Writes.{record_write, ack_write, update_write, uack_write}
use Rattle.keeps.proofs.Heads.{head_32, head_from, head_made}
use Rattle.keeps.proofs.Stores.{other_copies, more_copies, store_8, number_32, taken_kept, updated_kept, crashed_kept, restarted_kept, checkpointed_kept}
use Rattle.keeps.proofs.Coordinator.{status_write, take_repair_kept}
use Rattle.keeps.proofs.Actors.{phase_write, pre_check_kept, timeout_kept, same_view}
use Rattle.keeps.proofs.PostCheck.{post_check_kept}
use Rattle.keeps.proofs.Receive.{receive_kept}
use Rattle.keeps.proofs.Send.{send_kept}
use Rattle.keeps.proofs.Cases.{pick_case, step_case}

-- each change keeps every slot
head_kept : (m : State) → Unbroken m → (a : ℕ) (w : View) → HeadMove m a w → Unbroken (with_view m (head m a) w)
unfolding pre_checked timed_out
head_kept m s a w (is_checked h) = pre_check_kept m s a h
head_kept m s a w (is_sent h) = phase_write m s a h.actor_in h.queued 3 (omega arith) (omega arith)
head_kept m s a w (is_timed p t) = timeout_kept m s a p t
head_kept m s a w (is_acked p h e c) = phase_write m s a h.actor_in h.queued 4 (omega arith) (omega arith)

module _ (m : State) (s : Unbroken m) where
  place_8 : (p k r : ℕ) → PlaceOf m p k r → p < 8
  place_8 p k r o = store_8 m s p o.store_in

  view_32 : (p k r : ℕ) → PlaceOf m p k r → number k r < 32
  view_32 p k r o = number_32 m s k r o.key_in o.role_in

  flight_kept : (records acks updates uacks : List ℕ) → FlightMove m records acks updates uacks → Unbroken (with_flight m records acks updates uacks)
  flight_kept records acks updates uacks (record_comes p v hs hm e f) =
      let hp = store_8 m s p hs in
      let few = s.made16 in
      record_write m s p v hp (omega arith) (more (record_copies m p v)) (more_copies (s.record_at p v hp (omega arith)) hs (omega arith))
  flight_kept records acks updates uacks (update_comes p k r o e f) =
      let n = ap status_number e in
      update_write m s p (number k r) (place_8 p k r o) (view_32 p k r o) (more (update_copies m p (number k r)))
      (more_copies (s.update_at p (number k r) (place_8 p k r o) (view_32 p k r o)) o.store_in (omega arith))
  flight_kept records acks updates uacks (records_there p k r n o c few) =
      record_write m s p (number k r) (place_8 p k r o) (view_32 p k r o) n (other_copies (s.record_at p (number k r) (place_8 p k r o) (view_32 p k r o)) c n few)
  flight_kept records acks updates uacks (acks_there p k r n o c few) =
      ack_write m s p (number k r) (place_8 p k r o) (view_32 p k r o) n (other_copies (s.ack_at p (number k r) (place_8 p k r o) (view_32 p k r o)) c n few)
  flight_kept records acks updates uacks (updates_there p k r n o c few) =
      update_write m s p (number k r) (place_8 p k r o) (view_32 p k r o) n (other_copies (s.update_at p (number k r) (place_8 p k r o) (view_32 p k r o)) c n few)
  flight_kept records acks updates uacks (uacks_there p k r n o c few) =
      uack_write m s p (number k r) (place_8 p k r o) (view_32 p k r o) n (other_copies (s.uack_at p (number k r) (place_8 p k r o) (view_32 p k r o)) c n few)

  status_kept : (v : ℕ) → v < 32 → (t : Status) → StatusMove m v t → Unbroken (with_entry m v (in_status t (entry m v)))
  status_kept v h t (is_waiting e) = let n = ap status_number e in status_write m s v h Waiting (omega arith) (omega arith)
  status_kept v h t (is_expired e) = let n = ap status_number e in status_write m s v h ToSend (omega arith) (omega arith)
  status_kept v h t (is_done p hp e d c) = let n = ap status_number e in status_write m s v h Done (omega arith) (omega arith)

pub change_kept : (m n : State) → Unbroken m → Change m n → Unbroken n
change_kept m n s (on_send from to own word causes c) = send_kept m s from to own word causes c
change_kept m n s (on_receive k c) = receive_kept m s k c
change_kept m n s (on_head a w h) = head_kept m s a w h
change_kept m n s (on_settle a h) = post_check_kept m s a h
change_kept m n s (on_flight records acks updates uacks f) = flight_kept m s records acks updates uacks f
change_kept m n s (on_taken p k r o c) = taken_kept m s p k r o c
change_kept m n s (on_updated p k r o c) = updated_kept m s p k r o c
change_kept m n s (on_status k r t o c) = status_kept m s (number k r) (number_32 m s k r o.key_in o.role_in) t c
change_kept m n s (on_repair k r c) = take_repair_kept m s k r c
change_kept m n s (on_crash p h) = crashed_kept m s p h
change_kept m n s (on_restart p h) = restarted_kept m s p h
change_kept m n s (on_checkpoint p h up) = checkpointed_kept m s p h

-- one change, and one more
one : (m n : State) → Change m n → Changes m n
one m n c = then m n nothing c

-- another number of copies of a record, an ack, an update or a uack
abbrev counted_of : State → ℕ → ℕ → ℕ → Bool → Bool → Bool → State
counted_of m p v n a b c =
    pick a (with_record_copies m p v n) (pick b (with_ack_copies m p v n) (pick c (with_update_copies m p v n) (with_uack_copies m p v n)))

-- of at most fifteen copies, one fewer or one more is not too many
fewer_15 : (n : ℕ) → n ≤ 15 → n - 1 ≤ 15
fewer_15 n h = omega arith

more_15 : (n : ℕ) → n ≤ 15 → more n ≤ 15
more_15 n h = pick_case (λ i. i ≤ 15) (ltb n 15) (n + 1) n (λ e. let t = ltb-true n 15 e in omega arith) (λ e. h)

-- a choice of two values for a slot: the change, or the slot as it is
choose : {A : Type 0} (m : State) (write : A → State) (c : Bool) (x y : A) → (c ≡ true → Changes m (write x)) → write y ≡ m → Changes m (write (pick c x y))
choose m write c x y f e = pick_case (λ z. Changes m (write z)) c x y f (λ b. subst (Changes m) (sym e) nothing)

module _ (m : State) (s : Unbroken m) where
  send_record_changes : (a : ℕ) → HeadIn 2 m a → Changes m (record_sent m a)
  unfolding record_sent
  send_record_changes a h =
      let ha = h.actor_in in
      let some = h.queued in
      let v = head m a in
      let hv = head_32 m s a ha some in
      let hs = (s.view_at v hv).store_in (head_from m s a ha some) in
      let long = s.sized.views in
      let w = phased 3 (head_view m a) in
      let m₁ = with_view m v w in
      let now : view m₁ v ≡ w = get_or-set_same m.views v w no_view (omega arith) in
      then m₁ _ (one m m₁ (on_head a w (is_sent h)))
      (on_flight _ m.acks m.updates m.uacks (record_comes (head_view m a).store v hs (head_made m s a ha some) (ap (λ (x : View). x.phase) now) (ap (λ (x : View). x.store) now)))

  -- at a place are at most fifteen copies
  module _ (p k r : ℕ) (o : PlaceOf m p k r) where
    records_15 : record_copies m p (number k r) ≤ 15
    records_15 = (s.record_at p (number k r) (place_8 m s p k r o) (view_32 m s p k r o)).copies15

    acks_15 : ack_copies m p (number k r) ≤ 15
    acks_15 = (s.ack_at p (number k r) (place_8 m s p k r o) (view_32 m s p k r o)).copies15

    updates_15 : update_copies m p (number k r) ≤ 15
    updates_15 = (s.update_at p (number k r) (place_8 m s p k r o) (view_32 m s p k r o)).copies15

    uacks_15 : uack_copies m p (number k r) ≤ 15
    uacks_15 = (s.uack_at p (number k r) (place_8 m s p k r o) (view_32 m s p k r o)).copies15

    copies_15 : (what : ℕ) → copies m what p (number k r) ≤ 15
    copies_15 what = search rules

  take_record_changes : (p k r : ℕ) → TakeRecordTaken m p k r → Changes m (record_taken m p k r)
  unfolding record_taken
  take_record_changes p k r c =
      let o = c.place in
      let m₁ = with_taken m p k r in
      let o₁ : PlaceOf m₁ p k r = record { store_in = o.store_in; key_in = o.key_in; role_in = o.role_in } in
      then m₁ _ (one m m₁ (on_taken p k r o c.copy))
      (on_flight _ m.acks m.updates m.uacks (records_there p k r (record_copies m p (number k r) - 1) o₁ c.copy (fewer_15 _ (records_15 p k r o))))

  take_ack_changes : (p k r : ℕ) → TakeAckTaken m p k r → Changes m (ack_taken m p k r)
  unfolding ack_taken
  take_ack_changes p k r c =
      let o = c.place in
      let v = number k r in
      let hk = o.key_in in
      let hr = o.role_in in
      let hv = number_32 m s k r hk hr in
      let m₁ = with_view m v (acked_view m p v) in
      let o₁ : PlaceOf m₁ p k r = record { store_in = o.store_in; key_in = hk; role_in = hr } in
      let a = (view m v).actor in
      let accepted : accepts m p v ≡ true → Changes m (with_view m v (phased 4 (view m v))) =
      λ e.
      let i = (and_parts (is_head m v && eqb (view m v).phase 3) (eqb (view m v).store p) e).0 in
      let d = (and_says (not_says (zero_splits (queue m a).len)) (eq_says (head m a) v)).tells (and_parts (is_head m v) (eqb (view m v).phase 3) i).0 in
      let here = d.1 in
      let h : HeadIn 3 m a = record {
        actor_in = (s.view_at v hv).actor_in (omega arith);
        queued = d.0;
        head_phase = ap (λ (n : ℕ). (view m n).phase) here ∙ eqb-true (view m v).phase 3 (and_parts (is_head m v) (eqb (view m v).phase 3) i).1;
      } in
      let at = ap (λ (n : ℕ). (view m n).store) here ∙ eqb-true (view m v).store p (and_parts (is_head m v && eqb (view m v).phase 3) (eqb (view m v).store p) e).1 in
      subst (λ (n : ℕ). Changes m (with_view m n (phased 4 (view m n)))) here
      (one m _ (on_head a (phased 4 (head_view m a)) (is_acked p h at (subst (λ (n : ℕ). 1 ≤ ack_copies m p n) (sym here) c.copy)))) in
      then m₁ _ (choose m (with_view m v) (accepts m p v) (phased 4 (view m v)) (view m v) accepted (same_view m v))
      (on_flight m.records _ m.updates m.uacks (acks_there p k r (ack_copies m p v - 1) o₁ c.copy (fewer_15 _ (acks_15 p k r o))))

  send_update_changes : (k r : ℕ) → SendUpdateTaken m k r → Changes m (update_sent m k r)
  unfolding update_sent
  send_update_changes k r c =
      let v = number k r in
      let hk = c.view.key_in in
      let hr = c.view.role_in in
      let hv = number_32 m s k r hk hr in
      let p = (entry m v).destination in
      let n = ap status_number c.due in
      let hs = (s.entry_at v hv).destination_in (omega arith) in
      let e = in_status Waiting (entry m v) in
      let m₁ = with_entry m v e in
      let long = s.sized.entries in
      let now : entry m₁ v ≡ e = get_or-set_same m.entries v e no_entry (omega arith) in
      let o₁ : PlaceOf m₁ p k r = record { store_in = hs; key_in = hk; role_in = hr } in
      then m₁ _ (one m m₁ (on_status k r Waiting c.view (is_waiting c.due)))
      (on_flight m.records m.acks _ m.uacks (update_comes p k r o₁ (ap (λ (x : Entry). x.status) now) (ap (λ (x : Entry). x.destination) now)))

  take_update_changes : (p k r : ℕ) → TakeUpdateTaken m p k r → Changes m (update_taken m p k r)
  unfolding update_taken
  take_update_changes p k r c =
      let o = c.place in
      let m₁ = with_updated m p k r in
      let o₁ : PlaceOf m₁ p k r = record { store_in = o.store_in; key_in = o.key_in; role_in = o.role_in } in
      then m₁ _ (one m m₁ (on_updated p k r o c.copy))
      (on_flight m.records m.acks _ m.uacks (updates_there p k r (update_copies m p (number k r) - 1) o₁ c.copy (fewer_15 _ (updates_15 p k r o))))

  take_uack_changes : (p k r : ℕ) → TakeUackTaken m p k r → Changes m (uack_taken m p k r)
  unfolding uack_taken
  take_uack_changes p k r c =
      let o = c.place in
      let v = number k r in
      let e = finished_entry p (entry m v) in
      let m₁ = with_entry m v e in
      let o₁ : PlaceOf m₁ p k r = record { store_in = o.store_in; key_in = o.key_in; role_in = o.role_in } in
      let waits = eqb (status_number (entry m v).status) 2 in
      let answers = eqb (entry m v).destination p in
      then m₁ _
      (choose m (with_entry m v) (waits && answers) (in_status Done (entry m v)) (entry m v)
      (λ b. one m _ (on_status k r Done (record { key_in = o.key_in; role_in = o.role_in })
      (is_done p o.store_in (waiting (entry m v).status (eqb-true (status_number (entry m v).status) 2 (and_parts waits answers b).0)) (eqb-true (entry m v).destination p (and_parts waits answers b).1) c.copy)))
      (ap (with_entries m) (set-get_or m.entries v no_entry)))
      (on_flight m.records m.acks m.updates _ (uacks_there p k r (uack_copies m p v - 1) o₁ c.copy (fewer_15 _ (uacks_15 p k r o))))

  -- where there are copies of what is named, their number becomes another
  counted_changes : (what p k r n : ℕ) → CopyThere m what p k r → n ≤ 15 → Changes m (with_copies m what p (number k r) n)
  counted_changes what p k r n c few = go (eqb what 0) (eqb what 1) (eqb what 2) c.copy
    where
      o : PlaceOf m p k r
      o = c.place

      go : (a b d : Bool)
          → 1 ≤ pick a (record_copies m p (number k r)) (pick b (ack_copies m p (number k r)) (pick d (update_copies m p (number k r)) (uack_copies m p (number k r))))
          → Changes m (counted_of m p (number k r) n a b d)
      go true b d h = one m _ (on_flight _ m.acks m.updates m.uacks (records_there p k r n o h few))
      go false true d h = one m _ (on_flight m.records _ m.updates m.uacks (acks_there p k r n o h few))
      go false false true h = one m _ (on_flight m.records m.acks _ m.uacks (updates_there p k r n o h few))
      go false false false h = one m _ (on_flight m.records m.acks m.updates _ (uacks_there p k r n o h few))

-- the walk through the kinds
pub taken_changes : (m : State) (s : Step) → Unbroken m → Taken m s → Changes m (after_of m s)
unfolding pre_checked timed_out expired lost duplicated
taken_changes m (Send from to own word causes) e c = one m _ (on_send from to own word causes c)
taken_changes m (Receive k) e c = one m _ (on_receive k c)
taken_changes m (PreCheck a) e c = one m _ (on_head a (checked_view m (head_view m a)) (is_checked c))
taken_changes m (SendRecord a) e c = send_record_changes m e a c
taken_changes m (Timeout a p) e c = one m _ (on_head a (timed_view p (head_view m a)) (is_timed p c))
taken_changes m (TakeRecord p k r) e c = take_record_changes m e p k r c
taken_changes m (TakeAck p k r) e c = take_ack_changes m e p k r c
taken_changes m (PostCheck a) e c = one m _ (on_settle a c)
taken_changes m (TakeRepair k r) e c = one m _ (on_repair k r c)
taken_changes m (SendUpdate k r) e c = send_update_changes m e k r c
taken_changes m (TakeUpdate p k r) e c = take_update_changes m e p k r c
taken_changes m (TakeUack p k r) e c = take_uack_changes m e p k r c
taken_changes m (Expire k r) e c = one m _ (on_status k r ToSend c.view (is_expired c.waits))
taken_changes m (Lose what p k r) e c = counted_changes m e what p k r _ c (fewer_15 _ (copies_15 m e p k r c.place what))
taken_changes m (Crash p) e c = one m _ (on_crash p c.store_in)
taken_changes m (Restart p) e c = one m _ (on_restart p c.store_in)
taken_changes m (Checkpoint p) e c = one m _ (on_checkpoint p c.store_in c.up)
taken_changes m (Duplicate what p k r) e c = counted_changes m e what p k r _ c (more_15 _ (copies_15 m e p k r c.place what))

-- every slot is kept through a chain of changes
pub changes_kept : (m n : State) → Unbroken m → Changes m n → Unbroken n
changes_kept m n s nothing = s
changes_kept m n s (then k o c d) = change_kept k o (changes_kept m k s c) d

-- a relation that holds of every change, and of nothing and of one after the other, holds of every step
module _ (R : State → State → Type 0) (still : (m : State) → R m m) (after : (m n o : State) → R m n → R n o → R m o)
    (each : (m n : State) → Unbroken m → Change m n → R m n) where
  chain : (m n : State) → Unbroken m → Changes m n → R m n
  chain m n s nothing = still m
  chain m n s (then k o c d) = after m k o (chain m k s c) (each k o (changes_kept m k s c) d)

  pub taken_related : (m : State) (s : Step) → broken_of m ≡ false → number_of m s ≡ 0 → R m (after_of m s)
  taken_related m s e z = let u = unbroken m e in chain m (after_of m s) u (taken_changes m s u (taken_when m s z))

  pub step_related : (m : State) (s : Step) → R m (step_of m s).state
  step_related m s = step_case m s (λ x. R m x.state) (λ e. still m) (λ e z. taken_related m s e z) (λ e n. still m)

-- a property that every change keeps, every step keeps
pub step_has : (P : State → Type 0) → ((m n : State) → Unbroken m → Change m n → P m → P n) → (m : State) (s : Step) → P m → P (step_of m s).state
step_has P keep m s = step_related (λ a b. P a → P b) (λ a x. x) (λ a b c f g x. g (f x)) keep m s
