-- Every change keeps the local record everywhere, and the sender's viewlink the receiver's home; so every step does. Assumes nothing.
use mathlib.Core.Path.{◌≡◌, refl, sym, ap, ◌∙◌, subst}
use mathlib.Core.Logic.{◌≢◌}
use mathlib.Core.Bool.{Bool, true, false}
use mathlib.Core.List.{List}
use Prim.Native.Nat.{ℕ, suc, ◌-◌, ◌*◌, ◌≤◌, ◌<◌}
use native.Mathlib.Omega.{arith}
use native.Mathlib.Decide.{ℕ_discrete}
use borrow.Author.Tests.{not-true, not-false, eq-eqb, ne_eqb, eqb-true, eqb-false}
use lib.Dec.{eqb}
use lib.ListN.{length, get_or, set, length-set}
use lib.Seq.{get_or-set_same, get_or-set_other, set-get_or}
use Rattle.protocol.specs.Words.{pick, one}
use Rattle.protocol.specs.Slots.{no_repair, no_message, number, status_number, home, shelf, view, repair, entry, message, record_copies, ack_copies, update_copies, uack_copies, is_held, viewlink, is_kept, kept_viewlink, owes_ack, owes_uack, no_view}
use Rattle.protocol.specs.Stores.{turned, thrown_back, saved}
use Rattle.protocol.specs.Sweep.{swept}
use Rattle.protocol.specs.Writes.{with_shelf, with_view, with_repair, with_entry, with_entries, with_records, with_contents, with_links, with_queues, with_ack_copies, with_update_copies, with_uack_copies}
use Rattle.protocol.specs.Broken.{broken_of}
use Rattle.unbroken.specs.Unbroken.{Sized, Unbroken}
use Rattle.unbroken.proofs.Laws.{whole}
use Rattle.protocol.specs.declared.State.{State}
use Rattle.protocol.specs.declared.View.{View}
use Rattle.protocol.specs.declared.Repair.{Repair}
use Rattle.protocol.specs.declared.Entry.{Entry}
use Rattle.protocol.specs.declared.Status.{Status}
use Rattle.protocol.specs.declared.Status.TheVariants.{ToSend, Waiting, Done}
use Rattle.protocol.specs.declared.Contents.{Contents}
use Rattle.protocol.specs.declared.Links.{Links}
use Rattle.protocol.specs.declared.Queue.{Queue}
use Rattle.protocol.specs.Views.{phased}
use Rattle.protocol.specs.Rule.{head, more}
use Rattle.protocol.specs.Send.{sent, sent_view, awaited_view}
use Rattle.protocol.specs.Receive.{received_of, received_view}
use Rattle.protocol.specs.PreCheck.{checked_view}
use Rattle.protocol.specs.Timeout.{is_current, timed_view}
use Rattle.protocol.specs.TakeRecord.{taken_in}
use Rattle.protocol.specs.Crash.{crashed}
use Rattle.protocol.specs.Restart.{restarted}
use Rattle.protocol.specs.Checkpoint.{checkpointed}
use Rattle.protocol.specs.PostCheck.{post_checked, asked_repair}
use Rattle.protocol.specs.TakeRepair.{repair_taken, entered, to_send}
use Rattle.protocol.specs.SendUpdate.{in_status}
use Rattle.protocol.specs.Step.{number_of, after_of}
use Rattle.protocol.specs.declared.Step.{Step}
use Rattle.keeps.specs.Taken.{HeadIn, ViewOf, PlaceOf, SendTaken, ReceiveTaken, TakeRepairTaken}
use Rattle.keeps.specs.Change.{HeadMove, is_checked, is_sent, is_timed, is_acked, with_flight, FlightMove, record_comes, update_comes, records_there, acks_there, updates_there, uacks_there}
use Rattle.keeps.specs.Change.{with_taken, with_updated, StatusMove, is_waiting, is_expired, is_done, Change, on_send, on_receive, on_head, on_settle, on_flight, on_taken, on_updated, on_status, on_repair, on_crash, on_restart, on_checkpoint}
use Rattle.keeps.specs.Onward.{Onward}
use Rattle.keeps.proofs.Changes.{taken_related}
use Rattle.keeps.proofs.Onward.{change_onward}
use Rattle.keeps.proofs.Laws.{sends_new_key}
use Rattle.guarantees.proofs.Local
use Rattle.unbroken.proofs.Laws.Tests.{by_test}
use Rattle.guarantees.proofs.Local.{Job, Cell, Good, phased_job, moved_job, counted_cell, thrown_cell, saved_cell}
use Rattle.guarantees.proofs.Whole.{job, job_of, cell, Here, Everywhere, Touch, touched, at_one_store}
use Rattle.unbroken.proofs.Laws.Room.{stores8, sender_made_holds}
use Rattle.unbroken.proofs.Laws.Bits.{bit_none}
use Rattle.unbroken.proofs.Laws.Has.{has_held, has_kept}
use Rattle.unbroken.proofs.Shelves.{shelf_same, shelf_beside}
use Rattle.unbroken.proofs.Places.{places_at}
use Rattle.guarantees.proofs.Touches.{with_counts, written_cell, same_cell, at_store_holds, at_stores, view_touch, repair_touch, entries_touch, entry_touch, counts_touch, taken_touch, updated_touch}
use Rattle.guarantees.proofs.Heads.{Headed, key_of, role_of, headed}

one_zero : (b : Bool) → (b ≡ true → ⊥) → one b ≡ 0
one_zero true h = absurd (h refl)
one_zero false h = refl

one_false : (b : Bool) → one b ≡ 0 → b ≡ false
one_false true e = let z : ⊥ = omega arith in absurd z
one_false false e = refl

-- 5: at the current store a change of phase and nothing else, at another one a move
timed_job : (P : Job → Type 0) (w : View) (q : Repair) (e : Entry) (p : ℕ) → P (phased_job 2 (job_of w q e)) → P (moved_job p (job_of w q e)) → P (job_of (timed_view p w) q e)
timed_job P w q e p stays moves =
    by_test (is_current p w)
    (λ c. subst (λ (n : ℕ). P (job_of (timed_view n w) q e)) (eqb-true w.store p c) (rw (eq-eqb w.store w.store refl) stays)) (λ c. rw c moves)

-- the sender's viewlink is the receiver's home
unfoldable pub Homes : State → Type 0
Homes m = (k : ℕ) → k < m.made → (view m (number k 0)).viewlink ≡ home m (view m (number k 1)).actor

-- arrays that the record doesn't speak of
same_slots : (m : State) (l : List ℕ) (cs : List Contents) (ls : List Links) (qs : List Queue) → Everywhere m → Everywhere (with_queues (with_links (with_contents (with_records m l) cs) ls) qs)
unfolding Everywhere
same_slots m l cs ls qs inv = inv

module _ (m : State) (z : Sized m) (fits : m.made ≤ 16) (inv : Everywhere m) where
  -- the two halves at the interaction k
  pub here : (k r p : ℕ) → k < m.made → r < 2 → p < 8 → Here m k r p
  unfolding Everywhere
  here = inv

  pub there : (k r p : ℕ) → k < m.made → r < 2 → p < 8 → Good (job m (number k (1 - r))) (cell m p (number k (1 - r))) (job m (number k r)) (cell m p (number k r)) (message m k).own p
  there k r p hk hr hp = let e : 1 - (1 - r) ≡ r = omega arith in rw e at (here k (1 - r) p hk (omega arith) hp)

  module _ (k r : ℕ) (hk : k < m.made) (hr : r < 2) where
    abbrev v : ℕ
    v = number k r

    abbrev o : ℕ
    o = number k (1 - r)

    key16 : k < 16
    key16 = omega arith

    -- what the two halves say of a new job, whatever the store
    abbrev Mine : Job → Type 0
    Mine w = (p : ℕ) → p < 8 → Good (job m v) (cell m p v) (job m o) (cell m p o) (message m k).own p → Good (job m o) (cell m p o) (job m v) (cell m p v) (message m k).own p → Good w (cell m p v) (job m o) (cell m p o) (message m k).own p

    abbrev Yours : Job → Type 0
    Yours w = (p : ℕ) → p < 8 → Good (job m v) (cell m p v) (job m o) (cell m p o) (message m k).own p → Good (job m o) (cell m p o) (job m v) (cell m p v) (message m k).own p → Good (job m o) (cell m p o) w (cell m p v) (message m k).own p

    pub by_view : (w : View) → Mine (job_of w (repair m v) (entry m v)) → Yours (job_of w (repair m v) (entry m v)) → Everywhere (with_view m v w)
    by_view w a b =
        touched m (with_view m v w) k r _ _ _ _ hr (view_touch m z k r key16 hr w) (λ j h n. h) fits inv
        (λ p hp. a p hp (here k r p hk hr hp) (there k r p hk hr hp)) (λ p hp. b p hp (here k r p hk hr hp) (there k r p hk hr hp))

    pub by_repair : (w : View) (q : Repair) → Mine (job_of w q (entry m v)) → Yours (job_of w q (entry m v)) → Everywhere (with_repair (with_view m v w) v q)
    by_repair w q a b =
        touched m (with_repair (with_view m v w) v q) k r _ _ _ _ hr (repair_touch m z k r key16 hr w q) (λ j h n. h) fits inv
        (λ p hp. a p hp (here k r p hk hr hp) (there k r p hk hr hp)) (λ p hp. b p hp (here k r p hk hr hp) (there k r p hk hr hp))

    pub by_entry : (e : Entry) → Mine (job_of (view m v) (repair m v) e) → Yours (job_of (view m v) (repair m v) e) → Everywhere (with_entry m v e)
    by_entry e a b =
        touched m (with_entry m v e) k r _ _ _ _ hr (entry_touch m z k r key16 hr e) (λ j h n. h) fits inv
        (λ p hp. a p hp (here k r p hk hr hp) (there k r p hk hr hp)) (λ p hp. b p hp (here k r p hk hr hp) (there k r p hk hr hp))

    pub by_entries : (e f : Entry) (q : Repair)
        → ((p : ℕ) → p < 8 → Good (job_of (view m v) q e) (cell m p v) (job_of (view m o) (repair m o) f) (cell m p o) (message m k).own p)
        → ((p : ℕ) → p < 8 → Good (job_of (view m o) (repair m o) f) (cell m p o) (job_of (view m v) q e) (cell m p v) (message m k).own p)
        → Everywhere (with_repair (with_entries m (set (set m.entries v e) o f)) v q)
    by_entries e f q a b =
        touched m (with_repair (with_entries m (set (set m.entries v e) o f)) v q) k r _ _ _ _ hr (entries_touch m z k r key16 hr e f q) (λ j h n. h) fits inv a b

    -- what the two halves say of a new place at the store p
    pub by_place : (n : State) (p : ℕ) (c : Cell) → n.made ≡ m.made → ((message n k).own ≡ (message m k).own) → p < 8
        → Touch m n k r (job m v) (job m o) (λ q. pick (eqb q p) c (cell m q v)) (λ q. cell m q o)
        → Good (job m v) c (job m o) (cell m p o) (message m k).own p → Good (job m o) (cell m p o) (job m v) c (message m k).own p → Everywhere n
    by_place n p c e f hp t a b =
        touched m n k r _ _ _ _ hr t (λ j h x. omega arith) (omega arith) inv
        (rw f (at_store_holds (λ q x. Good (job m v) x (job m o) (cell m q o) (message m k).own q) p c (λ q. cell m q v) a (λ q hq. here k r q hk hr hq)))
        (rw f (at_store_holds (λ q x. Good (job m o) (cell m q o) (job m v) x (message m k).own q) p c (λ q. cell m q v) b (λ q hq. there k r q hk hr hq)))

    -- copies that come and go
    by_counts : (p : ℕ) → p < 8 → (a n y : ℕ) → (0 < a → 0 < ack_copies m p v) → (0 < n → 0 < status_number (entry m v).status) → (0 < y → 0 < uack_copies m p v) → Everywhere (with_counts m p v a n y)
    by_counts p hp a n y f g h =
        by_place (with_counts m p v a n y) p (counted_cell a n y (cell m p v)) refl refl hp (counts_touch m z k r key16 hr p hp a n y)
        (Local.counted_me (here k r p hk hr hp) (there k r p hk hr hp) a n y f g h) (Local.counted_ot (here k r p hk hr hp) (there k r p hk hr hp) a n y)

  -- what holds of every view in the phase n holds of a head in it
  pub at_head : (P : ℕ → Type 0) (n : ℕ) → ((k r : ℕ) → k < m.made → r < 2 → (view m (number k r)).phase ≡ n → P (number k r)) → (a : ℕ) → Headed m a n → P (head m a)
  at_head P n f a h =
      let x = head m a in
      let g : x < m.made * 2 = h.made in
      let e : number (key_of x) (role_of x) ≡ x = omega arith in
      subst (λ (y : ℕ). (view m y).phase ≡ n → P y) e (f (key_of x) (role_of x) (omega arith) (omega arith)) h.phase

  -- .. of one sort
  module _ (k r p : ℕ) (hk : k < m.made) (hr : r < 2) (hp : p < 8) where
    with_acks_holds : (n : ℕ) → 0 < ack_copies m p (number k r) → Everywhere (with_ack_copies m p (number k r) n)
    with_acks_holds n c = simp set-get_or at (by_counts k r hk hr p hp n (update_copies m p (number k r)) (uack_copies m p (number k r)) (λ x. c) (here k r p hk hr hp).update_entry (λ x. x))

    with_updates_holds : (n : ℕ) → 0 < status_number (entry m (number k r)).status → Everywhere (with_update_copies m p (number k r) n)
    with_updates_holds n c = simp set-get_or at (by_counts k r hk hr p hp (ack_copies m p (number k r)) n (uack_copies m p (number k r)) (λ x. x) (λ x. c) (λ x. x))

    with_uacks_holds : (n : ℕ) → 0 < uack_copies m p (number k r) → Everywhere (with_uack_copies m p (number k r) n)
    with_uacks_holds n c = simp set-get_or at (by_counts k r hk hr p hp (ack_copies m p (number k r)) (update_copies m p (number k r)) n (λ x. x) (here k r p hk hr hp).update_entry (λ x. c))

module _ (m : State) (u : Unbroken m) (inv : Everywhere m) where
  z : Sized m
  z = u.sized

  fits : m.made ≤ 16
  fits = u.made16

  -- 3, 4, 5, 7: the head's record
  head_goes : (a : ℕ) (w : View) → HeadMove m a w → Everywhere (with_view m (head m a) w)
  head_goes a w (is_checked h) =
      at_head m z fits inv (λ x. Everywhere (with_view m x (checked_view m (view m x)))) 1
      (λ k r hk hr e. by_view m z fits inv k r hk hr (checked_view m (view m (number k r)))
      (λ p hp x y. Local.phased_me x y 2 (omega arith) (omega arith) (omega arith) (omega arith)) (λ p hp x y. Local.phased_ot x y 2 (omega arith) (omega arith)))
      a (headed m u a 1 h)
  head_goes a w (is_sent h) =
      at_head m z fits inv (λ x. Everywhere (with_view m x (phased 3 (view m x)))) 2
      (λ k r hk hr e. by_view m z fits inv k r hk hr (phased 3 (view m (number k r)))
      (λ p hp x y. Local.phased_me x y 3 (omega arith) (omega arith) (omega arith) (omega arith)) (λ p hp x y. Local.phased_ot x y 3 (omega arith) (omega arith)))
      a (headed m u a 2 h)
  head_goes a w (is_timed p t) =
      at_head m z fits inv (λ x. Everywhere (with_view m x (timed_view p (view m x)))) 3
      (λ k r hk hr e. by_view m z fits inv k r hk hr (timed_view p (view m (number k r)))
      (timed_job (Mine m z fits inv k r hk hr) (view m (number k r)) (repair m (number k r)) (entry m (number k r)) p
      (λ q hq x y. Local.phased_me x y 2 (omega arith) (omega arith) (omega arith) (omega arith)) (λ q hq x y. Local.moved_me x y e p))
      (timed_job (Yours m z fits inv k r hk hr) (view m (number k r)) (repair m (number k r)) (entry m (number k r)) p
      (λ q hq x y. Local.phased_ot x y 2 (omega arith) (omega arith)) (λ q hq x y. Local.moved_ot x y e p)))
      a (headed m u a 3 t.head)
  head_goes a w (is_acked p h at c) =
      at_head m z fits inv (λ x. (view m x).store ≡ p → 1 ≤ ack_copies m p x → Everywhere (with_view m x (phased 4 (view m x)))) 3
      (λ k r hk hr e f n. by_view m z fits inv k r hk hr (phased 4 (view m (number k r)))
      (λ q hq x y. Local.acked_me x y e (λ d. subst (λ (s : ℕ). 0 < ack_copies m s (number k r)) (sym f ∙ d) n)) (λ q hq x y. Local.phased_ot x y 4 (omega arith) (omega arith)))
      a (headed m u a 3 h) at c

  -- 8
  settles : (k r : ℕ) → k < m.made → r < 2 → (view m (number k r)).phase ≡ 4
      → Everywhere (with_repair (with_view m (number k r) (phased 5 (view m (number k r)))) (number k r) (asked_repair (repair m (number k r)) (view m (number k r))))
  settles k r hk hr h = go (view m (number k r)).changed refl
    where
      w : View
      w = view m (number k r)

      asks : Repair
      asks = record { flying = true; destination = (view m (number k r)).viewlink; own = (view m (number k r)).store }

      with : Repair → Type 0
      with q = Everywhere (with_repair (with_view m (number k r) (phased 5 (view m (number k r)))) (number k r) q)

      go : (b : Bool) → (view m (number k r)).changed ≡ b → with (asked_repair (repair m (number k r)) (view m (number k r)))
      go true c =
          subst with (sym (ap (λ (b : Bool). pick b asks (repair m (number k r))) c))
          (by_repair m z fits inv k r hk hr (phased 5 w) asks (λ p hp x y. Local.asked_me x y h (rw c refl)) (λ p hp x y. Local.asked_ot x y h))
      go false c =
          subst with (sym (ap (λ (b : Bool). pick b asks (repair m (number k r))) c))
          (by_repair m z fits inv k r hk hr (phased 5 w) (repair m (number k r)) (λ p hp x y. Local.settled_me x y h (rw c refl)) (λ p hp x y. Local.phased_ot x y 5 (omega arith) (omega arith)))

  post_checks : (a : ℕ) → HeadIn 4 m a → Everywhere (post_checked m a)
  unfolding post_checked
  post_checks a e =
      same_slots _ m.records m.contents m.links _
      (at_head m z fits inv (λ x. Everywhere (with_repair (with_view m x (phased 5 (view m x))) x (asked_repair (repair m x) (view m x)))) 4 settles a (headed m u a 4 e))

  -- copies come and go: those of records aren't spoken of
  module _ (p k r : ℕ) (o : PlaceOf m p k r) where
    in8 : p < 8
    in8 = omega (arith, stores8 m u, o.store_in)

    at_place : Here m k r p
    at_place = here m z fits inv k r p o.key_in o.role_in in8

    other_place : Good (job m (number k (1 - r))) (cell m p (number k (1 - r))) (job m (number k r)) (cell m p (number k r)) (message m k).own p
    other_place = there m z fits inv k r p o.key_in o.role_in in8

    in32 : number k r < 32
    in32 = omega (arith, fits, o.key_in, o.role_in)

    row : length (shelf m p).viewlinks ≡ 32
    row = (u.store_at p in8).working.long

  flies : (records acks updates uacks : List ℕ) → FlightMove m records acks updates uacks → Everywhere (with_flight m records acks updates uacks)
  flies records acks updates uacks (record_comes p v hs hm e f) = same_slots m _ m.contents m.links m.queues inv
  flies records acks updates uacks (records_there p k r n o c few) = same_slots m _ m.contents m.links m.queues inv
  flies records acks updates uacks (acks_there p k r n o c few) = with_acks_holds m z fits inv k r p o.key_in o.role_in (in8 p k r o) n c
  flies records acks updates uacks (update_comes p k r o e f) = with_updates_holds m z fits inv k r p o.key_in o.role_in (in8 p k r o) _ (omega (arith, ap status_number e))
  flies records acks updates uacks (updates_there p k r n o c few) = with_updates_holds m z fits inv k r p o.key_in o.role_in (in8 p k r o) n ((at_place p k r o).update_entry c)
  flies records acks updates uacks (uacks_there p k r n o c few) = with_uacks_holds m z fits inv k r p o.key_in o.role_in (in8 p k r o) n c

  -- 6: contents are there from now on, with a viewlink, and an ack is owed
  takes_record : (p k r : ℕ) → PlaceOf m p k r → 1 ≤ record_copies m p (number k r) → Everywhere (with_taken m p k r)
  takes_record p k r o c =
      let hp = in8 p k r o in
      let g = (u.record_at p (number k r) hp (in32 p k r o)).at_view c in
      let w = view m (number k r) in
      same_slots (with_shelf m p (taken_in (shelf m p) (number k r) w)) m.records _ _ m.queues
      (by_place m z fits inv k r o.key_in o.role_in (with_shelf m p (taken_in (shelf m p) (number k r) w)) p _ refl refl hp (taken_touch m z k r (omega (arith, fits, o.key_in)) o.role_in p hp (row p k r o) w)
      (Local.recorded_me (at_place p k r o) (other_place p k r o) g) (Local.recorded_ot (at_place p k r o) (other_place p k r o) g))

  -- 11: the viewlink of the other view is written, and a uack is owed
  takes_update : (p k r : ℕ) → PlaceOf m p k r → 1 ≤ update_copies m p (number k r) → Everywhere (with_updated m p k r)
  takes_update p k r o c =
      let hp = in8 p k r o in
      let hk = o.key_in in
      let hr = o.role_in in
      let a = at_place p k r o in
      let b = other_place p k r o in
      let s = a.update_entry c in
      touched m _ k r _ _ _ _ hr (updated_touch m z k r (omega (arith, fits)) hr p hp (row p k r o) (entry m (number k r)).own) (λ j h x. h) fits inv
      (at_stores (λ q x x'. Good (job m (number k r)) x (job m (number k (1 - r))) x' (message m k).own q) p _ _ (λ q. cell m q (number k r)) (λ q. cell m q (number k (1 - r))) (Local.updated_me a b s) (λ q hq. here m z fits inv k r q hk hr hq))
      (at_stores (λ q x x'. Good (job m (number k (1 - r))) x' (job m (number k r)) x (message m k).own q) p _ _ (λ q. cell m q (number k r)) (λ q. cell m q (number k (1 - r))) (Local.updated_ot a b s) (λ q hq. there m z fits inv k r q hk hr hq))

  -- 10, 13: an entry's status
  with_status : (k r s : ℕ) (e : Entry) → k < m.made → r < 2 → 0 < status_number (entry m (number k r)).status → status_number e.status ≡ s → 0 < s → s < 3
      → e.destination ≡ (entry m (number k r)).destination → e.own ≡ (entry m (number k r)).own → Everywhere (with_entry m (number k r) e)
  with_status k r s e hk hr h g i j d o =
      by_entry m z fits inv k r hk hr e
      (λ p hp x y. rw (g, d, o) (Local.stated_me x y s h i (omega arith) (λ q. absurd (omega arith)))) (λ p hp x y. rw (g, d, o) (Local.stated_ot x y s h i (omega arith)))

  states : (k r : ℕ) (t : Status) → ViewOf m k r → StatusMove m (number k r) t → Everywhere (with_entry m (number k r) (in_status t (entry m (number k r))))
  states k r t o (is_waiting e) =
      with_status k r 2 (in_status Waiting (entry m (number k r))) o.key_in o.role_in (omega (arith, ap status_number e)) refl (omega arith) (omega arith) refl refl
  states k r t o (is_expired e) =
      with_status k r 1 (in_status ToSend (entry m (number k r))) o.key_in o.role_in (omega (arith, ap status_number e)) refl (omega arith) (omega arith) refl refl
  states k r t o (is_done p hs e d c) =
      let hk = o.key_in in
      let hr = o.role_in in
      let hp : p < 8 = omega (arith, stores8 m u) in
      let f = ap status_number e in
      let l = (here m z fits inv k r p hk hr hp).wrote c in
      by_entry m z fits inv k r hk hr (in_status Done (entry m (number k r)))
      (λ q hq x y. Local.stated_me x y 3 (omega arith) (omega arith) (omega arith) (λ h i. subst (λ (s : ℕ). kept_viewlink m s (number k (1 - r)) ≡ suc (view m (number k r)).store) (sym d ∙ i) l))
      (λ q hq x y. Local.stated_ot x y 3 (omega arith) (omega arith) (omega arith))

  -- 16: nothing that the record speaks of
  restarts : (p : ℕ) → p < m.stores → Everywhere (restarted m p)
  unfolding Everywhere restarted
  restarts p h k r q hk hr hq =
      let t = turned (shelf m p) true in
      let hp : p < 8 = omega (arith, stores8 m u) in
      rw (same_cell m z p hp t q (number k r) refl, same_cell m z p hp t q (number k (1 - r)) refl) (inv k r q hk hr hq)

  -- 15, 17: the whole store
  module _ (p : ℕ) (h : p < m.stores) where
    p8 : p < 8
    p8 = omega (arith, stores8 m u)

    crashes : Everywhere (crashed m p)
    unfolding crashed swept
    crashes =
        let t = thrown_back (shelf m p) in
        let now : (v : ℕ) → cell (with_shelf m p t) p v ≡ thrown_cell (cell m p v) = λ v. written_cell m z p p8 t p v ∙ rw (eq-eqb p p refl, bit_none v) in
        at_one_store m (crashed m p) p refl fits (λ v. refl) (λ k. refl) (λ q v hq hv n. written_cell m z p p8 t q v ∙ rw (ne_eqb q p n)) inv
        (λ k r hk hr hp. rw (now (number k r), now (number k (1 - r))) (Local.thrown_me (here m z fits inv k r p hk hr hp) (there m z fits inv k r p hk hr hp)))

    -- the copies of a view after a checkpoint: one more where one was owed
    abbrev owed_of : (ℕ → Bool) → ℕ → ℕ → ℕ
    owed_of owes v n = pick (owes v) (more n) n

    acks_at : (q v : ℕ) → q < 8 → v < 32 → ack_copies (checkpointed m p) q v ≡ pick (eqb q p) (owed_of (owes_ack m p) v (ack_copies m q v)) (ack_copies m q v)
    unfolding checkpointed swept
    acks_at q v hq hv = places_at 32 p (owed_of (owes_ack m p)) 0 m.acks q v hq hv

    uacks_at : (q v : ℕ) → q < 8 → v < 32 → uack_copies (checkpointed m p) q v ≡ pick (eqb q p) (owed_of (owes_uack m p) v (uack_copies m q v)) (uack_copies m q v)
    unfolding checkpointed swept
    uacks_at q v hq hv = places_at 32 p (owed_of (owes_uack m p)) 0 m.uacks q v hq hv

    updates_at : (q v : ℕ) → update_copies (checkpointed m p) q v ≡ update_copies m q v
    unfolding checkpointed swept
    updates_at q v = refl

    saved_here : shelf (checkpointed m p) p ≡ saved (shelf m p)
    unfolding checkpointed swept
    saved_here = shelf_same m.shelves p (saved (shelf m p)) z.shelves p8

    saved_beside : (q : ℕ) → q ≢ p → shelf (checkpointed m p) q ≡ shelf m q
    unfolding checkpointed swept
    saved_beside q n = shelf_beside m.shelves p (saved (shelf m p)) q n

    not_owed : (owes : ℕ → Bool) (v n : ℕ) → 0 < owed_of owes v n → one (owes v) ≡ 0 → 0 < n
    not_owed owes v n some e = subst (λ (b : Bool). 0 < pick b (more n) n) (one_false (owes v) e) some

    saved_cell_holds : (v : ℕ) → v < 32 → cell (checkpointed m p) p v ≡ saved_cell (owed_of (owes_ack m p) v (ack_copies m p v)) (owed_of (owes_uack m p) v (uack_copies m p v)) (cell m p v)
    saved_cell_holds v hv = rw (acks_at p v p8 hv, uacks_at p v p8 hv, updates_at p v, eq-eqb p p refl, saved_here, bit_none v)

    far_cell_holds : (q v : ℕ) → q < 8 → v < 32 → q ≢ p → cell (checkpointed m p) q v ≡ cell m q v
    far_cell_holds q v hq hv n = rw (acks_at q v hq hv, uacks_at q v hq hv, updates_at q v, ne_eqb q p n, saved_beside q n)

    checkpoints : Everywhere (checkpointed m p)
    unfolding checkpointed swept
    checkpoints =
        at_one_store m (checkpointed m p) p refl fits (λ v. refl) (λ k. refl) far_cell_holds inv
        (λ k r hk hr hp. rw (saved_cell_holds (number k r) (omega (arith, fits)), saved_cell_holds (number k (1 - r)) (omega (arith, fits)))
        (Local.saved_me (here m z fits inv k r p hk hr hp) (there m z fits inv k r p hk hr hp) _ _ _ _
        (not_owed (owes_ack m p) (number k r) (ack_copies m p (number k r))) (not_owed (owes_uack m p) (number k r) (uack_copies m p (number k r)))))

  -- 9
  takes_repair : (k r : ℕ) → TakeRepairTaken m k r → Everywhere (repair_taken m k r)
  unfolding repair_taken
  takes_repair k r t =
      go (entered (entry m (number k (1 - r)))) refl t.view.key_in t.view.role_in (rw t.flying (omega arith))
    where
      v : ℕ
      v = number k r

      o : ℕ
      o = number k (1 - r)

      with : Bool → Type 0
      with b = Everywhere (with_repair (with_entries m (set (set m.entries (number k r) (to_send (pick b (entry m (number k (1 - r))).own (repair m (number k r)).destination) (repair m (number k r)).own)) (number k (1 - r)) (pick b (to_send (repair m (number k r)).own (entry m (number k (1 - r))).own) (entry m (number k (1 - r)))))) (number k r) no_repair)

      go : (b : Bool) → entered (entry m (number k (1 - r))) ≡ b → k < m.made → r < 2 → 0 < one (repair m (number k r)).flying → with (entered (entry m (number k (1 - r))))
      go true c hk hr f =
          let g = eqb-false (status_number (entry m (number k (1 - r))).status) 0 (not-true _ c) in
          let h : 0 < status_number (entry m (number k (1 - r))).status = omega arith in
          subst with (sym c)
          (by_entries m z fits inv k r hk hr (to_send (entry m (number k (1 - r))).own (repair m (number k r)).own) (to_send (repair m (number k r)).own (entry m (number k (1 - r))).own) no_repair
          (λ p hp. Local.turned_me (here m z fits inv k r p hk hr hp) (there m z fits inv k r p hk hr hp) f h)
          (λ p hp. Local.turned_ot (here m z fits inv k r p hk hr hp) (there m z fits inv k r p hk hr hp) f h))
      go false c hk hr f =
          let g = eqb-true (status_number (entry m (number k (1 - r))).status) 0 (not-false _ c) in
          subst with (sym c)
          (by_entries m z fits inv k r hk hr (to_send (repair m (number k r)).destination (repair m (number k r)).own) (entry m (number k (1 - r))) no_repair
          (λ p hp. Local.entered_me (here m z fits inv k r p hk hr hp) (there m z fits inv k r p hk hr hp) f g)
          (λ p hp. Local.entered_ot (here m z fits inv k r p hk hr hp) (there m z fits inv k r p hk hr hp) f g))

  -- 2
  receives : Homes m → (k : ℕ) → ReceiveTaken m k → Everywhere (received_of m k)
  unfolding received_of Homes
  receives homes k t =
      let hk = t.key_in in
      let w = received_view m k in
      let n = received_of m k in
      let g : (message m k).own ≡ (message m k).own = refl in
      touched m n k 1 _ _ _ _ (omega arith)
      (record {
        me = rw (get_or-set_same m.views (number k 1) w no_view (omega (arith, z.views, fits)));
        ot = rw (get_or-set_other m.views (number k 1) (number k (1 - 1)) w no_view (λ x. let y : ⊥ = omega arith in y));
        mc = λ p hp. refl;
        oc = λ p hp. refl;
        far_job = λ x hx f y. rw (get_or-set_other m.views (number k 1) x w no_view f);
        far_cell = λ p x hp hx f y. refl;
        far_sent = λ j f. rw (get_or-set_other m.messages k j no_message no_message f);
      })
      (λ j h x. h) fits inv
      (λ p hp. Local.received_me (here m z fits inv k 1 p hk (omega arith) hp) (there m z fits inv k 1 p hk (omega arith) hp) t.unreceived (home m (view m (number k 1)).actor) _ (sym (homes k hk)) (sender_made_holds m u k hk))
      (λ p hp. Local.received_ot (here m z fits inv k 1 p hk (omega arith) hp) (there m z fits inv k 1 p hk (omega arith) hp) t.unreceived (home m (view m (number k 1)).actor) _ (sym (homes k hk)) (sender_made_holds m u k hk))

  -- 1: at a view that isn't made there is nothing
  module _ (v : ℕ) (h : v < 32) (far : m.made * 2 ≤ v) where
    no_flight : one (repair m v).flying ≡ 0
    no_flight = one_zero (repair m v).flying (λ e. omega (arith, (u.repair_at v h).settled e, (u.view_at v h).phase_blank far))

    no_status : status_number (entry m v).status ≡ 0
    no_status = Local.none (λ e. omega (arith, (u.entry_at v h).settled e, (u.view_at v h).phase_blank far))

    unmade_job : (w : View) → job_of w (repair m v) (entry m v)
        ≡ record { phase = w.phase; store = w.store; viewlink = w.viewlink; changed = one w.changed; flying = 0; repair_to = 0; repair_own = 0; status = 0; destination = 0; own = 0 }
    unmade_job w =
        rw (no_flight, no_status, (u.repair_at v h).blank (one_false _ no_flight), (u.entry_at v h).blank no_status)

    unmade_cell : (p : ℕ) → p < 8 → cell m p v ≡ Local.blank_cell
    unmade_cell p hp =
        let f = (u.view_at v h).phase_blank far in
        let a : one (is_held m p v) ≡ 0 = one_zero (is_held m p v) (λ e. omega (arith, (u.contents_at p v hp h).ready (has_held m p v e))) in
        let b : viewlink m p v ≡ 0 = Local.none (λ e. omega (arith, ((u.store_at p hp).working.link_at v h).at_view e)) in
        let i : one (is_kept m p v) ≡ 0 = one_zero (is_kept m p v) (λ e. omega (arith, (u.contents_at p v hp h).ready (has_kept m p v e))) in
        let j : kept_viewlink m p v ≡ 0 = Local.none (λ e. omega (arith, ((u.store_at p hp).checkpointed.link_at v h).at_view e)) in
        let x : one (owes_ack m p v) ≡ 0 = one_zero (owes_ack m p v) (λ e. omega (arith, u.ack_owed p v hp h e)) in
        let y : one (owes_uack m p v) ≡ 0 = one_zero (owes_uack m p v) (λ e. omega (arith, u.uack_owed p v hp h e, no_status)) in
        let c : ack_copies m p v ≡ 0 = Local.none (λ e. omega (arith, (u.ack_at p v hp h).at_view e)) in
        let d : update_copies m p v ≡ 0 = Local.none (λ e. omega (arith, (u.update_at p v hp h).at_view e, no_status)) in
        let g : uack_copies m p v ≡ 0 = Local.none (λ e. omega (arith, (u.uack_at p v hp h).at_view e, no_status)) in
        rw (a, b, i, j, x, y, c, d, g)

  sends : (from to own word causes : ℕ) → SendTaken m from to own causes → Everywhere (sent m from to own word causes)
  unfolding sent
  sends from to own word causes t =
      let room = t.room in
      let k = m.made in
      let a = number k 0 in
      let b = number k 1 in
      let w = sent_view m from to own word causes in
      let x = awaited_view to in
      let n = sent m from to own word causes in
      let ha : a < length m.views = omega (arith, z.views) in
      let hb : b < length (set m.views a w) = rw length-set (omega (arith, z.views)) in
      let ab : a ≢ b = λ q. let y : ⊥ = omega arith in y in
      touched m n k 0 (Local.sent_job own (home m to) 0) (Local.awaited_job own (home m to) 0) (λ p. Local.blank_cell) (λ p. Local.blank_cell) (omega arith)
      (record {
        me = rw (get_or-set_other (set m.views a w) b a x no_view ab, get_or-set_same m.views a w no_view ha) (unmade_job a (omega arith) (omega arith) w);
        ot = rw (get_or-set_same (set m.views a w) b x no_view hb) (unmade_job b (omega arith) (omega arith) x);
        mc = λ p hp. unmade_cell a (omega arith) (omega arith) p hp;
        oc = λ p hp. unmade_cell b (omega arith) (omega arith) p hp;
        far_job = λ y hy f g. rw (get_or-set_other (set m.views a w) b y x no_view g, get_or-set_other m.views a y w no_view f);
        far_cell = λ p y hp hy f g. refl;
        far_sent = λ j f. rw (get_or-set_other m.messages k j (record { flying = true; own = own; word = word }) no_message f);
      })
      (λ j h f. omega arith) (omega arith) inv
      (λ p hp. rw (get_or-set_same m.messages k (record { flying = true; own = own; word = word }) no_message (omega (arith, z.messages))) (Local.sent_me own (home m to) p))
      (λ p hp. rw (get_or-set_same m.messages k (record { flying = true; own = own; word = word }) no_message (omega (arith, z.messages))) (Local.sent_ot own (home m to) p))

  pub change_everywhere : (n : State) → Homes m → Change m n → Everywhere n
  change_everywhere n homes (on_send from to own word causes t) = sends from to own word causes t
  change_everywhere n homes (on_receive k t) = receives homes k t
  change_everywhere n homes (on_head a w h) = head_goes a w h
  change_everywhere n homes (on_settle a h) = post_checks a h
  change_everywhere n homes (on_flight records acks updates uacks f) = flies records acks updates uacks f
  change_everywhere n homes (on_taken p k r o c) = takes_record p k r o c
  change_everywhere n homes (on_updated p k r o c) = takes_update p k r o c
  change_everywhere n homes (on_status k r t o c) = states k r t o c
  change_everywhere n homes (on_repair k r t) = takes_repair k r t
  change_everywhere n homes (on_crash p h) = crashes p h
  change_everywhere n homes (on_restart p h) = restarts p h
  change_everywhere n homes (on_checkpoint p h up) = checkpoints p h

-- .. and the sender's viewlink the receiver's home: no change takes it away, and a send writes it
module _ (m n : State) (u : Unbroken m) (on : Onward m n) (homes : Homes m) where
  old_home : (k : ℕ) → k < m.made → (view n (number k 0)).viewlink ≡ home n (view n (number k 1)).actor
  unfolding Homes
  old_home k hk =
      let a = on.views (number k 0) (omega arith) in
      let b = on.views (number k 1) (omega arith) in
      a.viewlink (sender_made_holds m u k hk) ∙ (homes k hk ∙ sym (ap (λ (l : List ℕ). get_or l (view n (number k 1)).actor 0) on.homes ∙ ap (home m) b.actor))

  same_homes : n.made ≡ m.made → Homes n
  unfolding Homes
  same_homes e k hk = old_home k (omega arith)

sent_homes : (m : State) (u : Unbroken m) (from to own word causes : ℕ) → SendTaken m from to own causes → Homes m → Homes (sent m from to own word causes)
unfolding Homes sent
sent_homes m u from to own word causes t homes k hk = go (ℕ_discrete k m.made)
  where
    n : State
    n = sent m from to own word causes

    go : Dec (k ≡ m.made) → (view (sent m from to own word causes) (number k 0)).viewlink ≡ home (sent m from to own word causes) (view (sent m from to own word causes) (number k 1)).actor
    go (yes e) =
        let x = sends_new_key m from to own word causes (whole m u) t in
        rw (e, ap (λ (w : View). w.viewlink) x.sender, ap (λ (w : View). w.actor) x.receiver)
    go (no f) = old_home m n u (change_onward m n u (on_send from to own word causes t)) homes k (omega arith)

pub change_homes : (m n : State) → Unbroken m → Homes m → Change m n → Homes n
unfolding received_of post_checked repair_taken swept crashed restarted checkpointed
change_homes m n u homes (on_send from to own word causes t) = sent_homes m u from to own word causes t homes
change_homes m n u homes (on_receive k t) = same_homes m n u (change_onward m n u (on_receive k t)) homes refl
change_homes m n u homes (on_head a w h) = same_homes m n u (change_onward m n u (on_head a w h)) homes refl
change_homes m n u homes (on_settle a h) = same_homes m n u (change_onward m n u (on_settle a h)) homes refl
change_homes m n u homes (on_flight records acks updates uacks f) = same_homes m n u (change_onward m n u (on_flight records acks updates uacks f)) homes refl
change_homes m n u homes (on_taken p k r o c) = same_homes m n u (change_onward m n u (on_taken p k r o c)) homes refl
change_homes m n u homes (on_updated p k r o c) = same_homes m n u (change_onward m n u (on_updated p k r o c)) homes refl
change_homes m n u homes (on_status k r t o c) = same_homes m n u (change_onward m n u (on_status k r t o c)) homes refl
change_homes m n u homes (on_repair k r c) = same_homes m n u (change_onward m n u (on_repair k r c)) homes refl
change_homes m n u homes (on_crash p h) = same_homes m n u (change_onward m n u (on_crash p h)) homes refl
change_homes m n u homes (on_restart p h) = same_homes m n u (change_onward m n u (on_restart p h)) homes refl
change_homes m n u homes (on_checkpoint p h up) = same_homes m n u (change_onward m n u (on_checkpoint p h up)) homes refl

-- so every step keeps both
pub taken_keeps : (m : State) (s : Step) → broken_of m ≡ false → number_of m s ≡ 0 → Everywhere m × Homes m → Everywhere (after_of m s) × Homes (after_of m s)
taken_keeps =
    taken_related (λ m n. Everywhere m × Homes m → Everywhere n × Homes n) (λ m x. x) (λ m n o f g x. g (f x))
    (λ m n u c x. (change_everywhere m u x.0 n x.1 c, change_homes m n u x.1 c))
