-- The drain's steps for a view that is not settled are taken, and each leaves one step less. Every array that a step writes is
-- read again where it was written, and elsewhere. Assumes nothing.
use Prim.Native.Nat.{ℕ, ◌-◌, ◌*◌, ◌≤◌, ◌<◌}
use mathlib.Core.Path.{◌≡◌, refl, ap, ◌∙◌}
use mathlib.Core.Logic.{◌≢◌}
use mathlib.Core.Bool.{Bool, true, false, not}
use native.Mathlib.Omega.{arith}
use lib.Dec.{eqb}
use lib.ListN.{length}
use lib.Seq.{get_or-set_same, get_or-set_other}
use borrow.Author.Tests.{eq-eqb, ne_eqb, lt-leb, ltb-false}
use Rattle.std.proofs.Common.{rules}
use Rattle.protocol.specs.Words.{bit}
use Rattle.protocol.specs.Slots.{number, place, no_view, no_repair, is_up, shelf, list, queue, view, repair, entry, record_copies, ack_copies, owes_ack}
use Rattle.protocol.specs.Writes.{with_view, with_record_copies, with_ack_copies}
use Rattle.unbroken.specs.Unbroken.{Unbroken}
use Rattle.unbroken.proofs.Laws.Room.{made_32}
use Rattle.unbroken.proofs.Shelves.{shelf_left, shelf_unseen}
use Rattle.protocol.specs.declared.State.{State}
use Rattle.protocol.specs.declared.View.{View}
use Rattle.protocol.specs.declared.Repair.{Repair}
use Rattle.protocol.specs.Views.{phased}
use Rattle.protocol.specs.Rule.{head, more}
use Rattle.protocol.specs.Receive.{receive_no, received_of, received_view}
use Rattle.protocol.specs.PreCheck.{pre_check_no, pre_checked, checked_view}
use Rattle.protocol.specs.SendRecord.{send_record_no, record_sent}
use Rattle.protocol.specs.Timeout.{timeout_no, timed_out, timed_view}
use Rattle.protocol.specs.TakeRecord.{take_record_no, record_taken, taken_in}
use Rattle.protocol.specs.TakeAck.{take_ack_no, ack_taken}
use Rattle.protocol.specs.PostCheck.{post_check_no, post_checked, asked_repair}
use Rattle.protocol.specs.Step.{number_of, after_of}
use Rattle.protocol.specs.declared.Step.{Step}
use Rattle.protocol.specs.declared.Step.TheVariants.{Receive, PreCheck, SendRecord, Timeout, TakeRecord, TakeAck, PostCheck}
use Rattle.protocol.specs.Drain.{key_of, role_of, up_in, all_up}
use Rattle.drains.proofs.StepsLeft.{Seen, seen, receive_lowers, pre_check_lowers, send_record_lowers, timeout_lowers, take_record_lowers, take_ack_lowers, post_check_lowers}
use Rattle.drains.proofs.Owing.{owing_now, owing_far}
use Rattle.drains.proofs.Total.{seen_of, total, total_falls, opposite}

-- a step of the drain that is taken and leaves one step less, with the stores as up as they were
pub record Lowers (m : State) (s : Step) : Type 0 where
  pub taken : number_of m s ≡ 0
  pub lower : total (after_of m s) < total m
  pub up : all_up (after_of m s) ≡ all_up m
  pub stores : (after_of m s).stores ≡ m.stores
  pub made : (after_of m s).made ≡ m.made

-- a view's number is that of its key and role
pub same_number : (v : ℕ) → number (key_of v) (role_of v) ≡ v
same_number v = omega arith

-- where copies go, there are some
pub some_more : (n : ℕ) → not (eqb (more n) 0) ≡ true
some_more n = search (rules, ne_eqb, ltb-false)

-- a repair is in flight after the post-check if the view has changed
asked_flies : (r : Repair) (x : View) → r.flying ≡ false → (asked_repair r x).flying ≡ x.changed
asked_flies r x e = search rules

-- places of two views are two
pub place_other : (p v q u : ℕ) → v < 32 → u < 32 → u ≢ v → place q u ≢ place p v
place_other p v q u hv hu n e = n (omega arith)

module _ (m : State) (w : Unbroken m) (v : ℕ) (hv : v < m.made * 2) where
  abbrev me : Seen
  me = seen_of m v

  abbrev it : Seen
  it = seen_of m (opposite v)

  in_views : v < length m.views
  in_views = omega (arith, w.sized.views, w.made16)

  -- a view written anew
  seen_view : (x : View) → seen_of (with_view m v x) v
      ≡ seen x.phase x.changed me.repair me.status (not (eqb (ack_copies m x.store v) 0)) (owes_ack m x.store v) (not (eqb (record_copies m x.store v) 0)) me.uack me.uack_owed me.update
  unfolding seen_of
  seen_view x = rw (get_or-set_same m.views v x no_view in_views)

  view_far : (x : View) (u : ℕ) → u < m.made * 2 → u ≢ v → seen_of (with_view m v x) u ≡ seen_of m u
  unfolding seen_of
  view_far x u l n = rw (get_or-set_other m.views v u x no_view n)

  -- a view and the copies of its record, or of an ack, at its store
  module _ (x : View) (c : ℕ) (hx : x.store < 8) where
    in_places : place x.store v < 256
    in_places = omega (arith, w.made16)

    seen_record : seen_of (with_record_copies (with_view m v x) x.store v c) v
        ≡ seen x.phase x.changed me.repair me.status (not (eqb (ack_copies m x.store v) 0)) (owes_ack m x.store v) (not (eqb c 0)) me.uack me.uack_owed me.update
    unfolding seen_of
    seen_record =
        rw (get_or-set_same m.views v x no_view in_views, get_or-set_same m.records (place x.store v) c 0 (omega (arith, w.sized.records, in_places)))

    record_far : (u : ℕ) → u < m.made * 2 → u ≢ v → seen_of (with_record_copies (with_view m v x) x.store v c) u ≡ seen_of m u
    unfolding seen_of
    record_far u e f = search (rules, get_or-set_other, place_other, made_32)

    seen_ack : seen_of (with_ack_copies (with_view m v x) x.store v c) v
        ≡ seen x.phase x.changed me.repair me.status (not (eqb c 0)) (owes_ack m x.store v) (not (eqb (record_copies m x.store v) 0)) me.uack me.uack_owed me.update
    unfolding seen_of
    seen_ack =
        rw (get_or-set_same m.views v x no_view in_views, get_or-set_same m.acks (place x.store v) c 0 (omega (arith, w.sized.acks, in_places)))

    ack_far : (u : ℕ) → u < m.made * 2 → u ≢ v → seen_of (with_ack_copies (with_view m v x) x.store v c) u ≡ seen_of m u
    unfolding seen_of
    ack_far u e f = search (rules, get_or-set_other, place_other, made_32)

-- step 2
pub receive_good : (m : State) → Unbroken m → (k : ℕ) → k < m.made → (view m (number k 1)).phase ≡ 0 → Lowers m (Receive k)
unfolding receive_no received_of seen_of
receive_good m w k hk h =
    let v = number k 1 in
    let hv : number k 1 < m.made * 2 = omega arith in
    let x = received_view m k in
    let s = me m w v hv in
    let before : s ≡ seen 0 false s.repair s.status s.ack s.ack_owed s.sent s.uack s.uack_owed s.update = rw (h, ap (λ (y : View). y.changed) ((w.view_at v (made_32 m w v hv)).unset h)) in
    record {
      taken = rw (lt-leb m.made k hk, eq-eqb (view m v).phase 0 h);
      lower = total_falls m (received_of m k) refl v hv _ _ before (seen_view m w v hv x) (view_far m w v hv x)
          (receive_lowers (it m w v hv) s.repair s.status s.uack s.uack_owed s.update _ _ _ s.ack s.ack_owed s.sent);
      up = refl;
      stores = refl;
      made = refl;
    }

-- the steps of the head of a queue
module _ (m : State) (w : Unbroken m) (a : ℕ) (ha : a < m.actors) (some : (queue m a).len ≢ 0) (hv : head m a < m.made * 2) where
  abbrev v : ℕ
  v = head m a

  abbrev s : Seen
  s = seen_of m v

  phased_as : (n : ℕ) → (view m v).phase ≡ n → s ≡ seen n s.changed s.repair s.status s.ack s.ack_owed s.sent s.uack s.uack_owed s.update
  unfolding seen_of
  phased_as n h = rw h

  in_stores : 1 ≤ (view m v).phase → (view m v).store < m.stores
  in_stores = (w.view_at v (omega (arith, w.made16))).store_in

  pub pre_check_good : (view m v).phase ≡ 1 → Lowers m (PreCheck a)
  unfolding pre_check_no pre_checked seen_of
  pre_check_good h =
      let x = checked_view m (view m v) in
      record {
        taken = rw (lt-leb m.actors a ha, ne_eqb (queue m a).len 0 some, eq-eqb (view m v).phase 1 h);
        lower = total_falls m (pre_checked m a) refl v hv _ _ (phased_as 1 h) (seen_view m w v hv x) (view_far m w v hv x)
            (pre_check_lowers _ s.repair s.status s.uack s.uack_owed s.update s.changed s.ack s.ack_owed s.sent);
        up = refl;
        stores = refl;
        made = refl;
      }

  module _ (at : (view m v).store < 8) where
    pub send_record_good : (view m v).phase ≡ 2 → Lowers m (SendRecord a)
    unfolding send_record_no record_sent seen_of
    send_record_good h =
        let x = phased 3 (view m v) in
        let c = more (record_copies m (view m v).store v) in
        let after : seen_of (record_sent m a) v ≡ seen 3 s.changed s.repair s.status s.ack s.ack_owed true s.uack s.uack_owed s.update
        = seen_record m w v hv x c at ∙ rw (some_more (record_copies m (view m v).store v)) in
        record {
          taken = rw (lt-leb m.actors a ha, ne_eqb (queue m a).len 0 some, eq-eqb (view m v).phase 2 h);
          lower = total_falls m (record_sent m a) refl v hv _ _ (phased_as 2 h) after (record_far m w v hv x c at)
              (send_record_lowers _ s.repair s.status s.uack s.uack_owed s.update s.changed s.ack s.ack_owed s.sent);
          up = refl;
          stores = refl;
          made = refl;
        }

    pub post_check_good : (view m v).phase ≡ 4 → Lowers m (PostCheck a)
    unfolding post_check_no post_checked seen_of
    post_check_good h =
        let x = phased 5 (view m v) in
        let r = asked_repair (repair m v) (view m v) in
        let idle : (repair m v).flying ≡ false = settled_only (repair m v).flying refl in
        let after : seen_of (post_checked m a) v ≡ seen 5 s.changed s.changed s.status s.ack s.ack_owed s.sent s.uack s.uack_owed s.update
        = rw (get_or-set_same m.views v x no_view (in_views m w v hv), get_or-set_same m.repairs v r no_repair (omega (arith, w.sized.repairs, w.made16)), asked_flies (repair m v) (view m v) idle) in
        record {
          taken = rw (lt-leb m.actors a ha, ne_eqb (queue m a).len 0 some, eq-eqb (view m v).phase 4 h);
          lower = total_falls m (post_checked m a) refl v hv _ _ (phased_as 4 h) after
              (λ u l n. rw (get_or-set_other m.views v u x no_view n, get_or-set_other m.repairs v u r no_repair n))
              (post_check_lowers _ s.repair s.status s.uack s.uack_owed s.update s.changed s.ack s.ack_owed s.sent);
          up = refl;
          stores = refl;
          made = refl;
        }
      where
        settled_only : (b : Bool) → (repair m v).flying ≡ b → (repair m v).flying ≡ false
        settled_only false e = e
        settled_only true e = absurd (omega (arith, (w.repair_at v (made_32 m w v hv)).settled e))

    -- phase 3: the spare store, the ack and the record
    module _ (h : (view m v).phase ≡ 3) where
      pub timeout_good : (q : ℕ) → q < m.stores → bit (list m a) q ≡ true → (view m v).store ≢ q
          → eqb (ack_copies m (view m v).store v) 0 ≡ true → owes_ack m (view m v).store v ≡ false → eqb (record_copies m (view m v).store v) 0 ≡ true → Lowers m (Timeout a q)
      unfolding timeout_no timed_out seen_of
      timeout_good q hq listed other no_ack not_owed no_record =
          let x = timed_view q (view m v) in
          let before : s ≡ seen 3 s.changed s.repair s.status false false false s.uack s.uack_owed s.update = rw (h, no_ack, not_owed, no_record) in
          record {
            taken = rw (lt-leb m.actors a ha, lt-leb m.stores q hq, ne_eqb (queue m a).len 0 some, eq-eqb (view m v).phase 3 h, listed, ne_eqb (view m v).store q other);
            lower = total_falls m (timed_out m a q) refl v hv _ _ before (seen_view m w v hv x) (view_far m w v hv x)
                (rw (ne_eqb (view m v).store q other) (timeout_lowers (seen_of m (opposite v)) s.repair s.status s.uack s.uack_owed s.update s.changed (not (eqb (ack_copies m q v) 0)) (owes_ack m q v) (not (eqb (record_copies m q v) 0))));
            up = refl;
            stores = refl;
            made = refl;
          }

      acked : (view m v).actor ≡ a → ack_taken m (view m v).store (key_of v) (role_of v)
          ≡ with_ack_copies (with_view m v (phased 4 (view m v))) (view m v).store v (ack_copies m (view m v).store v - 1)
      unfolding ack_taken
      acked own = rw (same_number v, own, ne_eqb (queue m a).len 0 some, eq-eqb v v refl, eq-eqb (view m v).phase 3 h, eq-eqb (view m v).store (view m v).store refl)

      pub take_ack_good : (view m v).actor ≡ a → eqb (ack_copies m (view m v).store v) 0 ≡ false → Lowers m (TakeAck (view m v).store (key_of v) (role_of v))
      unfolding take_ack_no seen_of
      take_ack_good own there =
          let x = phased 4 (view m v) in
          let c = ack_copies m (view m v).store v - 1 in
          let e = acked own in
          let before : s ≡ seen 3 s.changed s.repair s.status true s.ack_owed s.sent s.uack s.uack_owed s.update = rw (h, there) in
          record {
            taken = rw (lt-leb m.stores (view m v).store (in_stores (omega arith)), lt-leb m.made (key_of v) (omega arith), lt-leb 2 (role_of v) (omega arith), same_number v, there);
            lower = rw e (total_falls m (with_ack_copies (with_view m v x) x.store v c) refl v hv _ _ before (seen_ack m w v hv x c at) (ack_far m w v hv x c at)
                (take_ack_lowers _ s.repair s.status s.uack s.uack_owed s.update s.changed s.ack_owed s.sent _));
            up = ap all_up e;
            stores = ap (λ (n : State). n.stores) e;
            made = ap (λ (n : State). n.made) e;
          }

      pub take_record_good : is_up m (view m v).store ≡ true → eqb (ack_copies m (view m v).store v) 0 ≡ true → owes_ack m (view m v).store v ≡ false → eqb (record_copies m (view m v).store v) 0 ≡ false
          → Lowers m (TakeRecord (view m v).store (key_of v) (role_of v))
      unfolding take_record_no record_taken seen_of
      take_record_good up no_ack not_owed there =
          let p = (view m v).store in
          let n = record_taken m p (key_of v) (role_of v) in
          let c = record_copies m p v - 1 in
          let x = taken_in (shelf m p) v (view m v) in
          let in_records : place p v < length m.records = omega (arith, w.sized.records, w.made16) in
          let before : s ≡ seen 3 s.changed s.repair s.status false false true s.uack s.uack_owed s.update = rw (h, no_ack, not_owed, there) in
          let after : seen_of n v ≡ seen 3 s.changed s.repair s.status false true (not (eqb c 0)) s.uack s.uack_owed s.update
          = rw (
            same_number v,
            get_or-set_same m.records (place p v) c 0 in_records,
            owing_now m.shelves p v x (λ t. t.acksowed) refl w.sized.shelves at,
            shelf_left m.shelves p x (λ t. bit t.uacksowed v) refl (entry m v).destination,
            no_ack,
            h,
          ) in
          record {
            taken = rw (lt-leb m.stores p (in_stores (omega arith)), lt-leb m.made (key_of v) (omega arith), lt-leb 2 (role_of v) (omega arith), same_number v, up, there);
            lower = total_falls m n refl v hv _ _ before after
                (λ u l n.
                rw (
                  same_number v,
                  get_or-set_other m.records (place p v) (place (view m u).store u) c 0 (place_other p v (view m u).store u (made_32 m w v hv) (made_32 m w u l) n),
                  owing_far m.shelves p v x (λ t. t.acksowed) refl (view m u).store u n,
                  shelf_left m.shelves p x (λ t. bit t.uacksowed u) refl (entry m u).destination,
                ))
                (take_record_lowers _ s.repair s.status s.uack s.uack_owed s.update s.changed _);
            up = shelf_unseen m.shelves p (taken_in (shelf m p) (number (key_of v) (role_of v)) (view m (number (key_of v) (role_of v)))) (up_in m.stores) (λ q. refl);
            stores = refl;
            made = refl;
          }
