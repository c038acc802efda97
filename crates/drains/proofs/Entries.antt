-- The drain's steps for a repair in flight and for an entry are taken, and each leaves one step less. As for jobs, every array
-- that a step writes is read again where it was written, and elsewhere. Assumes nothing.
use Prim.Native.Nat.{ℕ, ◌-◌, ◌*◌, ◌≤◌, ◌<◌}
use mathlib.Core.Path.{◌≡◌, refl}
use mathlib.Core.Logic.{◌≢◌}
use mathlib.Core.Bool.{Bool, true, false, not}
use native.Mathlib.Omega.{arith}
use lib.Dec.{eqb}
use lib.ListN.{length, length-set}
use lib.Seq.{get_or-set_same, get_or-set_other}
use borrow.Author.Tests.{eq-eqb, lt-leb}
use Rattle.std.proofs.Common.{rules}
use Rattle.protocol.specs.Words.{bit}
use Rattle.protocol.specs.Slots.{number, place, no_entry, is_up, shelf, view, repair, entry, update_copies, uack_copies, owes_uack}
use Rattle.unbroken.specs.Unbroken.{Unbroken}
use Rattle.unbroken.proofs.Laws.Room.{made_32}
use Rattle.unbroken.proofs.Shelves.{shelf_left, shelf_unseen}
use Rattle.protocol.specs.declared.State.{State}
use Rattle.protocol.specs.declared.Entry.{Entry}
use Rattle.protocol.specs.declared.Status.{Status}
use Rattle.protocol.specs.declared.Status.TheVariants.{Nothing, ToSend, Waiting, Done}
use Rattle.protocol.specs.Rule.{more}
use Rattle.protocol.specs.TakeRepair.{take_repair_no, repair_taken, entered, repaired_entry, redirected_entry}
use Rattle.protocol.specs.SendUpdate.{send_update_no, update_sent, in_status}
use Rattle.protocol.specs.TakeUpdate.{take_update_no, update_taken, updated_in}
use Rattle.protocol.specs.TakeUack.{take_uack_no, uack_taken, finished_entry}
use Rattle.protocol.specs.Expire.{expire_no, expired}
use Rattle.protocol.specs.declared.Step.TheVariants.{TakeRepair, SendUpdate, TakeUpdate, TakeUack, Expire}
use Rattle.protocol.specs.Drain.{key_of, role_of, up_in}
use Rattle.drains.proofs.StepsLeft.{Seen, seen, steps_left, repair_to_come, has_entry, repair_lowers, second_repair_lowers, send_update_lowers, take_update_lowers, take_uack_lowers, expire_lowers}
use Rattle.drains.proofs.Owing.{owing_now, owing_far}
use Rattle.drains.proofs.Total.{seen_of, total_less, total_falls, opposite}
use Rattle.drains.proofs.Jobs.{Lowers, same_number, some_more, place_other}

-- a status is known by its number
no_entry_holds : (s : Status) → has_entry s ≡ false → s ≡ Nothing
no_entry_holds s e = search rules

module _ (m : State) (w : Unbroken m) (v : ℕ) (hv : v < m.made * 2) where
  abbrev s : Seen
  s = seen_of m v

  abbrev o : ℕ
  o = opposite v

  abbrev t : Seen
  t = seen_of m (opposite v)

  in_entries : v < length m.entries
  in_entries = omega (arith, w.sized.entries, w.made16)

  key : key_of v < m.made
  key = omega arith

  -- step 9
  abbrev mine : Entry
  mine = repaired_entry (repair m v) (entry m o)

  abbrev its : Entry
  its = redirected_entry (repair m v) (entry m o)

  repaired_own : seen_of (repair_taken m (key_of v) (role_of v)) v
      ≡ seen s.phase s.changed false ToSend s.ack s.ack_owed s.sent (not (eqb (uack_copies m mine.destination v) 0)) (owes_uack m mine.destination v) (not (eqb (update_copies m mine.destination v) 0))
  unfolding repair_taken seen_of
  repaired_own = search (rules, same_number, get_or-set_same, get_or-set_other, in_entries)

  repaired_other : seen_of (repair_taken m (key_of v) (role_of v)) o
      ≡ seen t.phase t.changed t.repair its.status t.ack t.ack_owed t.sent (not (eqb (uack_copies m its.destination o) 0)) (owes_uack m its.destination o) (not (eqb (update_copies m its.destination o) 0))
  unfolding repair_taken seen_of
  repaired_other = search (rules, same_number, get_or-set_other, get_or-set_same, length-set)

  repaired_far : (u : ℕ) → u < m.made * 2 → u ≢ v → u ≢ o → seen_of (repair_taken m (key_of v) (role_of v)) u ≡ seen_of m u
  unfolding repair_taken seen_of
  repaired_far u e f g = search (rules, same_number, get_or-set_other)

  repaired_low : (view m v).phase ≡ 5 → (repair m v).flying ≡ true
      → steps_left (seen_of (repair_taken m (key_of v) (role_of v)) v) (seen_of (repair_taken m (key_of v) (role_of v)) o) < steps_left s t
  unfolding seen_of
  repaired_low settled there = rw (repaired_own, repaired_other, settled, there) (go (entered (entry m o)) refl)
    where
      go : (b : Bool) → entered (entry m o) ≡ b
          → steps_left (seen 5 s.changed false ToSend s.ack s.ack_owed s.sent (not (eqb (uack_copies m mine.destination v) 0)) (owes_uack m mine.destination v) (not (eqb (update_copies m mine.destination v) 0)))
          (seen t.phase t.changed t.repair its.status t.ack t.ack_owed t.sent (not (eqb (uack_copies m its.destination o) 0)) (owes_uack m its.destination o) (not (eqb (update_copies m its.destination o) 0)))
          < steps_left (seen 5 s.changed true s.status s.ack s.ack_owed s.sent s.uack s.uack_owed s.update) t
      go true e =
          rw e (second_repair_lowers s.changed s.ack s.ack_owed s.sent s.uack s.uack_owed s.update _ _ _ s.status
          t.phase t.changed t.repair t.ack t.ack_owed t.sent t.uack t.uack_owed t.update t.status _ _ _ e)
      go false e =
          rw (e, no_entry_holds (entry m o).status e) (repair_lowers s.changed s.ack s.ack_owed s.sent s.uack s.uack_owed s.update _ _ _ s.status
          t.phase t.changed t.repair t.ack t.ack_owed t.sent t.uack t.uack_owed t.update)

  pub take_repair_good : (repair m v).flying ≡ true → Lowers m (TakeRepair (key_of v) (role_of v))
  unfolding take_repair_no repair_taken
  take_repair_good there =
      record {
        taken = rw (lt-leb m.made (key_of v) key, lt-leb 2 (role_of v) (omega arith), same_number v, there);
        lower = total_less m (repair_taken m (key_of v) (role_of v)) refl v hv (repaired_low ((w.repair_at v (made_32 m w v hv)).settled there) there) repaired_far;
        up = refl;
        stores = refl;
        made = refl;
      }

  -- the steps of an entry, when all are settled and no repair of the interaction is in flight
  module _ (settled : (view m v).phase ≡ 5) (idle : (repair m v).flying ≡ false) (none : repair_to_come t ≡ false) (at : (entry m v).destination < m.stores) (few : m.stores ≤ 8) where
    abbrev p : ℕ
    p = (entry m v).destination

    in_places : place p v < 256
    in_places = omega (arith, w.made16)

    in_updates : place p v < length m.updates
    in_updates = omega (arith, w.sized.updates, in_places)

    in_uacks : place p v < length m.uacks
    in_uacks = omega (arith, w.sized.uacks, in_places)

    elsewhere : (u : ℕ) → u < m.made * 2 → u ≢ v → place (entry m u).destination u ≢ place p v
    elsewhere u l n = place_other p v (entry m u).destination u (made_32 m w v hv) (made_32 m w u l) n

    -- step 10
    pub send_update_good : (entry m v).status ≡ ToSend → Lowers m (SendUpdate (key_of v) (role_of v))
    unfolding send_update_no update_sent seen_of
    send_update_good h =
        let n = update_sent m (key_of v) (role_of v) in
        let e = in_status Waiting (entry m v) in
        let c = more (update_copies m p v) in
        let before : s ≡ seen 5 s.changed false ToSend s.ack s.ack_owed s.sent s.uack s.uack_owed s.update = rw (settled, idle, h) in
        let after : seen_of n v ≡ seen 5 s.changed false Waiting s.ack s.ack_owed s.sent s.uack s.uack_owed true
        = rw (same_number v, get_or-set_same m.entries v e no_entry in_entries, get_or-set_same m.updates (place p v) c 0 in_updates, some_more (update_copies m p v), settled, idle) in
        record {
          taken = rw (lt-leb m.made (key_of v) key, lt-leb 2 (role_of v) (omega arith), same_number v, h);
          lower = total_falls m n refl v hv _ _ before after
              (λ u l d.
              rw (
                same_number v,
                get_or-set_other m.entries v u e no_entry d,
                get_or-set_other m.updates (place p v) (place (entry m u).destination u) c 0 (elsewhere u l d),
              ))
              (send_update_lowers t none s.changed s.ack s.ack_owed s.sent s.uack s.uack_owed s.update);
          up = refl;
          stores = refl;
          made = refl;
        }

    -- waiting: steps 12, 11 and 13
    module _ (h : (entry m v).status ≡ Waiting) where
      finished : finished_entry p (entry m v) ≡ in_status Done (entry m v)
      finished = rw (h, eq-eqb p p refl)

      pub take_uack_good : eqb (uack_copies m p v) 0 ≡ false → Lowers m (TakeUack p (key_of v) (role_of v))
      unfolding take_uack_no uack_taken seen_of
      take_uack_good there =
          let n = uack_taken m p (key_of v) (role_of v) in
          let e = in_status Done (entry m v) in
          let c = uack_copies m p v - 1 in
          let before : s ≡ seen 5 s.changed false Waiting s.ack s.ack_owed s.sent true s.uack_owed s.update = rw (settled, idle, h, there) in
          let after : seen_of n v ≡ seen 5 s.changed false Done s.ack s.ack_owed s.sent (not (eqb c 0)) s.uack_owed s.update
          = rw (same_number v, finished, get_or-set_same m.entries v e no_entry in_entries, get_or-set_same m.uacks (place p v) c 0 in_uacks, settled, idle) in
          record {
            taken = rw (lt-leb m.stores p at, lt-leb m.made (key_of v) key, lt-leb 2 (role_of v) (omega arith), same_number v, there);
            lower = total_falls m n refl v hv _ _ before after
                (λ u l d.
                rw (
                  same_number v,
                  finished,
                  get_or-set_other m.entries v u e no_entry d,
                  get_or-set_other m.uacks (place p v) (place (entry m u).destination u) c 0 (elsewhere u l d),
                ))
                (take_uack_lowers t none s.changed s.ack s.ack_owed s.sent s.uack_owed s.update _);
            up = refl;
            stores = refl;
            made = refl;
          }

      pub take_update_good : is_up m p ≡ true → eqb (uack_copies m p v) 0 ≡ true → owes_uack m p v ≡ false → eqb (update_copies m p v) 0 ≡ false → Lowers m (TakeUpdate p (key_of v) (role_of v))
      unfolding take_update_no update_taken seen_of
      take_update_good up no_uack not_owed there =
          let n = update_taken m p (key_of v) (role_of v) in
          let c = update_copies m p v - 1 in
          let x = updated_in (shelf m p) v (number (key_of v) (1 - role_of v)) (entry m v).own in
          let before : s ≡ seen 5 s.changed false Waiting s.ack s.ack_owed s.sent false false true = rw (settled, idle, h, no_uack, not_owed, there) in
          let after : seen_of n v ≡ seen 5 s.changed false Waiting s.ack s.ack_owed s.sent false true (not (eqb c 0))
          = rw (
            same_number v,
            get_or-set_same m.updates (place p v) c 0 in_updates,
            owing_now m.shelves p v x (λ y. y.uacksowed) refl w.sized.shelves (omega arith),
            shelf_left m.shelves p x (λ y. bit y.acksowed v) refl (view m v).store,
            no_uack,
            settled,
            idle,
            h,
          ) in
          record {
            taken = rw (lt-leb m.stores p at, lt-leb m.made (key_of v) key, lt-leb 2 (role_of v) (omega arith), same_number v, up, there);
            lower = total_falls m n refl v hv _ _ before after
                (λ u l e.
                rw (
                  same_number v,
                  get_or-set_other m.updates (place p v) (place (entry m u).destination u) c 0 (elsewhere u l e),
                  owing_far m.shelves p v x (λ y. y.uacksowed) refl (entry m u).destination u e,
                  shelf_left m.shelves p x (λ y. bit y.acksowed u) refl (view m u).store,
                ))
                (take_update_lowers t none s.changed s.ack s.ack_owed s.sent _);
            up = shelf_unseen m.shelves p (updated_in (shelf m p) (number (key_of v) (role_of v)) (number (key_of v) (1 - role_of v)) (entry m (number (key_of v) (role_of v))).own) (up_in m.stores) (λ q. refl);
            stores = refl;
            made = refl;
          }

      pub expire_good : eqb (uack_copies m p v) 0 ≡ true → owes_uack m p v ≡ false → eqb (update_copies m p v) 0 ≡ true → Lowers m (Expire (key_of v) (role_of v))
      unfolding expire_no expired seen_of
      expire_good no_uack not_owed no_update =
          let n = expired m (key_of v) (role_of v) in
          let e = in_status ToSend (entry m v) in
          let before : s ≡ seen 5 s.changed false Waiting s.ack s.ack_owed s.sent false false false = rw (settled, idle, h, no_uack, not_owed, no_update) in
          let after : seen_of n v ≡ seen 5 s.changed false ToSend s.ack s.ack_owed s.sent false false false
          = rw (same_number v, get_or-set_same m.entries v e no_entry in_entries, settled, idle, no_uack, not_owed, no_update) in
          record {
            taken = rw (lt-leb m.made (key_of v) key, lt-leb 2 (role_of v) (omega arith), same_number v, h);
            lower = total_falls m n refl v hv _ _ before after (λ u l d. rw (same_number v, get_or-set_other m.entries v u e no_entry d))
                (expire_lowers t none s.changed s.ack s.ack_owed s.sent);
            up = refl;
            stores = refl;
            made = refl;
          }
