-- The empty machine and the fresh machine of a legal setup are not broken: every slot is blank, and the setup is what it was
-- made from. Assumes nothing.
use Prim.Native.Nat.{ℕ, ◌≤◌, ◌<◌}
use mathlib.Core.Path.{◌≡◌, refl, ap, ◌∙◌}
use mathlib.Core.Bool.{Bool, true, false}
use mathlib.Core.List.{List}
use native.Mathlib.Omega.{arith}
use lib.ListN.{length, get_or, replicate, length-replicate, get_or-replicate}
use lib.Dec.{ltb}
use borrow.Author.Tests.{lt-ltb, le-ltb}
use Rattle.std.proofs.lemmas.Bool.{both_ways, or_from}
use Rattle.std.proofs.Common.{rules}
use Rattle.protocol.specs.Words.{pick, bit, table}
use Rattle.protocol.specs.Slots.{number, place, links_place, no_view, no_queue, no_contents, no_links, no_message, no_repair, no_entry, no_store}
use Rattle.protocol.specs.Views.{blank_view}
use Rattle.protocol.specs.Stores.{fresh_store}
use Rattle.protocol.specs.Setup.{blank_queue, blank_links, of_actors, fresh_with, empty_machine, legal}
use Rattle.protocol.specs.Broken.{has_in, broken_of}
use Rattle.unbroken.specs.Blank.{Blank}
use Rattle.unbroken.specs.Unbroken.{SetupKind, none, some, CausesSlot, ViewSlot, QueueSlot, MessageSlot, RepairSlot, EntrySlot, CopySlot, ContentsSlot, LinksSlot, ViewlinkSlot, RowSlot, StoreSlot, Unbroken}
use Rattle.protocol.specs.declared.View.{View}
use Rattle.protocol.specs.declared.Store.{Store}
use Rattle.unbroken.proofs.Laws.Every.{length_table, table_at}
use Rattle.unbroken.proofs.Laws.SlotTests.{legal_says}
use Rattle.unbroken.proofs.Laws.Whole.{whole}
use Rattle.unbroken.proofs.Laws.Bits.{bit_none, no_bit}

-- an actor's row, and none behind the last
row : (actors : ℕ) (l : List ℕ) (a : ℕ) → a < 8 → a < actors → get_or (table (of_actors actors l) 8) a 0 ≡ get_or l a 0
row actors l a h k = table_at (of_actors actors l) 8 0 a h ∙ ap (λ b. pick b (get_or l a 0) 0) (lt-ltb a actors k)

row_blank : (actors : ℕ) (l : List ℕ) (a : ℕ) → a < 8 → actors ≤ a → get_or (table (of_actors actors l) 8) a 0 ≡ 0
row_blank actors l a h k = table_at (of_actors actors l) 8 0 a h ∙ ap (λ b. pick b (get_or l a 0) 0) (le-ltb a actors k)

module _ (stores actors : ℕ) (homes lists : List ℕ) where
  kind : SetupKind stores actors homes lists → SetupKind stores actors (table (of_actors actors homes) 8) (table (of_actors actors lists) 8)
  kind e = search (rules, row)

pub no_causes : (stores key : ℕ) → CausesSlot stores key 0 (replicate 16 0)
no_causes stores key =
    record { long = refl; below = λ j b e. no_bit 0 j refl e; link_in = λ j b e. no_bit 0 j refl e; link_blank = λ j b e. get_or-replicate {A = ℕ} 16 j 0 0 b }

blank_view_holds : (stores actors sender v : ℕ) → v < 32 → ViewSlot stores actors 0 sender v blank_view
blank_view_holds stores actors sender v e = search rules

blank_queue_holds : (actors a : ℕ) (views : List View) → QueueSlot actors views a blank_queue
blank_queue_holds actors a views = search rules

blank_message : (stores phase k : ℕ) → MessageSlot stores 0 phase k no_message
blank_message stores phase k = search rules

pub blank_repair : (stores phase : ℕ) → RepairSlot stores phase no_repair
blank_repair stores phase = search rules

blank_entry : (stores phase : ℕ) → EntrySlot stores phase no_entry
blank_entry stores phase =
    record { settled = λ h. absurd (omega arith); destination_in = λ h. absurd (omega arith); own_in = λ h. absurd (omega arith); blank = λ h. refl }

blank_copies : (stores p least at : ℕ) → CopySlot stores p least at 0
blank_copies stores p least at = record { copies15 = omega arith; at_store = λ h. absurd (omega arith); at_view = λ h. absurd (omega arith) }

pub blank_contents_holds : (stores p : ℕ) (has : Bool) (w : View) → has ≡ false → ContentsSlot stores p has w no_contents
blank_contents_holds stores p has w e = search rules

pub blank_links_holds : (has : Bool) (links to : List ℕ) → has ≡ false → to ≡ replicate 16 0 → LinksSlot has links to
blank_links_holds has links to e f = search rules

blank_viewlink : (stores p v : ℕ) → ViewlinkSlot stores 0 p v 0
blank_viewlink stores p v = record { link_in = omega arith; at_store = λ h. absurd (omega arith); at_view = λ h. absurd (omega arith) }

blank_row : (stores p : ℕ) → RowSlot stores 0 p (replicate 32 0)
blank_row stores p = record { long = refl; link_at = λ v h. rw (get_or-replicate {A = ℕ} 32 v 0 0 h) (blank_viewlink stores p v) }

fresh_store_holds : (stores p : ℕ) → StoreSlot stores 0 p (fresh_store (ltb p stores))
fresh_store_holds stores p = search (rules, le-ltb, blank_row)

store_at_holds : (stores p : ℕ) → p < 8 → get_or (table (λ q. fresh_store (ltb q stores)) 8) p no_store ≡ fresh_store (ltb p stores)
store_at_holds stores p h = table_at (λ q. fresh_store (ltb q stores)) 8 no_store p h

-- a set of a fresh store, one that is empty whether it is up or not
fresh_set : (stores p v : ℕ) (set : Store → ℕ) → ((up : Bool) → set (fresh_store up) ≡ 0) → p < 8
    → bit (set (get_or (table (λ q. fresh_store (ltb q stores)) 8) p no_store)) v ≡ false
fresh_set stores p v set e h = ap (λ (n : ℕ). bit n v) (ap set (store_at_holds stores p h) ∙ e (ltb p stores)) ∙ bit_none v

module _ (stores actors : ℕ) (homes lists : List ℕ) where
  view_at_holds : (v : ℕ) → v < 32 → get_or (replicate 32 blank_view) v no_view ≡ blank_view
  view_at_holds v h = get_or-replicate 32 v blank_view no_view h

  place_in : (p v : ℕ) → p < 8 → v < 32 → place p v < 256
  place_in p v hp hv = omega arith

  none_had : (p v : ℕ) → p < 8 → has_in (get_or (table (λ q. fresh_store (ltb q stores)) 8) p no_store) v ≡ false
  none_had p v h = or_from _ _ (fresh_set stores p v (λ s. s.held) (λ up. refl) h) (fresh_set stores p v (λ s. s.kept) (λ up. refl) h)

  pub fresh_slots : SetupKind stores actors homes lists → Unbroken (fresh_with stores actors homes lists)
  unfolding fresh_with
  fresh_slots k =
      record {
        sized = record {
          homes = length_table (of_actors actors homes) 8;
          lists = length_table (of_actors actors lists) 8;
          queues = length-replicate 8 blank_queue;
          shelves = length_table (λ p. fresh_store (ltb p stores)) 8;
          messages = length-replicate 16 no_message;
          views = length-replicate 32 blank_view;
          repairs = length-replicate 32 no_repair;
          entries = length-replicate 32 no_entry;
          records = length-replicate {A = ℕ} 256 0;
          acks = length-replicate {A = ℕ} 256 0;
          updates = length-replicate {A = ℕ} 256 0;
          uacks = length-replicate {A = ℕ} 256 0;
          contents = length-replicate 256 no_contents;
          links = length-replicate 128 blank_links;
        };
        made16 = omega arith;
        setup = kind stores actors homes lists k;
        home_blank = row_blank actors homes;
        list_blank = row_blank actors lists;
        view_at = λ v h. rw (view_at_holds v h) (blank_view_holds stores actors _ v h);
        queued_once = λ v h. rw (view_at_holds v h) (λ b. absurd (omega arith));
        queue_at = λ a h. rw (get_or-replicate 8 a blank_queue no_queue h) (blank_queue_holds actors a (replicate 32 blank_view));
        message_at = λ k h. rw (get_or-replicate 16 k no_message no_message h) (blank_message stores _ k);
        repair_at = λ v h. rw (get_or-replicate 32 v no_repair no_repair h) (blank_repair stores _);
        entry_at = λ v h. rw (get_or-replicate 32 v no_entry no_entry h) (blank_entry stores _);
        record_at = λ p v hp hv. rw (get_or-replicate {A = ℕ} 256 (place p v) 0 0 (place_in p v hp hv)) (blank_copies stores p 2 _);
        ack_at = λ p v hp hv. rw (get_or-replicate {A = ℕ} 256 (place p v) 0 0 (place_in p v hp hv)) (blank_copies stores p 2 _);
        update_at = λ p v hp hv. rw (get_or-replicate {A = ℕ} 256 (place p v) 0 0 (place_in p v hp hv)) (blank_copies stores p 1 _);
        uack_at = λ p v hp hv. rw (get_or-replicate {A = ℕ} 256 (place p v) 0 0 (place_in p v hp hv)) (blank_copies stores p 1 _);
        contents_at = λ p v hp hv. rw (get_or-replicate 256 (place p v) no_contents no_contents (place_in p v hp hv)) (blank_contents_holds stores p _ _ (none_had p v hp));
        links_at = λ p k hp hk.
            blank_links_holds _ _ _ (none_had p (number k 0) hp)
            (ap (λ l. l.to) (get_or-replicate 128 (links_place p k) blank_links no_links (omega arith)));
        store_at = λ p h. rw (store_at_holds stores p h) (fresh_store_holds stores p);
        ack_owed = λ p v hp hv e. absurd (both_ways _ (fresh_set stores p v (λ s. s.acksowed) (λ up. refl) hp) e);
        uack_owed = λ p v hp hv e. absurd (both_ways _ (fresh_set stores p v (λ s. s.uacksowed) (λ up. refl) hp) e);
      }

pub fresh_unbroken : (stores actors : ℕ) (homes lists : List ℕ) → legal stores actors homes lists ≡ true → length homes ≡ 8 → length lists ≡ 8 → broken_of (fresh_with stores actors homes lists) ≡ false
fresh_unbroken stores actors homes lists e long long' =
    whole (fresh_with stores actors homes lists) (fresh_slots stores actors homes lists (some ((legal_says stores actors homes lists long).tells e)))

pub empty_unbroken : broken_of empty_machine ≡ false
unfolding empty_machine
empty_unbroken = whole (fresh_with 0 0 (replicate 8 0) (replicate 8 0)) (fresh_slots 0 0 (replicate 8 0) (replicate 8 0) (none refl refl))

-- a fresh machine is blank beyond its setup, and its setup is the one that it was made from
pub fresh_blank : (stores actors : ℕ) (homes lists : List ℕ) → Blank (fresh_with stores actors homes lists)
unfolding fresh_with
fresh_blank stores actors homes lists =
    record {
      made = refl;
      shelves = store_at_holds stores;
      queues = λ a h. get_or-replicate 8 a blank_queue no_queue h;
      messages = λ k h. get_or-replicate 16 k no_message no_message h;
      views = λ v h. get_or-replicate 32 v blank_view no_view h;
      repairs = λ v h. get_or-replicate 32 v no_repair no_repair h;
      entries = λ v h. get_or-replicate 32 v no_entry no_entry h;
      records = λ p v hp hv. get_or-replicate {A = ℕ} 256 (place p v) 0 0 (omega arith);
      acks = λ p v hp hv. get_or-replicate {A = ℕ} 256 (place p v) 0 0 (omega arith);
      updates = λ p v hp hv. get_or-replicate {A = ℕ} 256 (place p v) 0 0 (omega arith);
      uacks = λ p v hp hv. get_or-replicate {A = ℕ} 256 (place p v) 0 0 (omega arith);
      held = λ p v hp hv. get_or-replicate 256 (place p v) no_contents no_contents (omega arith);
      links = λ p k hp hk. ap (λ l. l.to) (get_or-replicate 128 (links_place p k) blank_links no_links (omega arith));
    }

pub empty_blank : Blank empty_machine
unfolding empty_machine
empty_blank = fresh_blank 0 0 (replicate 8 0) (replicate 8 0)
