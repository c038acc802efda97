-- A slot of an unbroken machine is written: if what is written is as its slot must be, every slot is. Assumes nothing.
use Prim.Native.Nat.{ℕ, ◌≤◌, ◌<◌}
use mathlib.Core.Path.{◌≡◌, refl, sym, subst}
use mathlib.Core.Logic.{◌≢◌}
use mathlib.Core.Bool.{true}
use mathlib.Core.List.{List}
use lib.ListN.{length, get_or, length-set}
use Rattle.protocol.specs.Words.{bit}
use Rattle.protocol.specs.Slots.{number, place, links_place, no_contents, no_links, no_repair, no_entry, no_store, status_number}
use Rattle.protocol.specs.Slots.{shelf, view, entry, update_copies, uack_copies, contents, cause_links, owes_uack}
use Rattle.protocol.specs.Broken.{has_in}
use Rattle.protocol.specs.Sweep.{has_contents}
use Rattle.protocol.specs.Writes.{with_shelf, with_acks, with_uacks, with_contents, with_links, with_record_copies, with_ack_copies, with_update_copies, with_uack_copies, with_repair, with_entry}
use Rattle.unbroken.specs.Unbroken.{Sized, RepairSlot, EntrySlot, CopySlot, ContentsSlot, LinksSlot, StoreSlot, Unbroken}
use Rattle.protocol.specs.declared.State.{State}
use Rattle.protocol.specs.declared.Repair.{Repair}
use Rattle.protocol.specs.declared.Entry.{Entry}
use Rattle.protocol.specs.declared.Contents.{Contents}
use Rattle.protocol.specs.declared.Links.{Links}
use Rattle.protocol.specs.declared.Store.{Store}
use Rattle.keeps.proofs.Index.{at_others, at_index, at_place}

-- what is asked of the store p where it becomes t, and of the contents and cause links beside it; the other stores keep theirs
pub record Shelved (m : State) (p : ℕ) (t : Store) (cs : List Contents) (ls : List Links) : Type 0 where
  pub slot : StoreSlot m.stores m.made p t
  pub acks : (v : ℕ) → v < 32 → bit t.acksowed v ≡ true → 2 ≤ (view m v).phase
  pub uacks : (v : ℕ) → v < 32 → bit t.uacksowed v ≡ true → 1 ≤ status_number (entry m v).status
  pub contents_long : length cs ≡ 256
  pub links_long : length ls ≡ 128
  pub contents_here : (v : ℕ) → v < 32 → ContentsSlot m.stores p (has_in t v) (view m v) (get_or cs (place p v) no_contents)
  pub links_here : (k : ℕ) → k < 16 → LinksSlot (has_in t (number k 0)) (view m (number k 0)).links (get_or ls (links_place p k) no_links).to
  pub contents_there : (q v : ℕ) → q < 8 → v < 32 → q ≢ p → get_or cs (place q v) no_contents ≡ contents m q v
  pub links_there : (q k : ℕ) → q < 8 → k < 16 → q ≢ p → get_or ls (links_place q k) no_links ≡ get_or m.links (links_place q k) no_links

module _ (m : State) (s : Unbroken m) where
  -- a whole store
  module _ (p : ℕ) (h : p < 8) (t : Store) (cs : List Contents) (ls : List Links) (c : Shelved m p t cs ls) where
    abbrev shelved : State
    shelved = with_shelf (with_links (with_contents m cs) ls) p t

    each_store : (P : ℕ → Store → Type 0) → P p t → ((q : ℕ) → q < 8 → q ≢ p → P q (shelf m q)) → (q : ℕ) → q < 8 → P q (shelf shelved q)
    each_store = at_others m.shelves 8 p t no_store s.sized.shelves h

    contents_at_holds : (q : ℕ) → q < 8 → (v : ℕ) → v < 32 → ContentsSlot m.stores q (has_contents shelved q v) (view m v) (contents shelved q v)
    contents_at_holds =
        each_store (λ q x. (v : ℕ) → v < 32 → ContentsSlot m.stores q (has_in x v) (view m v) (get_or cs (place q v) no_contents)) c.contents_here
        (λ q hq n v hv. subst (ContentsSlot m.stores q (has_contents m q v) (view m v)) (sym (c.contents_there q v hq hv n)) (s.contents_at q v hq hv))

    links_at_holds : (q : ℕ) → q < 8 → (k : ℕ) → k < 16 → LinksSlot (has_contents shelved q (number k 0)) (view m (number k 0)).links (cause_links shelved q k)
    links_at_holds =
        each_store (λ q x. (k : ℕ) → k < 16 → LinksSlot (has_in x (number k 0)) (view m (number k 0)).links (get_or ls (links_place q k) no_links).to) c.links_here
        (λ q hq n k hk. subst (λ (l : Links). LinksSlot (has_contents m q (number k 0)) (view m (number k 0)).links l.to) (sym (c.links_there q k hq hk n)) (s.links_at q k hq hk))

    pub store_write : Unbroken shelved
    store_write =
        let z : Sized shelved = search (length-set, s.sized, c.contents_long, c.links_long) in
        record {
          sized = z;
          made16 = s.made16;
          setup = s.setup;
          home_blank = s.home_blank;
          list_blank = s.list_blank;
          view_at = s.view_at;
          queued_once = s.queued_once;
          queue_at = s.queue_at;
          message_at = s.message_at;
          repair_at = s.repair_at;
          entry_at = s.entry_at;
          record_at = s.record_at;
          ack_at = s.ack_at;
          update_at = s.update_at;
          uack_at = s.uack_at;
          contents_at = λ q v hq hv. contents_at_holds q hq v hv;
          links_at = λ q k hq hk. links_at_holds q hq k hk;
          store_at = each_store (StoreSlot m.stores m.made) c.slot (λ q hq n. s.store_at q hq);
          ack_owed = λ q v hq hv. each_store (λ i x. bit x.acksowed v ≡ true → 2 ≤ (view m v).phase) (c.acks v hv) (λ i hi n. s.ack_owed i v hi hv) q hq;
          uack_owed = λ q v hq hv. each_store (λ i x. bit x.uacksowed v ≡ true → 1 ≤ status_number (entry m v).status) (c.uacks v hv) (λ i hi n. s.uack_owed i v hi hv) q hq;
        }

  -- a store whose states have contents of the views that they had: those stay where they are
  pub beside_contents : (p : ℕ) → p < 8 → (t : Store) → StoreSlot m.stores m.made p t → ((v : ℕ) → has_in t v ≡ has_in (shelf m p) v)
      → ((v : ℕ) → v < 32 → bit t.acksowed v ≡ true → 2 ≤ (view m v).phase) → ((v : ℕ) → v < 32 → bit t.uacksowed v ≡ true → 1 ≤ status_number (entry m v).status)
      → Unbroken (with_shelf m p t)
  beside_contents p h t c same a u =
      store_write p h t m.contents m.links
      (record {
        slot = c;
        acks = a;
        uacks = u;
        contents_long = s.sized.contents;
        links_long = s.sized.links;
        contents_here = λ v hv. rw (same v) (s.contents_at p v h hv);
        links_here = λ k hk. rw (same (number k 0)) (s.links_at p k h hk);
        contents_there = λ q v hq hv n. refl;
        links_there = λ q k hq hk n. refl;
      })

  module _ (p v : ℕ) (hp : p < 8) (hv : v < 32) (n : ℕ) where
    pub record_write : CopySlot m.stores p 2 (view m v).phase n → Unbroken (with_record_copies m p v n)
    record_write c =
        let z : Sized (with_record_copies m p v n) = search (length-set, s.sized) in
        let u = at_place m.records p v n 0 s.sized.records hp hv (λ q w. CopySlot m.stores q 2 (view m w).phase) c s.record_at in
        search

    pub ack_write : CopySlot m.stores p 2 (view m v).phase n → Unbroken (with_ack_copies m p v n)
    ack_write c =
        let z : Sized (with_ack_copies m p v n) = search (length-set, s.sized) in
        let u = at_place m.acks p v n 0 s.sized.acks hp hv (λ q w. CopySlot m.stores q 2 (view m w).phase) c s.ack_at in
        search

    pub update_write : CopySlot m.stores p 1 (status_number (entry m v).status) n → Unbroken (with_update_copies m p v n)
    update_write c =
        let z : Sized (with_update_copies m p v n) = search (length-set, s.sized) in
        let u = at_place m.updates p v n 0 s.sized.updates hp hv (λ q w. CopySlot m.stores q 1 (status_number (entry m w).status)) c s.update_at in
        search

    pub uack_write : CopySlot m.stores p 1 (status_number (entry m v).status) n → Unbroken (with_uack_copies m p v n)
    uack_write c =
        let z : Sized (with_uack_copies m p v n) = search (length-set, s.sized) in
        let u = at_place m.uacks p v n 0 s.sized.uacks hp hv (λ q w. CopySlot m.stores q 1 (status_number (entry m w).status)) c s.uack_at in
        search

  -- the acks, the uacks of all places
  pub acks_write : (l : List ℕ) → length l ≡ 256 → ((p v : ℕ) → p < 8 → v < 32 → CopySlot m.stores p 2 (view m v).phase (get_or l (place p v) 0)) → Unbroken (with_acks m l)
  acks_write l long u = let z : Sized (with_acks m l) = search (s.sized, long) in search

  pub uacks_write : (l : List ℕ) → length l ≡ 256 → ((p v : ℕ) → p < 8 → v < 32 → CopySlot m.stores p 1 (status_number (entry m v).status) (get_or l (place p v) 0)) → Unbroken (with_uacks m l)
  uacks_write l long u = let z : Sized (with_uacks m l) = search (s.sized, long) in search

  module _ (v : ℕ) (hv : v < 32) where
    pub repair_write : (r : Repair) → RepairSlot m.stores (view m v).phase r → Unbroken (with_repair m v r)
    repair_write r c =
        let z : Sized (with_repair m v r) = search (length-set, s.sized) in
        let u = at_index m.repairs 32 v r no_repair s.sized.repairs hv (λ w. RepairSlot m.stores (view m w).phase) c s.repair_at in
        search

    -- an entry that was there stays, so the updates and uacks of its view may, and those that are owed
    pub entry_write : (e : Entry) → EntrySlot m.stores (view m v).phase e → (1 ≤ status_number (entry m v).status → 1 ≤ status_number e.status) → Unbroken (with_entry m v e)
    entry_write e c f =
        let z : Sized (with_entry m v e) = search (length-set, s.sized) in
        let u = at_index m.entries 32 v e no_entry s.sized.entries hv (λ w. EntrySlot m.stores (view m w).phase) c s.entry_at in
        let x = at_index m.entries 32 v e no_entry s.sized.entries hv (λ w d. (p : ℕ) → p < 8 → CopySlot m.stores p 1 (status_number d.status) (update_copies m p w))
        (λ p hp. let o = s.update_at p v hp hv in record { copies15 = o.copies15; at_store = o.at_store; at_view = λ h. f (o.at_view h) }) (λ w hw p hp. s.update_at p w hp hw) in
        let y = at_index m.entries 32 v e no_entry s.sized.entries hv (λ w d. (p : ℕ) → p < 8 → CopySlot m.stores p 1 (status_number d.status) (uack_copies m p w))
        (λ p hp. let o = s.uack_at p v hp hv in record { copies15 = o.copies15; at_store = o.at_store; at_view = λ h. f (o.at_view h) }) (λ w hw p hp. s.uack_at p w hp hw) in
        let g = at_index m.entries 32 v e no_entry s.sized.entries hv (λ w d. (p : ℕ) → p < 8 → owes_uack m p w ≡ true → 1 ≤ status_number d.status)
        (λ p hp o. f (s.uack_owed p v hp hv o)) (λ w hw p hp. s.uack_owed p w hp hw) in
        let x' : (p w : ℕ) → p < 8 → w < 32 → CopySlot m.stores p 1 (status_number (entry (with_entry m v e) w).status) (update_copies m p w) = λ p w hp hw. x w hw p hp in
        let y' : (p w : ℕ) → p < 8 → w < 32 → CopySlot m.stores p 1 (status_number (entry (with_entry m v e) w).status) (uack_copies m p w) = λ p w hp hw. y w hw p hp in
        let g' : (p w : ℕ) → p < 8 → w < 32 → owes_uack m p w ≡ true → 1 ≤ status_number (entry (with_entry m v e) w).status = λ p w hp hw. g w hw p hp in
        search
