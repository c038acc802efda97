-- What holds of a machine that is not broken: RULES.md, Broken values, gathered by slot. Each fact denies the clause that stands above it.
use Rattle.std.specs.Prelude.{ℕ, ◌*◌, ◌-◌, ◌/◌, ◌%◌, ◌^◌, ◌≤◌, ◌<◌, ◌≡◌, ◌≢◌, Bool, true, false, List, length, get_or}
use Rattle.protocol.specs.Words.{bit, times}
use Rattle.protocol.specs.Slots.{number, no_view, no_message, no_repair, no_entry, no_contents, status_number, home, list, shelf, queue, standing, message, view, repair, entry}
use Rattle.protocol.specs.Slots.{record_copies, ack_copies, update_copies, uack_copies, contents, cause_links, owes_ack, owes_uack}
use Rattle.protocol.specs.Sweep.{has_contents}
use Rattle.protocol.specs.Views.{unset_view, relinked}
use Rattle.protocol.specs.Setup.{stores_in}
use Rattle.protocol.specs.declared.State.{State}
use Rattle.protocol.specs.declared.View.{View}
use Rattle.protocol.specs.declared.Queue.{Queue}
use Rattle.protocol.specs.declared.Contents.{Contents}
use Rattle.protocol.specs.declared.Message.{Message}
use Rattle.protocol.specs.declared.Repair.{Repair}
use Rattle.protocol.specs.declared.Entry.{Entry}
use Rattle.protocol.specs.declared.Store.{Store}

-- every slot is there
pub record Sized (m : State) : Type 0 where
  pub homes : length m.homes ≡ 8
  pub lists : length m.lists ≡ 8
  pub queues : length m.queues ≡ 8
  pub shelves : length m.shelves ≡ 8
  pub messages : length m.messages ≡ 16
  pub views : length m.views ≡ 32
  pub repairs : length m.repairs ≡ 32
  pub entries : length m.entries ≡ 32
  pub records : length m.records ≡ 256
  pub acks : length m.acks ≡ 256
  pub updates : length m.updates ≡ 256
  pub uacks : length m.uacks ≡ 256
  pub contents : length m.contents ≡ 256
  pub links : length m.links ≡ 128

-- a home and the bits of a list name stores, the home is in its list, and the list has two stores or more
pub record LegalActor (stores home list : ℕ) : Type 0 where
  pub home_in : home < stores
  pub list_in : list / 2 ^ stores ≡ 0
  pub home_listed : bit list home ≡ true
  pub two_listed : 2 ≤ stores_in list

-- 2 to 8 stores, 2 to 8 actors, and each actor's home and list
pub record LegalSetup (stores actors : ℕ) (homes lists : List ℕ) : Type 0 where
  pub stores2 : 2 ≤ stores
  pub stores8 : stores ≤ 8
  pub actors2 : 2 ≤ actors
  pub actors8 : actors ≤ 8
  pub actor_at : (a : ℕ) → a < actors → LegalActor stores (get_or homes a 0) (get_or lists a 0)

-- the empty machine's setup, or a legal one
pub data SetupKind (stores actors : ℕ) (homes lists : List ℕ) : Type 0 where
  none : stores ≡ 0 → actors ≡ 0 → SetupKind stores actors homes lists
  some : LegalSetup stores actors homes lists → SetupKind stores actors homes lists

-- just the actor is set (the links are blank where no causes are)
abbrev pub Unset : View → Type 0
Unset w = w ≡ relinked w.links (unset_view w.actor)

-- the causes of a view of the interaction key, and their links: a cause isn't below its key; a link names no store; an unused
-- slot isn't blank: a link with no cause
pub record CausesSlot (stores key causes : ℕ) (links : List ℕ) : Type 0 where
  pub long : length links ≡ 16
  pub below : (j : ℕ) → j < 16 → bit causes j ≡ true → j < key
  pub link_in : (j : ℕ) → j < 16 → bit causes j ≡ true → get_or links j 0 < stores
  pub link_blank : (j : ℕ) → j < 16 → bit causes j ≡ false → get_or links j 0 ≡ 0

-- the view v; `sender` is the actor of the view before it, which is the sender's where v is a receiver's
pub record ViewSlot (stores actors made sender v : ℕ) (w : View) : Type 0 where
  pub causes : CausesSlot stores (v / 2) w.causes w.links
  -- a link or current store names no store
  pub store_in : 1 ≤ w.phase → w.store < stores
  pub viewlink_in : 1 ≤ w.phase → w.viewlink < stores
  -- phase 0 is for receivers only, and there just the actor is set; a receiver has no causes
  pub unset : w.phase ≡ 0 → Unset w
  pub sender_made : v < made * 2 → v % 2 ≡ 0 → 1 ≤ w.phase
  pub receiver_causes : v < made * 2 → v % 2 ≡ 1 → w.causes ≡ 0
  -- a number is outside what is said above
  pub tries3 : 1 ≤ w.phase → w.tries ≤ 3
  pub actor_in : v < made * 2 → w.actor < actors
  pub phase5 : v < made * 2 → w.phase ≤ 5
  -- sender equals receiver
  pub two_actors : v < made * 2 → v % 2 ≡ 1 → w.actor ≢ sender
  -- an unused slot isn't blank: behind the last interaction
  pub actor_blank : made * 2 ≤ v → w.actor ≡ 0
  pub phase_blank : made * 2 ≤ v → w.phase ≡ 0

-- the queue of the actor a
pub record QueueSlot (actors : ℕ) (views : List View) (a : ℕ) (q : Queue) : Type 0 where
  pub long : length q.views ≡ 16
  pub len16 : q.len ≤ 16
  -- a view in phases 1 to 4 isn't exactly once in its own actor's queue or another view is: no other is
  pub stands_own : (i : ℕ) → i < q.len → (get_or views (get_or q.views i 0) no_view).actor ≡ a
  pub stands_from : (i : ℕ) → i < q.len → 1 ≤ (get_or views (get_or q.views i 0) no_view).phase
  pub stands_to : (i : ℕ) → i < q.len → (get_or views (get_or q.views i 0) no_view).phase ≤ 4
  -- a view behind a head isn't in phase 1
  pub behind : (i : ℕ) → i < q.len → 1 ≤ i → (get_or views (get_or q.views i 0) no_view).phase ≡ 1
  -- an unused slot isn't blank: behind the last actor, the end of a queue
  pub len_blank : actors ≤ a → q.len ≡ 0
  pub place_blank : (i : ℕ) → i < 16 → q.len ≤ i → get_or q.views i 0 ≡ 0

-- the message of the interaction k, whose receiver's view is in the phase given
pub record MessageSlot (stores made phase k : ℕ) (g : Message) : Type 0 where
  -- an application message isn't in flight exactly for receivers in phase 0
  pub key_made : g.flying ≡ true → k < made
  pub unreceived : g.flying ≡ true → phase ≡ 0
  pub sent : k < made → phase ≡ 0 → g.flying ≡ true
  -- its own store names no store; an unused slot isn't blank
  pub own_in : g.flying ≡ true → g.own < stores
  pub blank : g.flying ≡ false → g ≡ no_message

-- the repair and the entry of a view in the phase given: a view not in phase 5 has one; a destination or own store names no
-- store; an unused slot isn't blank
pub record RepairSlot (stores phase : ℕ) (r : Repair) : Type 0 where
  pub settled : r.flying ≡ true → phase ≡ 5
  pub destination_in : r.flying ≡ true → r.destination < stores
  pub own_in : r.flying ≡ true → r.own < stores
  pub blank : r.flying ≡ false → r ≡ no_repair

pub record EntrySlot (stores phase : ℕ) (e : Entry) : Type 0 where
  pub settled : 1 ≤ status_number e.status → phase ≡ 5
  pub destination_in : 1 ≤ status_number e.status → e.destination < stores
  pub own_in : 1 ≤ status_number e.status → e.own < stores
  pub blank : status_number e.status ≡ 0 → e ≡ no_entry

-- n copies at the store p, of a view whose phase, or status, is at least the least: a view in phase 0 or 1 has a record or ack in
-- flight; a view with no entry has an update or uack in flight; an unused slot isn't blank: behind the last store
pub record CopySlot (stores p least at n : ℕ) : Type 0 where
  pub copies15 : n ≤ 15
  pub at_store : 1 ≤ n → p < stores
  pub at_view : 1 ≤ n → least ≤ at

-- what the store p has of a view with the record w, where one of its states has contents of it
pub record ContentsSlot (stores p : ℕ) (has : Bool) (w : View) (c : Contents) : Type 0 where
  -- a view in phase 0 or 1 has contents in a store
  pub ready : has ≡ true → 2 ≤ w.phase
  -- contents in a store differ from the view's record
  pub same_actor : has ≡ true → c.asserter ≡ w.actor
  pub same_causes : has ≡ true → c.causes ≡ w.causes
  pub same_word : has ≡ true → c.word ≡ w.word
  -- an unused slot isn't blank: behind the last store, and where no contents are
  pub at_store : has ≡ true → p < stores
  pub blank : has ≡ false → c ≡ no_contents

-- .. and the cause links beside a sender's contents
pub record LinksSlot (has : Bool) (links to : List ℕ) : Type 0 where
  pub long : length to ≡ 16
  pub same_links : (j : ℕ) → j < 16 → has ≡ true → get_or to j 0 ≡ get_or links j 0
  pub links_blank : (j : ℕ) → j < 16 → has ≡ false → get_or to j 0 ≡ 0

-- a viewlink, 0 for none, names no store; an unused slot isn't blank: behind the last store, the last interaction
pub record ViewlinkSlot (stores made p v l : ℕ) : Type 0 where
  pub link_in : l ≤ stores
  pub at_store : 1 ≤ l → p < stores
  pub at_view : 1 ≤ l → v < made * 2

-- the viewlinks of the store p in one of its states, by view
pub record RowSlot (stores made p : ℕ) (row : List ℕ) : Type 0 where
  pub long : length row ≡ 32
  pub link_at : (v : ℕ) → v < 32 → ViewlinkSlot stores made p v (get_or row v 0)

-- the store p: blank where it isn't there; its viewlinks, working and checkpointed
pub record StoreSlot (stores made p : ℕ) (s : Store) : Type 0 where
  pub up_blank : stores ≤ p → s.up ≡ false
  pub held_blank : stores ≤ p → s.held ≡ 0
  pub kept_blank : stores ≤ p → s.kept ≡ 0
  pub acks_blank : stores ≤ p → s.acksowed ≡ 0
  pub uacks_blank : stores ≤ p → s.uacksowed ≡ 0
  pub working : RowSlot stores made p s.viewlinks
  pub checkpointed : RowSlot stores made p s.keptlinks

pub record Unbroken (m : State) : Type 0 where
  pub sized : Sized m
  pub made16 : m.made ≤ 16
  -- its setup is illegal (the empty machine's aside); an unused slot isn't blank: behind the last actor
  pub setup : SetupKind m.stores m.actors m.homes m.lists
  pub home_blank : (a : ℕ) → a < 8 → m.actors ≤ a → home m a ≡ 0
  pub list_blank : (a : ℕ) → a < 8 → m.actors ≤ a → list m a ≡ 0
  pub view_at : (v : ℕ) → v < 32 → ViewSlot m.stores m.actors m.made (view m (v - 1)).actor v (view m v)
  -- a view in phases 1 to 4 isn't exactly once in its own actor's queue
  pub queued_once : (v : ℕ) → v < 32 → 1 ≤ (view m v).phase → (view m v).phase ≤ 4 → times v (standing (queue m (view m v).actor)) ≡ 1
  pub queue_at : (a : ℕ) → a < 8 → QueueSlot m.actors m.views a (queue m a)
  pub message_at : (k : ℕ) → k < 16 → MessageSlot m.stores m.made (view m (number k 1)).phase k (message m k)
  pub repair_at : (v : ℕ) → v < 32 → RepairSlot m.stores (view m v).phase (repair m v)
  pub entry_at : (v : ℕ) → v < 32 → EntrySlot m.stores (view m v).phase (entry m v)
  pub record_at : (p v : ℕ) → p < 8 → v < 32 → CopySlot m.stores p 2 (view m v).phase (record_copies m p v)
  pub ack_at : (p v : ℕ) → p < 8 → v < 32 → CopySlot m.stores p 2 (view m v).phase (ack_copies m p v)
  pub update_at : (p v : ℕ) → p < 8 → v < 32 → CopySlot m.stores p 1 (status_number (entry m v).status) (update_copies m p v)
  pub uack_at : (p v : ℕ) → p < 8 → v < 32 → CopySlot m.stores p 1 (status_number (entry m v).status) (uack_copies m p v)
  pub contents_at : (p v : ℕ) → p < 8 → v < 32 → ContentsSlot m.stores p (has_contents m p v) (view m v) (contents m p v)
  pub links_at : (p k : ℕ) → p < 8 → k < 16 → LinksSlot (has_contents m p (number k 0)) (view m (number k 0)).links (cause_links m p k)
  pub store_at : (p : ℕ) → p < 8 → StoreSlot m.stores m.made p (shelf m p)
  -- an owed note counts as the copy it stands for: a view in phase 0 or 1 has an ack owed; a view with no entry has a uack owed
  pub ack_owed : (p v : ℕ) → p < 8 → v < 32 → owes_ack m p v ≡ true → 2 ≤ (view m v).phase
  pub uack_owed : (p v : ℕ) → p < 8 → v < 32 → owes_uack m p v ≡ true → 1 ≤ status_number (entry m v).status
