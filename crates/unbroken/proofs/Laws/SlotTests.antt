-- Each test of a slot says the facts of that slot. Assumes nothing.
use Prim.Native.Nat.{ℕ, ◌*◌, ◌-◌, ◌/◌, ◌%◌, ◌≤◌, ◌<◌}
use mathlib.Core.Path.{◌≡◌}
use mathlib.Core.Bool.{true, false, ◌&&◌, ◌||◌}
use mathlib.Core.List.{List}
use lib.ListN.{length, get_or}
use lib.Dec.{leb, eqb}
use Rattle.std.proofs.Common.{rules}
use Rattle.protocol.specs.Words.{bit, times}
use Rattle.protocol.specs.Slots.{number, no_view, no_queue, no_entry, no_store, status_number, standing}
use Rattle.protocol.specs.Setup.{legal_actor, legal_actors, legal}
use Rattle.protocol.specs.Broken.{link_fine, links_fine, is_unset, phase_fine, made_view, waits, queued_once, view_fine, stands_fine, queue_fine}
use Rattle.protocol.specs.Broken.{message_fine, repair_fine, entry_fine, copies_fine, has_in, contents_fine, same_links, held_links_fine, viewlink_fine, viewlinks_fine, note_fine, notes_fine, blank_store, store_fine, setup_fine}
use Rattle.unbroken.specs.Unbroken.{LegalActor, LegalSetup, SetupKind, none, some, ViewSlot, QueueSlot, MessageSlot, RepairSlot, EntrySlot, CopySlot, ContentsSlot, LinksSlot, ViewlinkSlot, RowSlot, StoreSlot}
use Rattle.protocol.specs.declared.View.{View}
use Rattle.protocol.specs.declared.Queue.{Queue}
use Rattle.protocol.specs.declared.Contents.{Contents}
use Rattle.protocol.specs.declared.Links.{Links}
use Rattle.protocol.specs.declared.Message.{Message}
use Rattle.protocol.specs.declared.Repair.{Repair}
use Rattle.protocol.specs.declared.Entry.{Entry}
use Rattle.protocol.specs.declared.Store.{Store}
use Rattle.protocol.specs.declared.Status.{Status}
use Rattle.protocol.specs.declared.Status.TheVariants.{Nothing}
use Rattle.unbroken.proofs.Laws.Tests.{by_test}
use Rattle.unbroken.proofs.Laws.Says.{Says, le_says, lt_says, eq_says, le_splits, lt_splits, eq_splits, zero_splits, is_splits, and_says, or_says, not_says, pick_says, all_says, below_says, un_splits, not_splits, put_says}

-- the cause links of a record
abbrev LinkFacts : ℕ → ℕ → ℕ → ℕ → ℕ → Type 0
LinkFacts stores key causes j link = (bit causes j ≡ true → (j < key) × (link < stores)) × (bit causes j ≡ false → link ≡ 0)

link_says : (stores key causes j link : ℕ) → Says (link_fine stores key causes j link) (LinkFacts stores key causes j link)
link_says stores key causes j link = pick_says (is_splits (bit causes j)) (and_says (lt_says j key) (lt_says link stores)) (eq_says link 0)

abbrev LinksFacts : ℕ → ℕ → ℕ → List ℕ → Type 0
LinksFacts stores key causes l = (length l ≡ 16) × ((j : ℕ) → j < length l → LinkFacts stores key causes j (get_or l j 0))

links_says : (stores key causes : ℕ) (l : List ℕ) → Says (links_fine stores key causes l) (LinksFacts stores key causes l)
unfolding links_fine
links_says stores key causes l =
    and_says (eq_says (length l) 16) (all_says (link_fine stores key causes) (LinkFacts stores key causes) l 0 (link_says stores key causes))

-- a view of which just the actor is set
abbrev UnsetFacts : View → Type 0
UnsetFacts w = (((((w.store ≡ 0) × (w.viewlink ≡ 0)) × (w.changed ≡ false)) × (w.tries ≡ 0)) × (w.causes ≡ 0)) × (w.word ≡ 0)

unset_says : (w : View) → Says (is_unset w) (UnsetFacts w)
unset_says w = search rules

-- a view
abbrev PhaseFacts : ℕ → View → Type 0
PhaseFacts stores w = (w.phase ≡ 0 → UnsetFacts w) × (1 ≤ w.phase → ((w.store < stores) × (w.viewlink < stores)) × (w.tries ≤ 3))

phase_says : (stores : ℕ) (w : View) → Says (phase_fine stores w) (PhaseFacts stores w)
phase_says stores w =
    pick_says (zero_splits w.phase) (unset_says w) (and_says (and_says (lt_says w.store stores) (lt_says w.viewlink stores)) (le_says w.tries 3))

abbrev MadeFacts : ℕ → ℕ → ℕ → ℕ → View → Type 0
MadeFacts actors made sender v w =
    (v < made * 2 → ((w.actor < actors) × (w.phase ≤ 5)) × ((v % 2 ≡ 0 → 1 ≤ w.phase) × (1 ≤ v % 2 → (w.causes ≡ 0) × (w.actor ≡ sender → ⊥))))
    × (made * 2 ≤ v → (w.actor ≡ 0) × (w.phase ≡ 0))

made_says : (actors made sender v : ℕ) (w : View) → Says (made_view actors made sender v w) (MadeFacts actors made sender v w)
made_says actors made sender v w =
    pick_says (lt_splits v (made * 2))
    (and_says (and_says (lt_says w.actor actors) (le_says w.phase 5))
    (pick_says (zero_splits (v % 2)) (le_says 1 w.phase) (and_says (eq_says w.causes 0) (not_says (eq_splits w.actor sender)))))
    (and_says (eq_says w.actor 0) (eq_says w.phase 0))

-- phases 1 to 4
abbrev Waiting : ℕ → Type 0
Waiting n = (1 ≤ n) × (n ≤ 4)

waits_says : (n : ℕ) → Says (waits n) (Waiting n)
waits_says n = and_says (le_says 1 n) (le_says n 4)

queued_says : (queues : List Queue) (v : ℕ) (w : View) → Says (queued_once queues v w) (Waiting w.phase → times v (standing (get_or queues w.actor no_queue)) ≡ 1)
queued_says queues v w = or_says (not_splits (un_splits (waits_says w.phase))) (eq_says (times v (standing (get_or queues w.actor no_queue))) 1)

module _ (stores actors made : ℕ) (views : List View) (queues : List Queue) (v : ℕ) (w : View) where
  abbrev ViewFacts : Type 0
  ViewFacts = ((LinksFacts stores (v / 2) w.causes w.links × PhaseFacts stores w) × MadeFacts actors made (get_or views (v - 1) no_view).actor v w)
      × (Waiting w.phase → times v (standing (get_or queues w.actor no_queue)) ≡ 1)

  abbrev pub ViewKept : Type 0
  ViewKept = ViewSlot stores actors made (get_or views (v - 1) no_view).actor v w × (1 ≤ w.phase → w.phase ≤ 4 → times v (standing (get_or queues w.actor no_queue)) ≡ 1)

  view_facts : Says (view_fine stores actors made views queues v w) ViewFacts
  unfolding view_fine
  view_facts =
      and_says (and_says (and_says (links_says stores (v / 2) w.causes w.links) (phase_says stores w)) (made_says actors made (get_or views (v - 1) no_view).actor v w)) (queued_says queues v w)

  pub view_says : Says (view_fine stores actors made views queues v w) ViewKept
  view_says = put_says view_facts (λ x. search rules) (λ y. search rules)

-- a queue
abbrev StandFacts : List View → ℕ → ℕ → ℕ → ℕ → Type 0
StandFacts views a len i v =
    (i < len → (((get_or views v no_view).actor ≡ a) × Waiting (get_or views v no_view).phase) × (1 ≤ i → (get_or views v no_view).phase ≡ 1))
    × (len ≤ i → v ≡ 0)

stands_says : (views : List View) (a len i v : ℕ) → Says (stands_fine views a len i v) (StandFacts views a len i v)
stands_says views a len i v = search rules

module _ (actors : ℕ) (views : List View) (a : ℕ) (q : Queue) where
  abbrev QueueFacts : Type 0
  QueueFacts = (((length q.views ≡ 16) × (q.len ≤ 16)) × (actors ≤ a → q.len ≡ 0)) × ((i : ℕ) → i < length q.views → StandFacts views a q.len i (get_or q.views i 0))

  queue_facts : Says (queue_fine actors views a q) QueueFacts
  unfolding queue_fine
  queue_facts =
      and_says (and_says (and_says (eq_says (length q.views) 16) (le_says q.len 16)) (or_says (lt_splits a actors) (eq_says q.len 0)))
      (all_says (stands_fine views a q.len) (StandFacts views a q.len) q.views 0 (stands_says views a q.len))

  pub queue_says : Says (queue_fine actors views a q) (QueueSlot actors views a q)
  queue_says = put_says queue_facts (λ x. search rules) (λ y. search rules)

-- what is in flight
pub message_says : (stores made : ℕ) (views : List View) (k : ℕ) (g : Message) → Says (message_fine stores made views k g) (MessageSlot stores made (get_or views (number k 1) no_view).phase k g)
unfolding message_fine
message_says stores made views k g = search rules

pub repair_says : (stores : ℕ) (views : List View) (v : ℕ) (r : Repair) → Says (repair_fine stores views v r) (RepairSlot stores (get_or views v no_view).phase r)
unfolding repair_fine
repair_says stores views v r = search rules

no_status : (t : Status) → status_number t ≡ 0 → t ≡ Nothing
no_status t e = search rules

pub entry_says : (stores : ℕ) (views : List View) (v : ℕ) (e : Entry) → Says (entry_fine stores views v e) (EntrySlot stores (get_or views v no_view).phase e)
unfolding entry_fine
entry_says stores views v e =
    put_says
    (pick_says (zero_splits (status_number e.status)) (and_says (eq_says e.destination 0) (eq_says e.own 0))
    (and_says (and_says (eq_says (get_or views v no_view).phase 5) (lt_says e.destination stores)) (lt_says e.own stores)))
    (λ x. search (rules, no_status)) (λ s. search rules)

-- copies, of a view of which `may` is asked
pub copies_says : (stores least : ℕ) (number : ℕ → ℕ) (at n : ℕ) → Says (copies_fine stores (λ v. leb least (number v)) at n) (CopySlot stores (at / 32) least (number (at % 32)) n)
copies_says stores least number at n = search rules

-- what the stores have
module _ (shelves : List Store) (views : List View) where
  pub contents_says : (stores at : ℕ) (c : Contents)
      → Says (contents_fine stores views shelves at c) (ContentsSlot stores (at / 32) (has_in (get_or shelves (at / 32) no_store) (at % 32)) (get_or views (at % 32) no_view) c)
  unfolding contents_fine
  contents_says stores at c =
      let w = get_or views (at % 32) no_view in
      put_says
      (pick_says (is_splits (has_in (get_or shelves (at / 32) no_store) (at % 32)))
      (and_says (and_says (and_says (and_says (lt_says (at / 32) stores) (le_says 2 w.phase)) (eq_says c.asserter w.actor)) (eq_says c.causes w.causes)) (eq_says c.word w.word))
      (and_says (and_says (eq_says c.asserter 0) (eq_says c.causes 0)) (eq_says c.word 0)))
      (λ x. search rules) (λ s. search rules)

  pub held_links_says : (at : ℕ) (l : Links)
      → Says (held_links_fine shelves views at l) (LinksSlot (has_in (get_or shelves (at / 16) no_store) (at % 16 * 2)) (get_or views (at % 16 * 2) no_view).links l.to)
  unfolding held_links_fine same_links
  held_links_says at l =
      let w = get_or views (at % 16 * 2) no_view in
      put_says
      (and_says (eq_says (length l.to) 16)
      (pick_says (is_splits (has_in (get_or shelves (at / 16) no_store) (at % 16 * 2)))
      (all_says (λ j link. eqb link (get_or w.links j 0)) (λ j link. link ≡ get_or w.links j 0) l.to 0 (λ j link. eq_says link (get_or w.links j 0)))
      (all_says (λ j link. eqb link 0) (λ j link. link ≡ 0) l.to 0 (λ j link. eq_says link 0))))
      (λ x. search rules) (λ s. search rules)

viewlink_says : (stores made p v l : ℕ) → Says (viewlink_fine stores made p v l) (ViewlinkSlot stores made p v l)
viewlink_says stores made p v l = search rules

row_says : (stores made p : ℕ) (row : List ℕ) → Says (viewlinks_fine stores made p row) (RowSlot stores made p row)
unfolding viewlinks_fine
row_says stores made p row =
    put_says
    (and_says (eq_says (length row) 32) (all_says (viewlink_fine stores made p) (ViewlinkSlot stores made p) row 0 (viewlink_says stores made p)))
    (λ x. search rules) (λ t. search rules)

-- what is owed, of a view of which `may` is asked
abbrev pub Owed : ℕ → (ℕ → ℕ) → ℕ → Type 0
Owed least number owed = (v : ℕ) → v < 32 → bit owed v ≡ true → least ≤ number v

notes_say : (least : ℕ) (number : ℕ → ℕ) (owed : ℕ) → Says (notes_fine (λ v. leb least (number v)) owed) (Owed least number owed)
unfolding notes_fine
notes_say least number owed =
    below_says 32 (note_fine (λ v. leb least (number v)) owed) (λ v. bit owed v ≡ true → least ≤ number v)
    (λ v. or_says (not_splits (is_splits (bit owed v))) (le_says least (number v)))

blank_says : (s : Store) → Says (blank_store s) (((((s.up ≡ false) × (s.held ≡ 0)) × (s.kept ≡ 0)) × (s.acksowed ≡ 0)) × (s.uacksowed ≡ 0))
blank_says s =
    and_says (and_says (and_says (and_says (not_says (is_splits s.up)) (eq_says s.held 0)) (eq_says s.kept 0)) (eq_says s.acksowed 0)) (eq_says s.uacksowed 0)

module _ (stores made : ℕ) (views : List View) (entries : List Entry) (p : ℕ) (s : Store) where
  abbrev pub StoreKept : Type 0
  StoreKept =
      (StoreSlot stores made p s × Owed 2 (λ v. (get_or views v no_view).phase) s.acksowed)
      × Owed 1 (λ v. status_number (get_or entries v no_entry).status) s.uacksowed

  pub store_says : Says (store_fine stores made views entries p s) StoreKept
  unfolding store_fine
  store_says =
      put_says
      (and_says (and_says (and_says (and_says (or_says (lt_splits p stores) (blank_says s))
      (notes_say 2 (λ v. (get_or views v no_view).phase) s.acksowed))
      (notes_say 1 (λ v. status_number (get_or entries v no_entry).status) s.uacksowed))
      (row_says stores made p s.viewlinks)) (row_says stores made p s.keptlinks))
      (λ x. search rules) (λ y. search rules)

-- the setup
legal_actor_says : (stores home list : ℕ) → Says (legal_actor stores home list) (LegalActor stores home list)
unfolding legal_actor
legal_actor_says stores home list = search rules

pub legal_says : (stores actors : ℕ) (homes lists : List ℕ) → length homes ≡ 8 → Says (legal stores actors homes lists) (LegalSetup stores actors homes lists)
unfolding legal legal_actors
legal_says stores actors homes lists long =
    put_says
    (and_says (and_says (and_says (and_says (le_says 2 stores) (le_says stores 8)) (le_says 2 actors)) (le_says actors 8))
    (all_says (λ a home. leb actors a || legal_actor stores home (get_or lists a 0)) (λ a home. a < actors → LegalActor stores home (get_or lists a 0)) homes 0
    (λ a home. or_says (le_splits actors a) (legal_actor_says stores home (get_or lists a 0)))))
    (λ x. search rules) (λ s. search rules)

pub setup_says : (stores actors : ℕ) (homes lists : List ℕ) → length homes ≡ 8 → Says (setup_fine stores actors homes lists) (SetupKind stores actors homes lists)
unfolding setup_fine
setup_says stores actors homes lists long =
    let empty = and_says (eq_says stores 0) (eq_says actors 0) in
    put_says (or_says (un_splits empty) (legal_says stores actors homes lists long))
    (λ x. by_test (eqb stores 0 && eqb actors 0) (λ e. let z = empty.tells e in none z.0 z.1) (λ e. some (x ((un_splits empty).fails e))))
    (λ s h. kind s h)
  where
    kind : SetupKind stores actors homes lists → ((stores ≡ 0) × (actors ≡ 0) → ⊥) → LegalSetup stores actors homes lists
    kind (none a b) h = absurd (h (a, b))
    kind (some l) h = l
