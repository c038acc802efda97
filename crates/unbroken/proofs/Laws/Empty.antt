-- A machine that isn't broken and has no stores, actors or interactions is the empty machine, since each of its slots is blank.
-- Assumes nothing.
use Prim.Native.Nat.{ℕ, ◌/◌, ◌%◌, ◌≤◌, ◌<◌}
use mathlib.Core.Path.{◌≡◌, sym, ap, ◌∙◌}
use mathlib.Core.Bool.{false}
use mathlib.Core.List.{List}
use native.Mathlib.Omega.{arith}
use lib.ListN.{length, get_or, replicate, length-replicate, get_or-replicate}
use lib.Seq.{ext_get_or}
use Rattle.std.proofs.Common.{rules}
use Rattle.protocol.specs.Words.{bit, table}
use Rattle.protocol.specs.Slots.{number, place, links_place, no_view, no_queue, no_contents, no_links, no_message, no_repair, no_entry, no_store, shelf, queue, message, view, repair, entry, contents, cause_links}
use Rattle.protocol.specs.Views.{blank_view, unset_view, relinked}
use Rattle.protocol.specs.Stores.{fresh_store}
use Rattle.protocol.specs.Sweep.{has_contents}
use Rattle.protocol.specs.Setup.{blank_queue, blank_links, fresh_with, empty_machine}
use Rattle.protocol.specs.declared.State.{State}
use Rattle.protocol.specs.declared.View.{View}
use Rattle.unbroken.specs.Blank.{OneEmpty}
use Rattle.unbroken.specs.Unbroken.{CopySlot, RowSlot, Unbroken}
use Rattle.unbroken.proofs.Laws.Tests.{by_test}
use Rattle.unbroken.proofs.Laws.Whole.{unbroken}
use Rattle.unbroken.proofs.Laws.Bits.{bit_none}

-- a list with the same at every place: by index, by store and view, by store and key
all_same : {A : Type 0} (l : List A) (n : ℕ) (x d : A) → length l ≡ n → ((i : ℕ) → i < n → get_or l i d ≡ x) → l ≡ replicate n x
all_same l n x d e f =
    ext_get_or d l (replicate n x) (e ∙ sym (length-replicate n x)) (λ i h. let b : i < n = omega arith in f i b ∙ sym (get_or-replicate n i x d b))

places_same : {A : Type 0} (l : List A) (x d : A) → length l ≡ 256 → ((p v : ℕ) → p < 8 → v < 32 → get_or l (place p v) d ≡ x) → l ≡ replicate 256 x
places_same l x d e f =
    all_same l 256 x d e (λ i h. let q : i ≡ place (i / 32) (i % 32) = omega arith in ap (λ (j : ℕ). get_or l j d) q ∙ f (i / 32) (i % 32) (omega arith) (omega arith))

links_same : {A : Type 0} (l : List A) (x d : A) → length l ≡ 128 → ((p k : ℕ) → p < 8 → k < 16 → get_or l (links_place p k) d ≡ x) → l ≡ replicate 128 x
links_same l x d e f =
    all_same l 128 x d e (λ i h. let q : i ≡ links_place (i / 16) (i % 16) = omega arith in ap (λ (j : ℕ). get_or l j d) q ∙ f (i / 16) (i % 16) (omega arith) (omega arith))

none_left : (n : ℕ) → (1 ≤ n → ⊥) → n ≡ 0
none_left n h = omega arith

no_copies : {stores p least at n : ℕ} → stores ≡ 0 → CopySlot stores p least at n → n ≡ 0
no_copies {stores} {p} {least} {at} {n} z c = none_left n (λ l. omega (arith, c.at_store l))

no_links_holds : {stores made p : ℕ} {row : List ℕ} → stores ≡ 0 → RowSlot stores made p row → row ≡ replicate 32 0
no_links_holds {stores} {made} {p} {row} z r = all_same row 32 0 0 r.long (λ v b. none_left (get_or row v 0) (λ l. omega (arith, (r.link_at v b).at_store l)))

module _ (m : State) (s : Unbroken m) (no_stores : m.stores ≡ 0) (no_actors : m.actors ≡ 0) (none_made : m.made ≡ 0) where
  phase_blank_holds : (v : ℕ) → v < 32 → (view m v).phase ≡ 0
  phase_blank_holds v h = (s.view_at v h).phase_blank (omega arith)

  view_blank : (v : ℕ) → v < 32 → view m v ≡ blank_view
  view_blank v h =
      let w = s.view_at v h in
      let unset = w.unset (phase_blank_holds v h) in
      let causes = ap (λ (x : View). x.causes) unset in
      let links = all_same (view m v).links 16 0 0 w.causes.long (λ j b. w.causes.link_blank j b (ap (λ (c : ℕ). bit c j) causes ∙ bit_none j)) in
      let actor = w.actor_blank (omega arith) in
      unset ∙ (λ i. relinked (links i) (unset_view (actor i)))

  queue_blank : (a : ℕ) → a < 8 → queue m a ≡ blank_queue
  queue_blank a h =
      let q = s.queue_at a h in
      let len = q.len_blank (omega arith) in
      let views = all_same (queue m a).views 16 0 0 q.long (λ j b. q.place_blank j b (omega arith)) in
      λ i. record { len = len i; views = views i }

  message_blank : (k : ℕ) → k < 16 → message m k ≡ no_message
  message_blank k e = search rules

  repair_blank : (v : ℕ) → v < 32 → repair m v ≡ no_repair
  repair_blank v e = search rules

  entry_blank : (v : ℕ) → v < 32 → entry m v ≡ no_entry
  entry_blank v e = search rules

  held_none : (p v : ℕ) → p < 8 → v < 32 → has_contents m p v ≡ false
  held_none p v h k = by_test (has_contents m p v) (λ t. absurd (omega (arith, (s.contents_at p v h k).at_store t))) (λ t. t)

  contents_blank : (p v : ℕ) → p < 8 → v < 32 → contents m p v ≡ no_contents
  contents_blank p v h k = (s.contents_at p v h k).blank (held_none p v h k)

  links_blank_holds : (p k : ℕ) → p < 8 → k < 16 → get_or m.links (links_place p k) no_links ≡ blank_links
  links_blank_holds p k h b =
      let l = s.links_at p k h b in
      let to = all_same (cause_links m p k) 16 0 0 l.long (λ j c. l.links_blank j c (held_none p (number k 0) h (omega arith))) in
      λ i. record { to = to i }

  shelf_blank : (p : ℕ) → p < 8 → shelf m p ≡ fresh_store false
  shelf_blank p h =
      let x = s.store_at p h in
      let b : m.stores ≤ p = omega arith in
      let viewlinks = no_links_holds no_stores x.working in
      let keptlinks = no_links_holds no_stores x.checkpointed in
      search (rules, no_links_holds)

  is_empty_holds : m ≡ empty_machine
  unfolding empty_machine fresh_with table
  is_empty_holds =
      let z = s.sized in
      let homes = all_same m.homes 8 0 0 z.homes (λ a h. s.home_blank a h (omega arith)) in
      let lists = all_same m.lists 8 0 0 z.lists (λ a h. s.list_blank a h (omega arith)) in
      let queues = all_same m.queues 8 blank_queue no_queue z.queues queue_blank in
      let shelves = all_same m.shelves 8 (fresh_store false) no_store z.shelves shelf_blank in
      let messages = all_same m.messages 16 no_message no_message z.messages message_blank in
      let views = all_same m.views 32 blank_view no_view z.views view_blank in
      let repairs = all_same m.repairs 32 no_repair no_repair z.repairs repair_blank in
      let entries = all_same m.entries 32 no_entry no_entry z.entries entry_blank in
      let records = places_same m.records 0 0 z.records (λ p v h k. no_copies no_stores (s.record_at p v h k)) in
      let acks = places_same m.acks 0 0 z.acks (λ p v h k. no_copies no_stores (s.ack_at p v h k)) in
      let updates = places_same m.updates 0 0 z.updates (λ p v h k. no_copies no_stores (s.update_at p v h k)) in
      let uacks = places_same m.uacks 0 0 z.uacks (λ p v h k. no_copies no_stores (s.uack_at p v h k)) in
      let held = places_same m.contents no_contents no_contents z.contents contents_blank in
      let links = links_same m.links blank_links no_links z.links links_blank_holds in
      search (rules, all_same, queue_blank, shelf_blank, message_blank, view_blank, repair_blank, entry_blank, places_same, no_copies, contents_blank, links_same, links_blank_holds)

pub one_empty : OneEmpty
one_empty m e = is_empty_holds m (unbroken m e)
