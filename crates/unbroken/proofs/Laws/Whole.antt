-- A machine is not broken exactly if every slot is as `Unbroken` says: `unbroken` and `whole`.
-- The tests go through the arrays by one index; a place's store and view are its quotient and remainder. Assumes nothing.
use Prim.Native.Nat.{ℕ, ◌*◌, ◌/◌, ◌%◌, ◌≤◌, ◌<◌}
use mathlib.Core.Path.{◌≡◌, subst}
use mathlib.Core.Bool.{true, false, ◌||◌}
use mathlib.Core.List.{List}
use native.Mathlib.Omega.{arith}
use lib.ListN.{length, get_or}
use lib.Dec.{ltb, leb, eqb}
use borrow.Author.Tests.{not-false}
use Rattle.std.proofs.lemmas.Bool.{not_from_true}
use Rattle.std.proofs.Common.{rules}
use Rattle.protocol.specs.Slots.{number, place, links_place, no_view, no_queue, no_contents, no_links, no_message, no_repair, no_entry, no_store, status_number}
use Rattle.protocol.specs.Slots.{view, queue, entry, shelf}
use Rattle.protocol.specs.Sweep.{has_contents}
use Rattle.protocol.specs.Broken.{slots_fine, setup_fine, rows_fine, view_fine, queue_fine, message_fine, repair_fine, entry_fine, copies_fine, records_fine, updates_fine, contents_fine, held_links_fine, store_fine, jobs_fine, places_fine, whole_of, broken_of}
use Rattle.unbroken.specs.Unbroken.{Sized, QueueSlot, MessageSlot, RepairSlot, EntrySlot, CopySlot, ContentsSlot, LinksSlot, Unbroken}
use Rattle.protocol.specs.declared.State.{State}
use Rattle.unbroken.proofs.Laws.Says.{Says, le_says, eq_says, is_says, lt_splits, and_says, or_says, all_says, put_says}
use Rattle.unbroken.proofs.Laws.SlotTests.{ViewKept, view_says, queue_says, message_says, repair_says, entry_says, copies_says, contents_says, held_links_says, StoreKept, store_says, setup_says}

slots_say : (m : State) → Says (slots_fine m) (Sized m)
unfolding slots_fine
slots_say m = search rules

-- by place: the store and the view of a place, and back
module _ (P : ℕ → ℕ → ℕ → Type 0) (n : ℕ) where
  pub by_place : n ≡ 256 → ((at : ℕ) → at < n → P (at / 32) (at % 32) at) → (p v : ℕ) → p < 8 → v < 32 → P p v (place p v)
  by_place long f p v hp hv =
      let q : place p v / 32 ≡ p = omega arith in
      let r : place p v % 32 ≡ v = omega arith in
      subst (λ (x : ℕ). P p x (place p v)) r (subst (λ (x : ℕ). P x (place p v % 32) (place p v)) q (f (place p v) (omega arith)))

  pub to_place : n ≡ 256 → ((p v : ℕ) → p < 8 → v < 32 → P p v (place p v)) → (at : ℕ) → at < n → P (at / 32) (at % 32) at
  to_place long f at h =
      let q : place (at / 32) (at % 32) ≡ at = omega arith in
      subst (λ (x : ℕ). P (at / 32) (at % 32) x) q (f (at / 32) (at % 32) (omega arith) (omega arith))

  pub by_links_place : n ≡ 128 → ((at : ℕ) → at < n → P (at / 16) (at % 16) at) → (p k : ℕ) → p < 8 → k < 16 → P p k (links_place p k)
  by_links_place long f p k hp hk =
      let q : links_place p k / 16 ≡ p = omega arith in
      let r : links_place p k % 16 ≡ k = omega arith in
      subst (λ (x : ℕ). P p x (links_place p k)) r (subst (λ (x : ℕ). P x (links_place p k % 16) (links_place p k)) q (f (links_place p k) (omega arith)))

  pub to_links_place : n ≡ 128 → ((p k : ℕ) → p < 8 → k < 16 → P p k (links_place p k)) → (at : ℕ) → at < n → P (at / 16) (at % 16) at
  to_links_place long f at h =
      let q : links_place (at / 16) (at % 16) ≡ at = omega arith in
      subst (λ (x : ℕ). P (at / 16) (at % 16) x) q (f (at / 16) (at % 16) (omega arith) (omega arith))

module _ (m : State) where
  abbrev Rows : List ℕ → Type 0
  Rows l = (a : ℕ) → a < length l → m.actors ≤ a → get_or l a 0 ≡ 0

  rows_say : (l : List ℕ) → Says (rows_fine m.actors l) (Rows l)
  unfolding rows_fine
  rows_say l =
      all_says (λ a x. ltb a m.actors || eqb x 0) (λ a x. m.actors ≤ a → x ≡ 0) l 0 (λ a x. or_says (lt_splits a m.actors) (eq_says x 0))

  abbrev ViewsKept : Type 0
  ViewsKept = (v : ℕ) → v < length m.views → ViewKept m.stores m.actors m.made m.views m.queues v (view m v)

  abbrev QueuesKept : Type 0
  QueuesKept = (a : ℕ) → a < length m.queues → QueueSlot m.actors m.views a (queue m a)

  abbrev MessagesKept : Type 0
  MessagesKept = (k : ℕ) → k < length m.messages → MessageSlot m.stores m.made (view m (number k 1)).phase k (get_or m.messages k no_message)

  abbrev RepairsKept : Type 0
  RepairsKept = (v : ℕ) → v < length m.repairs → RepairSlot m.stores (view m v).phase (get_or m.repairs v no_repair)

  abbrev EntriesKept : Type 0
  EntriesKept = (v : ℕ) → v < length m.entries → EntrySlot m.stores (view m v).phase (entry m v)

  jobs_say : Says (jobs_fine m) ((((ViewsKept × QueuesKept) × MessagesKept) × RepairsKept) × EntriesKept)
  unfolding jobs_fine
  jobs_say =
      and_says (and_says (and_says (and_says
      (all_says (view_fine m.stores m.actors m.made m.views m.queues) (ViewKept m.stores m.actors m.made m.views m.queues) m.views no_view (view_says m.stores m.actors m.made m.views m.queues))
      (all_says (queue_fine m.actors m.views) (QueueSlot m.actors m.views) m.queues no_queue (queue_says m.actors m.views)))
      (all_says (message_fine m.stores m.made m.views) (λ k. MessageSlot m.stores m.made (view m (number k 1)).phase k) m.messages no_message (message_says m.stores m.made m.views)))
      (all_says (repair_fine m.stores m.views) (λ v. RepairSlot m.stores (view m v).phase) m.repairs no_repair (repair_says m.stores m.views)))
      (all_says (entry_fine m.stores m.views) (λ v. EntrySlot m.stores (view m v).phase) m.entries no_entry (entry_says m.stores m.views))

  abbrev RecordsKept : List ℕ → Type 0
  RecordsKept l = (at : ℕ) → at < length l → CopySlot m.stores (at / 32) 2 (view m (at % 32)).phase (get_or l at 0)

  records_say : (l : List ℕ) → Says (records_fine m.stores m.views l) (RecordsKept l)
  unfolding records_fine
  records_say l =
      all_says (copies_fine m.stores (λ v. leb 2 (view m v).phase)) (λ at. CopySlot m.stores (at / 32) 2 (view m (at % 32)).phase) l 0
      (copies_says m.stores 2 (λ v. (view m v).phase))

  abbrev UpdatesKept : List ℕ → Type 0
  UpdatesKept l = (at : ℕ) → at < length l → CopySlot m.stores (at / 32) 1 (status_number (entry m (at % 32)).status) (get_or l at 0)

  updates_say : (l : List ℕ) → Says (updates_fine m.stores m.entries l) (UpdatesKept l)
  unfolding updates_fine
  updates_say l =
      all_says (copies_fine m.stores (λ v. leb 1 (status_number (entry m v).status))) (λ at. CopySlot m.stores (at / 32) 1 (status_number (entry m (at % 32)).status)) l 0
      (copies_says m.stores 1 (λ v. status_number (entry m v).status))

  abbrev ContentsKept : Type 0
  ContentsKept = (at : ℕ) → at < length m.contents → ContentsSlot m.stores (at / 32) (has_contents m (at / 32) (at % 32)) (view m (at % 32)) (get_or m.contents at no_contents)

  abbrev HeldLinksKept : Type 0
  HeldLinksKept = (at : ℕ) → at < length m.links → LinksSlot (has_contents m (at / 16) (at % 16 * 2)) (view m (at % 16 * 2)).links (get_or m.links at no_links).to

  abbrev StoresKept : Type 0
  StoresKept = (p : ℕ) → p < length m.shelves → StoreKept m.stores m.made m.views m.entries p (shelf m p)

  places_say : Says (places_fine m) ((((((RecordsKept m.records × RecordsKept m.acks) × UpdatesKept m.updates) × UpdatesKept m.uacks) × ContentsKept) × HeldLinksKept) × StoresKept)
  unfolding places_fine
  places_say =
      and_says (and_says (and_says (and_says (and_says (and_says (records_say m.records) (records_say m.acks)) (updates_say m.updates)) (updates_say m.uacks))
      (all_says (contents_fine m.stores m.views m.shelves) (λ at. ContentsSlot m.stores (at / 32) (has_contents m (at / 32) (at % 32)) (view m (at % 32))) m.contents no_contents (contents_says m.shelves m.views m.stores)))
      (all_says (held_links_fine m.shelves m.views) (λ at l. LinksSlot (has_contents m (at / 16) (at % 16 * 2)) (view m (at % 16 * 2)).links l.to) m.links no_links (held_links_says m.shelves m.views)))
      (all_says (store_fine m.stores m.made m.views m.entries) (StoreKept m.stores m.made m.views m.entries) m.shelves no_store (store_says m.stores m.made m.views m.entries))

  abbrev Parts : Type 0
  Parts =
      ((((((Sized m × (m.made ≤ 16)) × (setup_fine m.stores m.actors m.homes m.lists ≡ true)) × Rows m.homes) × Rows m.lists)
      × ((((ViewsKept × QueuesKept) × MessagesKept) × RepairsKept) × EntriesKept))
      × ((((((RecordsKept m.records × RecordsKept m.acks) × UpdatesKept m.updates) × UpdatesKept m.uacks) × ContentsKept) × HeldLinksKept) × StoresKept))

  parts_say : Says (whole_of m) Parts
  unfolding whole_of
  parts_say = search (rules, and_says, slots_say, le_says, is_says, rows_say, jobs_say, places_say)

  -- the places of the arrays, by store and view
  abbrev CopyAt : ℕ → (ℕ → ℕ) → List ℕ → ℕ → ℕ → ℕ → Type 0
  CopyAt least number l p v at = CopySlot m.stores p least (number v) (get_or l at 0)

  abbrev ContentsAt : ℕ → ℕ → ℕ → Type 0
  ContentsAt p v at = ContentsSlot m.stores p (has_contents m p v) (view m v) (get_or m.contents at no_contents)

  abbrev LinksAt : ℕ → ℕ → ℕ → Type 0
  LinksAt p k at = LinksSlot (has_contents m p (k * 2)) (view m (k * 2)).links (get_or m.links at no_links).to

  -- the sender's number, as the test writes it and as `number` does
  links_number : (p k : ℕ) → LinksAt p k (links_place p k) → LinksSlot (has_contents m p (number k 0)) (view m (number k 0)).links (get_or m.links (links_place p k) no_links).to
  links_number p k s = let q : k * 2 ≡ number k 0 = omega arith in subst (λ (n : ℕ). LinksSlot (has_contents m p n) (view m n).links (get_or m.links (links_place p k) no_links).to) q s

  links_double : (p k : ℕ) → LinksSlot (has_contents m p (number k 0)) (view m (number k 0)).links (get_or m.links (links_place p k) no_links).to → LinksAt p k (links_place p k)
  links_double p k s = let q : number k 0 ≡ k * 2 = omega arith in subst (λ (n : ℕ). LinksSlot (has_contents m p n) (view m n).links (get_or m.links (links_place p k) no_links).to) q s

  every_slot : Parts → Unbroken m
  every_slot x =
      let z = x.0.0.0.0.0.0 in
      let j = x.0.1 in
      let p = x.1 in
      let h8 = z.homes in let l8 = z.lists in let q8 = z.queues in let s8 = z.shelves in let g16 = z.messages in let v32 = z.views in let r32 = z.repairs in let e32 = z.entries in
      record {
        sized = z;
        made16 = x.0.0.0.0.0.1;
        setup = (setup_says m.stores m.actors m.homes m.lists h8).tells x.0.0.0.0.1;
        home_blank = λ a h. x.0.0.0.1 a (omega arith);
        list_blank = λ a h. x.0.0.1 a (omega arith);
        view_at = λ v h. (j.0.0.0.0 v (omega arith)).0;
        queued_once = λ v h. (j.0.0.0.0 v (omega arith)).1;
        queue_at = λ a h. j.0.0.0.1 a (omega arith);
        message_at = λ k h. j.0.0.1 k (omega arith);
        repair_at = λ v h. j.0.1 v (omega arith);
        entry_at = λ v h. j.1 v (omega arith);
        record_at = by_place (CopyAt 2 (λ v. (view m v).phase) m.records) (length m.records) z.records p.0.0.0.0.0.0;
        ack_at = by_place (CopyAt 2 (λ v. (view m v).phase) m.acks) (length m.acks) z.acks p.0.0.0.0.0.1;
        update_at = by_place (CopyAt 1 (λ v. status_number (entry m v).status) m.updates) (length m.updates) z.updates p.0.0.0.0.1;
        uack_at = by_place (CopyAt 1 (λ v. status_number (entry m v).status) m.uacks) (length m.uacks) z.uacks p.0.0.0.1;
        contents_at = by_place ContentsAt (length m.contents) z.contents p.0.0.1;
        links_at = λ p' k hp hk. links_number p' k (by_links_place LinksAt (length m.links) z.links p.0.1 p' k hp hk);
        store_at = λ p' h. (p.1 p' (omega arith)).0.0;
        ack_owed = λ p' v hp. (p.1 p' (omega arith)).0.1 v;
        uack_owed = λ p' v hp. (p.1 p' (omega arith)).1 v;
      }

  every_part : Unbroken m → Parts
  every_part s =
      let z = s.sized in
      let h8 = z.homes in let l8 = z.lists in let q8 = z.queues in let s8 = z.shelves in let g16 = z.messages in let v32 = z.views in let r32 = z.repairs in let e32 = z.entries in (
        (
          ((((z, s.made16), (setup_says m.stores m.actors m.homes m.lists h8).told s.setup), λ a h. s.home_blank a (omega arith)), λ a h. s.list_blank a (omega arith)),
          ((((λ v h. (s.view_at v (omega arith), s.queued_once v (omega arith)), λ a h. s.queue_at a (omega arith)), λ k h. s.message_at k (omega arith)), λ v h. s.repair_at v (omega arith)), λ v h. s.entry_at v (omega arith)),
        ),
        (
          (
            (
              (
                (
                  (
                    to_place (CopyAt 2 (λ v. (view m v).phase) m.records) (length m.records) z.records s.record_at,
                    to_place (CopyAt 2 (λ v. (view m v).phase) m.acks) (length m.acks) z.acks s.ack_at,
                  ),
                  to_place (CopyAt 1 (λ v. status_number (entry m v).status) m.updates) (length m.updates) z.updates s.update_at,
                ),
                to_place (CopyAt 1 (λ v. status_number (entry m v).status) m.uacks) (length m.uacks) z.uacks s.uack_at,
              ),
              to_place ContentsAt (length m.contents) z.contents s.contents_at,
            ),
            to_links_place LinksAt (length m.links) z.links (λ p k hp hk. links_double p k (s.links_at p k hp hk)),
          ),
          λ p h. ((s.store_at p (omega arith), λ v. s.ack_owed p v (omega arith)), λ v. s.uack_owed p v (omega arith)),
        ),
      )

  whole_says : Says (whole_of m) (Unbroken m)
  whole_says = put_says parts_say every_slot every_part

-- a machine that is not broken has every fact of the list
pub unbroken : (m : State) → broken_of m ≡ false → Unbroken m
unfolding broken_of
unbroken m e = (whole_says m).tells (not-false (whole_of m) e)

-- .. and one that has them all is not broken
pub whole : (m : State) → Unbroken m → broken_of m ≡ false
unfolding broken_of
whole m s = not_from_true (whole_of m) ((whole_says m).told s)
