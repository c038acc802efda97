-- Which machine values are broken. Each definition says what one slot must be so that no clause breaks it (RULES.md, Broken values);
-- `whole_of` asks it of every slot. Where a test reads far, it stands in a `let`, so that it waits until it is needed.
use Rattle.std.specs.Prelude.{ℕ, ◌*◌, ◌-◌, ◌/◌, ◌%◌, Bool, ◌&&◌, ◌||◌, not, List, length, get_or, ltb, leb, eqb}
use Rattle.protocol.specs.Words.{pick, bit, all, all_below, times}
use Rattle.protocol.specs.Slots.{number, no_view, no_queue, no_entry, no_store, status_number, standing}
use Rattle.protocol.specs.Setup.{legal}
use Rattle.protocol.specs.declared.State.{State}
use Rattle.protocol.specs.declared.View.{View}
use Rattle.protocol.specs.declared.Queue.{Queue}
use Rattle.protocol.specs.declared.Contents.{Contents}
use Rattle.protocol.specs.declared.Links.{Links}
use Rattle.protocol.specs.declared.Message.{Message}
use Rattle.protocol.specs.declared.Repair.{Repair}
use Rattle.protocol.specs.declared.Entry.{Entry}
use Rattle.protocol.specs.declared.Store.{Store}

-- A value of the code has all its slots; a list that stands for one must have them too.
unfoldable pub slots_fine : State → Bool
slots_fine m =
    eqb (length m.homes) 8 && eqb (length m.lists) 8 && eqb (length m.queues) 8 && eqb (length m.shelves) 8
    && eqb (length m.messages) 16 && eqb (length m.views) 32 && eqb (length m.repairs) 32 && eqb (length m.entries) 32
    && eqb (length m.records) 256 && eqb (length m.acks) 256 && eqb (length m.updates) 256 && eqb (length m.uacks) 256
    && eqb (length m.contents) 256 && eqb (length m.links) 128

-- more than sixteen interactions are made
abbrev pub made_fine : ℕ → Bool
made_fine made = leb made 16

-- its setup is illegal (the empty machine's aside)
unfoldable pub setup_fine : ℕ → ℕ → List ℕ → List ℕ → Bool
setup_fine stores actors homes lists = (eqb stores 0 && eqb actors 0) || legal stores actors homes lists

-- an unused slot isn't blank: the row of an actor behind the last
unfoldable pub rows_fine : ℕ → List ℕ → Bool
rows_fine actors l = all (λ a x. ltb a actors || eqb x 0) l

-- a cause isn't below its key; a link names no store; an unused slot isn't blank: a link with no cause
abbrev pub link_fine : ℕ → ℕ → ℕ → ℕ → ℕ → Bool
link_fine stores key causes j link = pick (bit causes j) (ltb j key && ltb link stores) (eqb link 0)

unfoldable pub links_fine : ℕ → ℕ → ℕ → List ℕ → Bool
links_fine stores key causes l = eqb (length l) 16 && all (link_fine stores key causes) l

-- in phase 0 just the actor is set; else the current store and the viewlink name stores, and a try number above 3 is broken
abbrev pub is_unset : View → Bool
is_unset w = eqb w.store 0 && eqb w.viewlink 0 && not w.changed && eqb w.tries 0 && eqb w.causes 0 && eqb w.word 0

abbrev pub phase_fine : ℕ → View → Bool
phase_fine stores w = pick (eqb w.phase 0) (is_unset w) (ltb w.store stores && ltb w.viewlink stores && leb w.tries 3)

-- phase 0 is for receivers only; a receiver has no causes; sender equals receiver
abbrev pub role_fine : ℕ → ℕ → View → Bool
role_fine sender v w = pick (eqb (v % 2) 0) (leb 1 w.phase) (eqb w.causes 0 && not (eqb w.actor sender))

-- the actor and the phase of a view are numbers of this machine; a view that isn't made is blank
abbrev pub made_view : ℕ → ℕ → ℕ → ℕ → View → Bool
made_view actors made sender v w =
    pick (ltb v (made * 2)) (ltb w.actor actors && leb w.phase 5 && role_fine sender v w) (eqb w.actor 0 && eqb w.phase 0)

-- phases 1 to 4 stand in a queue
abbrev pub waits : ℕ → Bool
waits phase = leb 1 phase && leb phase 4

-- a view in phases 1 to 4 isn't exactly once in its own actor's queue
abbrev pub queued_once : List Queue → ℕ → View → Bool
queued_once queues v w = let n = times v (standing (get_or queues w.actor no_queue)) in not (waits w.phase) || eqb n 1

unfoldable pub view_fine : ℕ → ℕ → ℕ → List View → List Queue → ℕ → View → Bool
view_fine stores actors made views queues v w =
    links_fine stores (v / 2) w.causes w.links && phase_fine stores w
    && made_view actors made (get_or views (v - 1) no_view).actor v w && queued_once queues v w

-- .. or another view is; a view behind a head isn't in phase 1
abbrev pub waits_at : ℕ → ℕ → View → Bool
waits_at a i w = eqb w.actor a && waits w.phase && (eqb i 0 || eqb w.phase 1)

-- an unused slot isn't blank: a place behind the queue's end
abbrev pub stands_fine : List View → ℕ → ℕ → ℕ → ℕ → Bool
stands_fine views a len i v = let w = get_or views v no_view in pick (ltb i len) (waits_at a i w) (eqb v 0)

unfoldable pub queue_fine : ℕ → List View → ℕ → Queue → Bool
queue_fine actors views a q =
    eqb (length q.views) 16 && leb q.len 16 && (ltb a actors || eqb q.len 0) && all (stands_fine views a q.len) q.views

-- an application message isn't in flight exactly for receivers in phase 0; its own store names no store
unfoldable pub message_fine : ℕ → ℕ → List View → ℕ → Message → Bool
message_fine stores made views k g =
    let due = ltb k made && eqb (get_or views (number k 1) no_view).phase 0 in
    pick g.flying (due && ltb g.own stores) (not due && eqb g.own 0 && eqb g.word 0)

-- a view not in phase 5 has a repair or an entry; a destination or own store names no store
unfoldable pub repair_fine : ℕ → List View → ℕ → Repair → Bool
repair_fine stores views v r =
    let settled = eqb (get_or views v no_view).phase 5 in
    pick r.flying (settled && ltb r.destination stores && ltb r.own stores) (eqb r.destination 0 && eqb r.own 0)

unfoldable pub entry_fine : ℕ → List View → ℕ → Entry → Bool
entry_fine stores views v e =
    let settled = eqb (get_or views v no_view).phase 5 in
    pick (eqb (status_number e.status) 0) (eqb e.destination 0 && eqb e.own 0)
    (settled && ltb e.destination stores && ltb e.own stores)

-- 0 to 15 copies, and none at a store that isn't there or of a view that may have none
abbrev pub copies_fine : ℕ → (ℕ → Bool) → ℕ → ℕ → Bool
copies_fine stores may at n = let some = ltb (at / 32) stores && may (at % 32) in leb n 15 && (eqb n 0 || some)

-- a view in phase 0 or 1 has a record or ack in flight
unfoldable pub records_fine : ℕ → List View → List ℕ → Bool
records_fine stores views l = all (copies_fine stores (λ v. leb 2 (get_or views v no_view).phase)) l

-- a view with no entry has an update or uack in flight
unfoldable pub updates_fine : ℕ → List Entry → List ℕ → Bool
updates_fine stores entries l = all (copies_fine stores (λ v. leb 1 (status_number (get_or entries v no_entry).status))) l

-- contents in a store, in either of its states, differ from the view's record; a view in phase 0 or 1 has contents in a store
abbrev pub same_contents : ℕ → View → ℕ → Contents → Bool
same_contents stores w at c =
    ltb (at / 32) stores && leb 2 w.phase && eqb c.asserter w.actor && eqb c.causes w.causes && eqb c.word w.word

-- one of the states of a store has contents of a view
abbrev pub has_in : Store → ℕ → Bool
has_in s v = bit s.held v || bit s.kept v

-- an unused slot isn't blank: where no contents are
abbrev pub blank_contents : Contents → Bool
blank_contents c = eqb c.asserter 0 && eqb c.causes 0 && eqb c.word 0

unfoldable pub contents_fine : ℕ → List View → List Store → ℕ → Contents → Bool
contents_fine stores views shelves at c =
    let same = same_contents stores (get_or views (at % 32) no_view) at c in
    pick (has_in (get_or shelves (at / 32) no_store) (at % 32)) same (blank_contents c)

-- the cause links of contents are those of the record, and blank where no contents are
unfoldable pub same_links : List ℕ → List ℕ → Bool
same_links a b = all (λ j link. eqb link (get_or b j 0)) a

unfoldable pub held_links_fine : List Store → List View → ℕ → Links → Bool
held_links_fine shelves views at l =
    let w = get_or views (at % 16 * 2) no_view in
    let same = same_links l.to w.links in
    eqb (length l.to) 16 && pick (has_in (get_or shelves (at / 16) no_store) (at % 16 * 2)) same (all (λ j link. eqb link 0) l.to)

-- a viewlink names no store; an unused slot isn't blank
abbrev pub viewlink_fine : ℕ → ℕ → ℕ → ℕ → ℕ → Bool
viewlink_fine stores made p v l = let used = ltb p stores && ltb v (made * 2) in eqb l 0 || (leb l stores && used)

unfoldable pub viewlinks_fine : ℕ → ℕ → ℕ → List ℕ → Bool
viewlinks_fine stores made p l = eqb (length l) 32 && all (viewlink_fine stores made p) l

-- an owed note counts as the copy it stands for: a view that may have none of those has none owed
abbrev pub note_fine : (ℕ → Bool) → ℕ → ℕ → Bool
note_fine may owed v = let some = may v in not (bit owed v) || some

unfoldable pub notes_fine : (ℕ → Bool) → ℕ → Bool
notes_fine may owed = all_below 32 (note_fine may owed)

-- .. nor is a store behind the last
abbrev pub blank_store : Store → Bool
blank_store s = not s.up && eqb s.held 0 && eqb s.kept 0 && eqb s.acksowed 0 && eqb s.uacksowed 0

unfoldable pub store_fine : ℕ → ℕ → List View → List Entry → ℕ → Store → Bool
store_fine stores made views entries p s =
    (ltb p stores || blank_store s)
    && notes_fine (λ v. leb 2 (get_or views v no_view).phase) s.acksowed
    && notes_fine (λ v. leb 1 (status_number (get_or entries v no_entry).status)) s.uacksowed
    && viewlinks_fine stores made p s.viewlinks && viewlinks_fine stores made p s.keptlinks

-- the setup, the views with their queues, what is in flight, and what the stores hold
unfoldable pub jobs_fine : State → Bool
jobs_fine m =
    all (view_fine m.stores m.actors m.made m.views m.queues) m.views
    && all (queue_fine m.actors m.views) m.queues
    && all (message_fine m.stores m.made m.views) m.messages
    && all (repair_fine m.stores m.views) m.repairs
    && all (entry_fine m.stores m.views) m.entries

unfoldable pub places_fine : State → Bool
places_fine m =
    records_fine m.stores m.views m.records && records_fine m.stores m.views m.acks
    && updates_fine m.stores m.entries m.updates && updates_fine m.stores m.entries m.uacks
    && all (contents_fine m.stores m.views m.shelves) m.contents
    && all (held_links_fine m.shelves m.views) m.links
    && all (store_fine m.stores m.made m.views m.entries) m.shelves

unfoldable pub whole_of : State → Bool
whole_of m =
    slots_fine m && made_fine m.made && setup_fine m.stores m.actors m.homes m.lists
    && rows_fine m.actors m.homes && rows_fine m.actors m.lists && jobs_fine m && places_fine m

-- a value is broken exactly if one of the clauses says so
unfoldable pub broken_of : State → Bool
broken_of m = not (whole_of m)
