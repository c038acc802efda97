-- A machine with one of its arrays, or one slot, written anew; all else stays.
use Rattle.std.specs.Prelude.{ℕ, List, set}
use Rattle.protocol.specs.Slots.{place, links_place}
use Rattle.protocol.specs.declared.State.{State}
use Rattle.protocol.specs.declared.View.{View}
use Rattle.protocol.specs.declared.Queue.{Queue}
use Rattle.protocol.specs.declared.Contents.{Contents}
use Rattle.protocol.specs.declared.Links.{Links}
use Rattle.protocol.specs.declared.Message.{Message}
use Rattle.protocol.specs.declared.Repair.{Repair}
use Rattle.protocol.specs.declared.Entry.{Entry}
use Rattle.protocol.specs.declared.Store.{Store}

abbrev pub with_made : State → ℕ → State
with_made m x = record m { made = x }

abbrev pub with_queues : State → List Queue → State
with_queues m x = record m { queues = x }

abbrev pub with_shelves : State → List Store → State
with_shelves m x = record m { shelves = x }

abbrev pub with_messages : State → List Message → State
with_messages m x = record m { messages = x }

abbrev pub with_views : State → List View → State
with_views m x = record m { views = x }

abbrev pub with_repairs : State → List Repair → State
with_repairs m x = record m { repairs = x }

abbrev pub with_entries : State → List Entry → State
with_entries m x = record m { entries = x }

abbrev pub with_records : State → List ℕ → State
with_records m x = record m { records = x }

abbrev pub with_acks : State → List ℕ → State
with_acks m x = record m { acks = x }

abbrev pub with_updates : State → List ℕ → State
with_updates m x = record m { updates = x }

abbrev pub with_uacks : State → List ℕ → State
with_uacks m x = record m { uacks = x }

abbrev pub with_contents : State → List Contents → State
with_contents m x = record m { contents = x }

abbrev pub with_links : State → List Links → State
with_links m x = record m { links = x }

-- by actor
abbrev pub with_queue : State → ℕ → Queue → State
with_queue m i x = with_queues m (set m.queues i x)

-- by store
abbrev pub with_shelf : State → ℕ → Store → State
with_shelf m i x = with_shelves m (set m.shelves i x)

-- by interaction, and by view
abbrev pub with_message : State → ℕ → Message → State
with_message m i x = with_messages m (set m.messages i x)

abbrev pub with_view : State → ℕ → View → State
with_view m i x = with_views m (set m.views i x)

abbrev pub with_repair : State → ℕ → Repair → State
with_repair m i x = with_repairs m (set m.repairs i x)

abbrev pub with_entry : State → ℕ → Entry → State
with_entry m i x = with_entries m (set m.entries i x)

-- copies in flight, by store and view
abbrev pub with_record_copies : State → ℕ → ℕ → ℕ → State
with_record_copies m p v n = with_records m (set m.records (place p v) n)

abbrev pub with_ack_copies : State → ℕ → ℕ → ℕ → State
with_ack_copies m p v n = with_acks m (set m.acks (place p v) n)

abbrev pub with_update_copies : State → ℕ → ℕ → ℕ → State
with_update_copies m p v n = with_updates m (set m.updates (place p v) n)

abbrev pub with_uack_copies : State → ℕ → ℕ → ℕ → State
with_uack_copies m p v n = with_uacks m (set m.uacks (place p v) n)

-- what a store has of a view's record: contents; a sender's cause links
abbrev pub with_contents_at : State → ℕ → ℕ → Contents → State
with_contents_at m p v c = with_contents m (set m.contents (place p v) c)

abbrev pub with_cause_links : State → ℕ → ℕ → Links → State
with_cause_links m p k l = with_links m (set m.links (links_place p k) l)
