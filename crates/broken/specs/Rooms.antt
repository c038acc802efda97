-- How many copies there may be at a place, in the form that the code compares: at most the room that the view has there, and none at a
-- store that isn't there. No reader has to believe it: `rooms_same` says that it is what `copies_fine` says.
use Rattle.std.specs.Prelude.{ℕ, ◌/◌, ◌%◌, Bool, List, ltb, leb, get_or}
use Rattle.protocol.specs.Words.{pick}
use Rattle.protocol.specs.Slots.{no_view, no_entry, status_number}
use Rattle.protocol.specs.declared.View.{View}
use Rattle.protocol.specs.declared.Entry.{Entry}

abbrev pub record_room : List View → ℕ → ℕ
record_room views v = pick (leb 2 (get_or views v no_view).phase) 15 0

abbrev pub update_room : List Entry → ℕ → ℕ
update_room entries v = pick (leb 1 (status_number (get_or entries v no_entry).status)) 15 0

-- a place of a store's row, and of all
abbrev pub row_within : List ℕ → ℕ → ℕ → Bool
row_within rooms v n = leb n (get_or rooms v 0)

abbrev pub within_room : ℕ → List ℕ → ℕ → ℕ → Bool
within_room stores rooms at n = leb n (pick (ltb (at / 32) stores) (get_or rooms (at % 32) 0) 0)
