-- Step 10, send update: key, role.
use Rattle.std.specs.Prelude.{ℕ, ◌||◌, not, eqb}
use Rattle.protocol.specs.Slots.{number, status_number, entry, update_copies}
use Rattle.protocol.specs.Writes.{with_entry, with_update_copies}
use Rattle.protocol.specs.declared.State.{State}
use Rattle.protocol.specs.declared.Entry.{Entry}
use Rattle.protocol.specs.declared.Status.{Status}
use Rattle.protocol.specs.declared.Status.TheVariants.{Waiting}
use Rattle.protocol.specs.Rule.{refused, taken, outside, more}

-- To-send.
unfoldable pub send_update_no : State → ℕ → ℕ → ℕ
send_update_no m k r =
    refused 2 (outside k m.made || outside r 2) (refused 7 (not (eqb (status_number (entry m (number k r)).status) 1)) taken)

-- an entry with another status
abbrev pub in_status : Status → Entry → Entry
in_status s e = record { status = s; destination = e.destination; own = e.own }

-- One update copy to the destination; waiting.
unfoldable pub update_sent : State → ℕ → ℕ → State
update_sent m k r =
    let v = number k r in
    let p = (entry m v).destination in
    with_update_copies (with_entry m v (in_status Waiting (entry m v))) p v (more (update_copies m p v))
