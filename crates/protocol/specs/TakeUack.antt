-- Step 12, coordinator takes uack: store, key, role.
use Rattle.std.specs.Prelude.{ℕ, ◌-◌, ◌&&◌, ◌||◌, eqb}
use Rattle.protocol.specs.Words.{pick}
use Rattle.protocol.specs.Slots.{number, status_number, entry, uack_copies}
use Rattle.protocol.specs.Writes.{with_entry, with_uack_copies}
use Rattle.protocol.specs.declared.State.{State}
use Rattle.protocol.specs.declared.Entry.{Entry}
use Rattle.protocol.specs.declared.Status.TheVariants.{Done}
use Rattle.protocol.specs.Rule.{refused, taken, outside}
use Rattle.protocol.specs.SendUpdate.{in_status}

-- A copy in flight
unfoldable pub take_uack_no : State → ℕ → ℕ → ℕ → ℕ
take_uack_no m p k r =
    refused 2 (outside p m.stores || outside k m.made || outside r 2) (refused 7 (eqb (uack_copies m p (number k r)) 0) taken)

-- If waiting and the store is the destination: done.
abbrev pub finished_entry : ℕ → Entry → Entry
finished_entry p e = pick (eqb (status_number e.status) 2 && eqb e.destination p) (in_status Done e) e

-- .., it goes.
unfoldable pub uack_taken : State → ℕ → ℕ → ℕ → State
uack_taken m p k r =
    let v = number k r in
    with_uack_copies (with_entry m v (finished_entry p (entry m v))) p v (uack_copies m p v - 1)
