-- Step 9, coordinator takes repair: key, role.
use Rattle.std.specs.Prelude.{ℕ, ◌-◌, Bool, ◌||◌, not, set, eqb}
use Rattle.protocol.specs.Words.{pick}
use Rattle.protocol.specs.Slots.{number, status_number, repair, entry, no_repair}
use Rattle.protocol.specs.Writes.{with_entries, with_repair}
use Rattle.protocol.specs.declared.State.{State}
use Rattle.protocol.specs.declared.Entry.{Entry}
use Rattle.protocol.specs.declared.Repair.{Repair}
use Rattle.protocol.specs.declared.Status.TheVariants.{ToSend}
use Rattle.protocol.specs.Rule.{refused, taken, outside}

-- One in flight.
unfoldable pub take_repair_no : State → ℕ → ℕ → ℕ
take_repair_no m k r = refused 2 (outside k m.made || outside r 2) (refused 7 (not (repair m (number k r)).flying) taken)

abbrev pub to_send : ℕ → ℕ → Entry
to_send destination own = record { status = ToSend; destination = destination; own = own }

abbrev pub entered : Entry → Bool
entered e = not (eqb (status_number e.status) 0)

-- If the other role has an entry, this entry's destination is the other's own store. Else the entry is as sent. To-send.
abbrev pub repaired_entry : Repair → Entry → Entry
repaired_entry sent other = to_send (pick (entered other) other.own sent.destination) sent.own

-- .., the other's destination becomes this own store, and both are to-send.
abbrev pub redirected_entry : Repair → Entry → Entry
redirected_entry sent other = pick (entered other) (to_send sent.own other.own) other

unfoldable pub repair_taken : State → ℕ → ℕ → State
repair_taken m k r =
    let v = number k r in
    let o = number k (1 - r) in
    with_repair
    (with_entries m (set (set m.entries v (repaired_entry (repair m v) (entry m o))) o (redirected_entry (repair m v) (entry m o))))
    v no_repair
