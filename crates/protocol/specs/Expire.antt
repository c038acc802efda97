-- Step 13, coordinator timeout: key, role.
use Rattle.std.specs.Prelude.{ℕ, ◌||◌, not, eqb}
use Rattle.protocol.specs.Slots.{number, status_number, entry}
use Rattle.protocol.specs.Writes.{with_entry}
use Rattle.protocol.specs.declared.State.{State}
use Rattle.protocol.specs.declared.Status.TheVariants.{ToSend}
use Rattle.protocol.specs.Rule.{refused, taken, outside}
use Rattle.protocol.specs.SendUpdate.{in_status}

-- Waiting
unfoldable pub expire_no : State → ℕ → ℕ → ℕ
expire_no m k r =
    refused 2 (outside k m.made || outside r 2) (refused 7 (not (eqb (status_number (entry m (number k r)).status) 2)) taken)

-- .. becomes to-send.
unfoldable pub expired : State → ℕ → ℕ → State
expired m k r = with_entry m (number k r) (in_status ToSend (entry m (number k r)))
