-- Step 14, lose: what (0 record, 1 ack, 2 update, 3 uack), store, key, role.
use Rattle.std.specs.Prelude.{ℕ, ◌-◌, ◌||◌, eqb}
use Rattle.protocol.specs.Words.{pick}
use Rattle.protocol.specs.Slots.{number, record_copies, ack_copies, update_copies, uack_copies}
use Rattle.protocol.specs.Writes.{with_record_copies, with_ack_copies, with_update_copies, with_uack_copies}
use Rattle.protocol.specs.declared.State.{State}
use Rattle.protocol.specs.Rule.{refused, taken, outside}

abbrev pub copies : State → ℕ → ℕ → ℕ → ℕ
copies m what p v =
    pick (eqb what 0) (record_copies m p v) (pick (eqb what 1) (ack_copies m p v) (pick (eqb what 2) (update_copies m p v) (uack_copies m p v)))

abbrev pub with_copies : State → ℕ → ℕ → ℕ → ℕ → State
with_copies m what p v n =
    pick (eqb what 0) (with_record_copies m p v n)
    (pick (eqb what 1) (with_ack_copies m p v n) (pick (eqb what 2) (with_update_copies m p v n) (with_uack_copies m p v n)))

-- a copy is there
unfoldable pub lose_no : State → ℕ → ℕ → ℕ → ℕ → ℕ
lose_no m what p k r =
    refused 2 (outside what 4 || outside p m.stores || outside k m.made || outside r 2)
    (refused 7 (eqb (copies m what p (number k r)) 0) taken)

-- One copy goes.
unfoldable pub lost : State → ℕ → ℕ → ℕ → ℕ → State
lost m what p k r = with_copies m what p (number k r) (copies m what p (number k r) - 1)
