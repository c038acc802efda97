-- Step 18, duplicate: what (0 record, 1 ack, 2 update, 3 uack), store, key, role.
use Rattle.std.specs.Prelude.{ℕ}
use Rattle.protocol.specs.Slots.{number}
use Rattle.protocol.specs.Lose.{copies, with_copies, lose_no}
use Rattle.protocol.specs.declared.State.{State}
use Rattle.protocol.specs.Rule.{more}

-- Refusals: as step 14.
abbrev pub duplicate_no : State → ℕ → ℕ → ℕ → ℕ → ℕ
duplicate_no m what p k r = lose_no m what p k r

-- One more copy at that place, up to 15, and no change at 15.
unfoldable pub duplicated : State → ℕ → ℕ → ℕ → ℕ → State
duplicated m what p k r = with_copies m what p (number k r) (more (copies m what p (number k r)))
