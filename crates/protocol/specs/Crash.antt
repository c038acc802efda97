-- Step 15, crash: store.
use Rattle.std.specs.Prelude.{ℕ, not}
use Rattle.protocol.specs.Slots.{is_up, shelf}
use Rattle.protocol.specs.Stores.{thrown_back}
use Rattle.protocol.specs.Writes.{with_shelf}
use Rattle.protocol.specs.Sweep.{swept}
use Rattle.protocol.specs.declared.State.{State}
use Rattle.protocol.specs.Rule.{refused, taken, outside}

-- Up
unfoldable pub crash_no : State → ℕ → ℕ
crash_no m p = refused 2 (outside p m.stores) (refused 5 (not (is_up m p)) taken)

-- .. becomes down. A crash throws back to the checkpoint and drops the notes.
unfoldable pub crashed : State → ℕ → State
crashed m p = swept (with_shelf m p (thrown_back (shelf m p))) p
