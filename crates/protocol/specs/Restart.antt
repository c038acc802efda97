-- Step 16, restart: store.
use Rattle.std.specs.Prelude.{ℕ, true}
use Rattle.protocol.specs.Slots.{is_up, shelf}
use Rattle.protocol.specs.Stores.{turned}
use Rattle.protocol.specs.Writes.{with_shelf}
use Rattle.protocol.specs.declared.State.{State}
use Rattle.protocol.specs.Rule.{refused, taken, outside}

-- Down
unfoldable pub restart_no : State → ℕ → ℕ
restart_no m p = refused 2 (outside p m.stores) (refused 6 (is_up m p) taken)

-- .. becomes up.
unfoldable pub restarted : State → ℕ → State
restarted m p = with_shelf m p (turned (shelf m p) true)
