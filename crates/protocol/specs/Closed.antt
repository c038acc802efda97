-- When an interaction is closed.
use Rattle.std.specs.Prelude.{ℕ, Bool, ◌&&◌, not, eqb}
use Rattle.protocol.specs.Slots.{number, status_number, view, repair, entry}
use Rattle.protocol.specs.declared.State.{State}

-- in phase 5, no repair in flight, no entry to-send or waiting
abbrev pub rests_of : State → ℕ → Bool
rests_of m v =
    eqb (view m v).phase 5 && not (repair m v).flying
    && not (eqb (status_number (entry m v).status) 1) && not (eqb (status_number (entry m v).status) 2)

-- An interaction is closed when both views are in phase 5, no repair of it is in flight, and no entry of it is to-send or waiting.
unfoldable pub closed_of : State → ℕ → Bool
closed_of m k = rests_of m (number k 0) && rests_of m (number k 1)
