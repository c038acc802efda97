-- Step 2, receive: key.
use Rattle.std.specs.Prelude.{ℕ, not, replicate, eqb}
use Rattle.protocol.specs.Views.{first_view}
use Rattle.protocol.specs.Slots.{number, home, queue, message, view, no_message}
use Rattle.protocol.specs.Writes.{with_queue, with_message, with_view}
use Rattle.protocol.specs.declared.State.{State}
use Rattle.protocol.specs.declared.View.{View}
use Rattle.protocol.specs.Rule.{refused, taken, outside}
use Rattle.protocol.specs.Send.{joined}

-- Not yet received.
unfoldable pub receive_no : State → ℕ → ℕ
receive_no m k = refused 2 (outside k m.made) (refused 7 (not (eqb (view m (number k 1)).phase 0)) taken)

-- the receiver's record: home store, viewlink the own store that was sent, same data, no causes
abbrev pub received_view : State → ℕ → View
received_view m k =
    let to = (view m (number k 1)).actor in
    first_view to (home m to) (message m k).own (message m k).word 0 (replicate 16 0)

-- The receiver's record joins the queue; the message is no longer in flight.
unfoldable pub received_of : State → ℕ → State
received_of m k =
    let to = (view m (number k 1)).actor in
    with_message (with_queue (with_view m (number k 1) (received_view m k)) to (joined (queue m to) (number k 1))) k no_message
