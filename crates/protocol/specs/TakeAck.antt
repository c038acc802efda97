-- Step 7, actor takes ack: store, key, role.
use Rattle.std.specs.Prelude.{ℕ, ◌-◌, Bool, ◌&&◌, ◌||◌, not, eqb}
use Rattle.protocol.specs.Words.{pick}
use Rattle.protocol.specs.Views.{phased}
use Rattle.protocol.specs.Slots.{number, queue, view, ack_copies}
use Rattle.protocol.specs.Writes.{with_view, with_ack_copies}
use Rattle.protocol.specs.declared.State.{State}
use Rattle.protocol.specs.declared.View.{View}
use Rattle.protocol.specs.Rule.{refused, taken, outside, head}

-- A copy in flight.
unfoldable pub take_ack_no : State → ℕ → ℕ → ℕ → ℕ
take_ack_no m p k r =
    refused 2 (outside p m.stores || outside k m.made || outside r 2) (refused 7 (eqb (ack_copies m p (number k r)) 0) taken)

-- that view is its queue's head
abbrev pub is_head : State → ℕ → Bool
is_head m v = not (eqb (queue m (view m v).actor).len 0) && eqb (head m (view m v).actor) v

-- If that view is its queue's head, in phase 3, and the store is its current one: phase 4.
abbrev pub accepts : State → ℕ → ℕ → Bool
accepts m p v = is_head m v && eqb (view m v).phase 3 && eqb (view m v).store p

abbrev pub acked_view : State → ℕ → ℕ → View
acked_view m p v = pick (accepts m p v) (phased 4 (view m v)) (view m v)

-- The copy goes.
unfoldable pub ack_taken : State → ℕ → ℕ → ℕ → State
ack_taken m p k r =
    let v = number k r in
    with_ack_copies (with_view m v (acked_view m p v)) p v (ack_copies m p v - 1)
