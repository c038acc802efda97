-- Step 4, send record: actor.
use Rattle.std.specs.Prelude.{ℕ, not}
use Rattle.protocol.specs.Views.{phased}
use Rattle.protocol.specs.Slots.{record_copies}
use Rattle.protocol.specs.Writes.{with_view, with_record_copies}
use Rattle.protocol.specs.declared.State.{State}
use Rattle.protocol.specs.Rule.{refused, taken, outside, head, head_view, head_in, more}

-- Head in phase 2.
unfoldable pub send_record_no : State → ℕ → ℕ
send_record_no m a = refused 2 (outside a m.actors) (refused 7 (not (head_in 2 m a)) taken)

-- One record copy to its store. Phase 3.
unfoldable pub record_sent : State → ℕ → State
record_sent m a =
    let p = (head_view m a).store in
    with_record_copies (with_view m (head m a) (phased 3 (head_view m a))) p (head m a) (more (record_copies m p (head m a)))
