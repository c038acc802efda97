-- Step 8, post-check: actor.
use Rattle.std.specs.Prelude.{ℕ, ◌-◌, true, not, [], ◌∷◌, ◌++◌, drop}
use Rattle.protocol.specs.Words.{pick}
use Rattle.protocol.specs.Views.{phased}
use Rattle.protocol.specs.Slots.{queue, repair}
use Rattle.protocol.specs.Writes.{with_view, with_queue, with_repair}
use Rattle.protocol.specs.declared.State.{State}
use Rattle.protocol.specs.declared.View.{View}
use Rattle.protocol.specs.declared.Queue.{Queue}
use Rattle.protocol.specs.declared.Repair.{Repair}
use Rattle.protocol.specs.Rule.{refused, taken, outside, head, head_view, head_in}

-- Head in phase 4.
unfoldable pub post_check_no : State → ℕ → ℕ
post_check_no m a = refused 2 (outside a m.actors) (refused 7 (not (head_in 4 m a)) taken)

-- If changed, a repair goes off: destination the record's viewlink, own its store.
abbrev pub asked_repair : Repair → View → Repair
asked_repair none w = pick w.changed (record { flying = true; destination = w.viewlink; own = w.store }) none

-- The head leaves the queue
abbrev pub left : Queue → Queue
left q = record { len = q.len - 1; views = drop 1 q.views ++ (0 ∷ []) }

-- .., phase 5.
unfoldable pub post_checked : State → ℕ → State
post_checked m a =
    with_repair (with_queue (with_view m (head m a) (phased 5 (head_view m a))) a (left (queue m a)))
    (head m a) (asked_repair (repair m (head m a)) (head_view m a))
