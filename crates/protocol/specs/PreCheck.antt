-- Step 3, pre-check: actor.
use Rattle.std.specs.Prelude.{ℕ, ◌&&◌, not, get_or}
use Rattle.protocol.specs.Words.{pick, bit, table}
use Rattle.protocol.specs.Views.{phased, relinked}
use Rattle.protocol.specs.Slots.{number, view}
use Rattle.protocol.specs.Writes.{with_view}
use Rattle.protocol.specs.declared.State.{State}
use Rattle.protocol.specs.declared.View.{View}
use Rattle.protocol.specs.Rule.{refused, taken, outside, head, head_view, head_in}

-- Head in phase 1.
unfoldable pub pre_check_no : State → ℕ → ℕ
pre_check_no m a = refused 2 (outside a m.actors) (refused 7 (not (head_in 1 m a)) taken)

-- Each cause link becomes the store recorded for that receipt if its changed flag is set.
abbrev pub checked_link : State → View → ℕ → ℕ
checked_link m w j = pick (bit w.causes j && (view m (number j 1)).changed) (view m (number j 1)).store (get_or w.links j 0)

-- Phase 2.
abbrev pub checked_view : State → View → View
checked_view m w = phased 2 (relinked (table (checked_link m w) 16) w)

unfoldable pub pre_checked : State → ℕ → State
pre_checked m a = with_view m (head m a) (checked_view m (head_view m a))
