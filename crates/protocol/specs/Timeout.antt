-- Step 5, timeout: actor, store.
use Rattle.std.specs.Prelude.{ℕ, ◌+◌, Bool, true, ◌&&◌, ◌||◌, not, leb, eqb}
use Rattle.protocol.specs.Words.{pick, bit}
use Rattle.protocol.specs.Views.{rewritten}
use Rattle.protocol.specs.Slots.{list}
use Rattle.protocol.specs.Writes.{with_view}
use Rattle.protocol.specs.declared.State.{State}
use Rattle.protocol.specs.declared.View.{View}
use Rattle.protocol.specs.Rule.{refused, taken, outside, head, head_view, head_in}

-- it names the current store
abbrev pub is_current : ℕ → View → Bool
is_current p w = eqb w.store p

-- .. and has been tried three times
abbrev pub is_spent : ℕ → View → Bool
is_spent p w = is_current p w && leb 3 w.tries

-- Head in phase 3; the store is in the list. 8 for the current store is given only at three tries.
unfoldable pub timeout_no : State → ℕ → ℕ → ℕ
timeout_no m a p =
    refused 2 (outside a m.actors || outside p m.stores)
    (refused 7 (not (head_in 3 m a)) (refused 8 (not (bit (list m a) p) || is_spent p (head_view m a)) taken))

-- Naming the current store adds one to the tries; moving to another store sets the number back to 0.
abbrev pub tries_after : ℕ → View → ℕ
tries_after p w = pick (is_current p w) (w.tries + 1) 0

-- .. and sets the changed flag, which naming the current store doesn't
abbrev pub changed_after : ℕ → View → Bool
changed_after p w = pick (is_current p w) w.changed true

-- The store becomes current, or stays so; phase 2.
abbrev pub timed_view : ℕ → View → View
timed_view p w = rewritten 2 p (changed_after p w) (tries_after p w) w.links w

unfoldable pub timed_out : State → ℕ → ℕ → State
timed_out m a p = with_view m (head m a) (timed_view p (head_view m a))
