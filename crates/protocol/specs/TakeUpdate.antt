-- Step 11, store takes update: store, key, role.
use Rattle.std.specs.Prelude.{ℕ, ◌+◌, ◌-◌, ◌||◌, not, eqb}
use Rattle.protocol.specs.Slots.{number, is_up, shelf, entry, update_copies}
use Rattle.protocol.specs.Stores.{relinked_at, owing_uack}
use Rattle.protocol.specs.Writes.{with_update_copies, with_shelf}
use Rattle.protocol.specs.declared.State.{State}
use Rattle.protocol.specs.declared.Store.{Store}
use Rattle.protocol.specs.Rule.{refused, taken, outside}

-- Store up, a copy in flight.
unfoldable pub take_update_no : State → ℕ → ℕ → ℕ → ℕ
take_update_no m p k r =
    refused 2 (outside p m.stores || outside k m.made || outside r 2)
    (refused 5 (not (is_up m p)) (refused 7 (eqb (update_copies m p (number k r)) 0) taken))

-- The viewlink of the opposite view there becomes the entry's own store, always. Only the working state changes, and a uack is
-- owed for that store, key and role (RULES.md, Checkpoints).
abbrev pub updated_in : Store → (v opposite own : ℕ) → Store
updated_in s v o own = owing_uack (relinked_at s o (own + 1)) v

-- The copy goes.
unfoldable pub update_taken : State → ℕ → ℕ → ℕ → State
update_taken m p k r =
    let v = number k r in
    with_shelf (with_update_copies m p v (update_copies m p v - 1)) p (updated_in (shelf m p) v (number k (1 - r)) (entry m v).own)
