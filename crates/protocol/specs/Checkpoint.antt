-- Step 17, checkpoint: store.
use Rattle.std.specs.Prelude.{ℕ, not, List}
use Rattle.protocol.specs.Words.{pick, bit}
use Rattle.protocol.specs.Slots.{is_up, shelf}
use Rattle.protocol.specs.Stores.{saved}
use Rattle.protocol.specs.Writes.{with_shelf, with_acks, with_uacks}
use Rattle.protocol.specs.Sweep.{on_places, swept}
use Rattle.protocol.specs.declared.State.{State}
use Rattle.protocol.specs.Rule.{refused, taken, outside, more}

-- Store up; refused as a crash is.
unfoldable pub checkpoint_no : State → ℕ → ℕ
checkpoint_no m p = refused 2 (outside p m.stores) (refused 5 (not (is_up m p)) taken)

-- one copy for each owed note of the store
abbrev pub sent_owed : ℕ → ℕ → List ℕ → List ℕ
sent_owed owed p l = on_places 32 p (λ v n. pick (bit owed v) (more n) n) 0 l

-- The working state becomes the checkpointed one, and one copy goes off for each owed note, which clears it.
unfoldable pub checkpointed : State → ℕ → State
checkpointed m p =
    swept
    (with_uacks
    (with_acks (with_shelf m p (saved (shelf m p))) (sent_owed (shelf m p).acksowed p m.acks))
    (sent_owed (shelf m p).uacksowed p m.uacks))
    p
