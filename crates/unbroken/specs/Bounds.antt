-- Every bound that a rule of a step needs of a machine: indices, counts, room in a queue.
use Rattle.std.specs.Prelude.{ℕ, ◌≤◌, ◌<◌, ◌≡◌, get_or}
use Rattle.protocol.specs.Slots.{number, queue, view, entry}
use Rattle.protocol.specs.declared.State.{State}

pub record Bounds (m : State) : Type 0 where
  pub stores8 : m.stores ≤ 8
  pub actors8 : m.actors ≤ 8
  pub made16 : m.made ≤ 16
  -- by actor: the head is a view, and a sender's queue has room for a view of a new interaction
  pub head_in32 : (a : ℕ) → a < 8 → get_or (queue m a).views 0 0 < 32
  pub send_room : (a : ℕ) → a < 8 → m.made < 16 → (queue m a).len < 16
  -- by interaction: the receiver's queue has room for a view that is not yet received
  pub receive_room : (k : ℕ) → k < m.made → (view m (number k 1)).phase ≡ 0 → (queue m (view m (number k 1)).actor).len < 16
  -- by view
  pub actor_in8 : (v : ℕ) → v < 32 → (view m v).actor < 8
  pub store_in8 : (v : ℕ) → v < 32 → (view m v).store < 8
  pub viewlink_in8 : (v : ℕ) → v < 32 → (view m v).viewlink < 8
  pub destination_in8 : (v : ℕ) → v < 32 → (entry m v).destination < 8
  pub own_in8 : (v : ℕ) → v < 32 → (entry m v).own < 8
