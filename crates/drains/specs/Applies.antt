-- When each refusal number applies to a drain, and what a refused drain gives.
use Rattle.std.specs.Prelude.{ℕ, ◌<◌, ◌≡◌, ◌≢◌, true, false}
use Rattle.protocol.specs.Slots.{is_up}
use Rattle.protocol.specs.Broken.{broken_of}
use Rattle.protocol.specs.declared.State.{State}
use Rattle.protocol.specs.Drain.{drain_of}
use Rattle.unbroken.specs.Lowest.{IsLowest}

pub data Applies (m : State) : ℕ → Type 0 where
  -- 1 broken machine value
  is_broken : broken_of m ≡ true → Applies m 1
  -- 5 store down: any store, for the drain
  is_down : (p : ℕ) → p < m.stores → is_up m p ≡ false → Applies m 5

-- The lowest number that applies is given.
abbrev pub DrainRefusals : Type 0
DrainRefusals = (m : State) → IsLowest (Applies m) (drain_of m).answer

-- A refused drain gives back the machine, with count 0.
abbrev pub RefusedDrain : Type 0
RefusedDrain = (m : State) → (drain_of m).answer ≢ 0 → ((drain_of m).state ≡ m) × ((drain_of m).count ≡ 0)
