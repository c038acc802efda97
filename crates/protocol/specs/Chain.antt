-- A chain: the interactions that a walk meets, in walk order, each with its sender and its causes.
use Rattle.std.specs.Prelude.{ℕ, List, map, take}
use Rattle.protocol.specs.Slots.{number, view}
use Rattle.protocol.specs.Walk.{Walked, walk_of}
use Rattle.protocol.specs.declared.State.{State}

-- an interaction as its sender record states it: its key, who sent it, and its causes, bit k for interaction k
pub record Interaction : Type 0 where
  pub key : ℕ
  pub sender : ℕ
  pub causes : ℕ

-- an interaction as its sender record states it. (Whatever store the walk finds that record in holds the same: a machine
-- in which one doesn't is broken.)
abbrev pub stated : State → ℕ → Interaction
stated m k = record { key = k; sender = (view m (number k 0)).actor; causes = (view m (number k 0)).causes }

-- the keys that a walk answers, in the order first met
abbrev pub keys_of : Walked → List ℕ
keys_of r = take r.count r.keys

unfoldable pub chain_of : State → ℕ → List Interaction
chain_of m k = map (stated m) (keys_of (walk_of m k))
