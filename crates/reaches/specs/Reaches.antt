-- What the promise of the walk means: it has one result, the keys are those that are reached over the causes, and a refusal has none.
use Rattle.std.specs.Prelude.{ℕ, ◌*◌, ◌-◌, ◌≤◌, ◌<◌, ◌≡◌, ◌≢◌, true, replicate}
use Rattle.protocol.specs.Words.{bit, times}
use Rattle.protocol.specs.Slots.{number, view}
use Rattle.protocol.specs.declared.State.{State}
use Rattle.protocol.specs.Walk.{Walked, walk_of}
pub use Rattle.protocol.specs.Chain.{keys_of}

-- j is one of the causes that the sender record of k holds: 16 bits, bit j for interaction j
pub record Cause (m : State) (k j : ℕ) : Type 0 where
  pub low : j < 16
  pub set : bit (view m (number k 0)).causes j ≡ true

-- i is reached from k over causes
pub data Reach (m : State) : ℕ → ℕ → Type 0 where
  here : {k : ℕ} → Reach m k k
  by : {k j i : ℕ} → Cause m k j → Reach m j i → Reach m k i

pub record Exactly (m : State) (k : ℕ) (r : Walked) : Type 0 where
  pub once : (i : ℕ) → Reach m k i → times i (keys_of r) ≡ 1
  pub only : (i : ℕ) → 1 ≤ times i (keys_of r) → Reach m k i

-- no two results can both satisfy the promise
abbrev pub OneResult : Type 0
OneResult = (m : State) (k : ℕ) (x y : Walked) → x ≡ walk_of m k → y ≡ walk_of m k → x ≡ y

-- an answered walk (so the machine is not broken) has exactly the keys that are reached, each once
abbrev pub AnsweredReaches : Type 0
AnsweredReaches = (m : State) (k : ℕ) (r : Walked) → r ≡ walk_of m k → r.answer ≡ 0 → Exactly m k r

-- no walk has more than sixteen keys
abbrev pub KeysFew : Type 0
KeysFew = (m : State) (k : ℕ) (r : Walked) → r ≡ walk_of m k → r.count ≤ 16

-- a refused walk has no keys, and reports no lookups
abbrev pub RefusedEmpty : Type 0
RefusedEmpty = (m : State) (k : ℕ) (r : Walked) → r ≡ walk_of m k → r.answer ≢ 0 → (r.keys ≡ replicate 16 0) × (r.count ≡ 0) × (r.lookups ≡ 0)

-- A walk that answers m keys has looked up exactly 2m - 1 store entries (RULES.md, Lookups).
abbrev pub LookupsExactly : Type 0
LookupsExactly = (m : State) (k : ℕ) (r : Walked) → r ≡ walk_of m k → r.answer ≡ 0 → r.lookups ≡ 2 * r.count - 1
