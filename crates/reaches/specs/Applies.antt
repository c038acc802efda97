-- When each refusal number applies to a walk: over what it looks up.
use Rattle.std.specs.Prelude.{ℕ, zero, suc, ◌+◌, ◌-◌, ◌≤◌, ◌≡◌, Bool, true, false, ◌||◌, eqb}
use mathlib.Core.List.{List, [], ◌∷◌, ◌++◌, map, Memᴰ}
use Rattle.protocol.specs.Words.{pick, bit}
use Rattle.protocol.specs.Slots.{number, view, is_lasting}
use Rattle.protocol.specs.Broken.{broken_of}
use Rattle.protocol.specs.Closed.{closed_of}
use Rattle.protocol.specs.declared.State.{State}
use Rattle.protocol.specs.Walk.{causes_held, hop_of, walk_of}
use Rattle.unbroken.specs.Lowest.{IsLowest}
use Rattle.reaches.specs.Reaches.{keys_of}

-- a sender record that the walk looks up: its key, and the link by which it goes there, 0 for none and p + 1 for store p
pub record Lookup : Type 0 where
  pub key : ℕ
  pub link : ℕ

-- whether a key was met
unfoldable pub met : List Lookup → ℕ → Bool
met [] k = false
met (x ∷ l) k = eqb x.key k || met l k

-- look up each of the n numbers from j that the set has, rising
unfoldable pub each_of : (ℕ → List Lookup → List Lookup) → ℕ → ℕ → ℕ → List Lookup → List Lookup
each_of look causes zero j l = l
each_of look causes (suc n) j l = each_of look causes n (j + 1) (pick (bit causes j) (look j l) l)

-- a sender record is looked up, then each of its causes that wasn't met, as the store holds them: by the cause link to the receipt,
-- by that viewlink to the opposite sender record
unfoldable pub looked : ℕ → State → ℕ → ℕ → List Lookup → List Lookup
looked zero m k link l = l
looked (suc depth) m k link l =
    each_of (λ j i. pick (met i j) i (looked depth m j (hop_of m k link j) i)) (causes_held m k link) k 0 (l ++ (record { key = k; link = link } ∷ []))

-- what the walk back from a key looks up, in the order first met
abbrev pub lookups : State → ℕ → List Lookup
lookups m k = looked 16 m k ((view m (number k 0)).store + 1) []

-- a key it meets isn't closed, or an entry or link it needs is missing
pub data Unfound (m : State) (x : Lookup) : Type 0 where
  is_open : closed_of m x.key ≡ false → Unfound m x
  no_link : x.link ≡ 0 → Unfound m x
  no_entry : is_lasting m (x.link - 1) (number x.key 0) ≡ false → Unfound m x

pub data Applies (m : State) (k : ℕ) : ℕ → Type 0 where
  -- 1 broken machine value
  is_broken : broken_of m ≡ true → Applies m k 1
  -- 2 key not in this machine
  is_outside : m.made ≤ k → Applies m k 2
  -- 13 walk meets an open interaction, or misses an entry or link
  is_unfound : (x : Lookup) → Memᴰ x (lookups m k) → Unfound m x → Applies m k 13

-- The lowest number that applies is given.
abbrev pub WalkRefusals : Type 0
WalkRefusals = (m : State) (k : ℕ) → IsLowest (Applies m k) (walk_of m k).answer

-- an answered walk has the keys that it looked up, in that order
abbrev pub KeysLookedUp : Type 0
KeysLookedUp = (m : State) (k : ℕ) → (walk_of m k).answer ≡ 0 → keys_of (walk_of m k) ≡ map (λ (x : Lookup). x.key) (lookups m k)
