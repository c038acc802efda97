-- What a walk gives, as the definitions have it; and what it has met so far.
use Rattle.std.specs.Prelude.{ℕ, ◌≡◌, ◌-◌, Bool, true, false, Result, Ok, Err, List, ◌++◌, length, set, replicate, fold}
use Rattle.protocol.specs.Refusal.{number}
use Rattle.protocol.specs.Walk.{Met, Walked, refused_walk, walk_of}
use Rattle.protocol.specs.declared.State.{State}
use Rattle.protocol.specs.declared.refusal.Refusal.{Refusal}
use Rattle.walk.specs.declared.met.Walk.{Walk}

-- zeros behind the last key, to sixteen
abbrev pub padded : List ℕ → List ℕ
padded keys = keys ++ replicate (16 - length keys) 0

abbrev pub told_walk : Result Walk Refusal → Walked
told_walk (Ok w) = record { answer = 0; keys = padded w.keys.items; count = length w.keys.items; lookups = w.lookups }
told_walk (Err r) = refused_walk (number r)

-- by key, whether it is one of these
unfoldable pub marked : List ℕ → List Bool
marked keys = fold (λ l k. set l k true) (replicate 16 false) keys

-- nothing is missing so far
abbrev pub told_met : Walk → Met
told_met w = record { fine = true; met = marked w.keys.items; keys = padded w.keys.items; count = length w.keys.items; lookups = w.lookups }

-- nothing is left out: two results that tell what the definition gives are one
unfoldable pub OneWalk : Type 0
OneWalk = (m : State) (key : ℕ) (a b : Result Walk Refusal) → told_walk a ≡ walk_of m key → told_walk b ≡ walk_of m key → a ≡ b
