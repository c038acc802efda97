-- The tally of the keys met leaves room for a key that is not, and holds when that one is added. By induction on the list; assumes nothing.
use Prim.Native.Nat.{ℕ, zero, suc, ◌+◌, ◌≤◌, ◌<◌}
use mathlib.Core.Path.{◌≡◌, refl, ap}
use mathlib.Core.Bool.{Bool, true, false}
use mathlib.Core.List.{List, [], ◌∷◌}
use native.Mathlib.Omega.{arith}
use lib.ListN.{length, get_or, set, length-set}
use Rattle.std.proofs.Common.{rules}
use Rattle.protocol.specs.Words.{one}
use Rattle.protocol.specs.Walk.{Met, added, unmet}
use Rattle.reaches.specs.Tally.{Tally, ones}

one_low : (b : Bool) → one b ≤ 1
one_low true = omega arith
one_low false = omega arith

pub ones_low : (l : List Bool) → ones l ≤ length l
unfolding ones
ones_low [] = omega arith
ones_low (b ∷ l) = omega (arith, ones_low l, one_low b)

pub ones_room : (l : List Bool) (k : ℕ) → k < length l → get_or l k false ≡ false → ones l < length l
unfolding ones
ones_room [] k h e = let z : ⊥ = omega arith in absurd z
ones_room (b ∷ l) zero h e = omega (arith, ones_low l, ap one e)
ones_room (b ∷ l) (suc k) h e = omega (arith, ones_room l k (omega arith) e, one_low b)

pub ones_set : (l : List Bool) (k : ℕ) → k < length l → get_or l k false ≡ false → ones (set l k true) ≡ ones l + 1
unfolding ones
ones_set [] k h e = let z : ⊥ = omega arith in absurd z
ones_set (b ∷ l) zero h e = omega (arith, ap one e)
ones_set (b ∷ l) (suc k) h e = omega (arith, ones_set l k (omega arith) e)

-- at most sixteen keys
pub few : {w : Met} → Tally w → w.count ≤ 16
few {w} t = omega (arith, t.long, t.counted, ones_low w.met)

-- an unmet key has room
pub room : {w : Met} {k : ℕ} → Tally w → k < 16 → get_or w.met k false ≡ false → w.count < 16
room {w} {k} t h e = omega (arith, t.long, t.counted, ones_room w.met k (omega (arith, t.long)) e)

pub tally_added : (w : Met) (k : ℕ) → Tally w → k < 16 → get_or w.met k false ≡ false → Tally (added w k)
tally_added w k e f g = search (rules, length-set, ones_set)

pub tally_unmet : Tally unmet
unfolding ones
tally_unmet = record { long = refl; counted = refl }
