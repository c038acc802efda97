-- What the words of a test tell, `||` and `pick`, where the library says it of none. Assumes nothing.
use mathlib.Core.Path.{◌≡◌, refl}
use mathlib.Core.Bool.{Bool, true, false, ◌||◌, false≢true, true≢false}
use Rattle.protocol.specs.Words.{pick}

pub or_else : (a b : Bool) → a || b ≡ true → a ≡ false → b ≡ true
or_else true b e h = absurd (true≢false h)
or_else false b e h = e

pub or_of : (a b : Bool) → (a ≡ false → b ≡ true) → a || b ≡ true
or_of true b h = refl
or_of false b h = h refl

pub pick_then : (c a b : Bool) → pick c a b ≡ true → c ≡ true → a ≡ true
pick_then true a b e h = e
pick_then false a b e h = absurd (false≢true h)

pub pick_else : (c a b : Bool) → pick c a b ≡ true → c ≡ false → b ≡ true
pick_else true a b e h = absurd (true≢false h)
pick_else false a b e h = e

pub pick_of : (c a b : Bool) → (c ≡ true → a ≡ true) → (c ≡ false → b ≡ true) → pick c a b ≡ true
pick_of true a b f g = f refl
pick_of false a b f g = g refl

-- by cases on a test
pub by_test : {P : Type 0} (c : Bool) → (c ≡ true → P) → (c ≡ false → P) → P
by_test true f g = f refl
by_test false f g = g refl
