-- As many keys as are met: what leaves room for a key that is not. And as many lookups as these take.
use Rattle.std.specs.Prelude.{ℕ, ◌+◌, ◌*◌, ◌≡◌, Bool, true, List, [], ◌∷◌, length}
use Rattle.protocol.specs.Words.{one}
use Rattle.protocol.specs.Walk.{Met}

-- how many flags of a list are set
unfoldable pub ones : List Bool → ℕ
ones [] = 0
ones (b ∷ l) = one b + ones l

pub record Tally (w : Met) : Type 0 where
  pub long : length w.met ≡ 16
  pub counted : w.count ≡ ones w.met

-- one lookup for the first key and two for each behind it, while nothing is missing
abbrev pub Looked : Met → Type 0
Looked w = w.fine ≡ true → w.lookups + 1 ≡ 2 * w.count
