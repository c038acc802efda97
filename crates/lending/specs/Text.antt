-- Text in the making, and what writing does to it.
use Rattle.std.specs.Prelude.{ℕ, List, [], ◌∷◌, ◌++◌, length, ltb}
use Rattle.protocol.specs.Words.{pick}

-- one byte more, where there is room
unfoldable pub put_of : ℕ → List ℕ → ℕ → List ℕ
put_of room text b = pick (ltb (length text) room) (text ++ (b ∷ [])) text

-- bytes, one after another
unfoldable pub wrote : ℕ → List ℕ → List ℕ → List ℕ
wrote room text [] = text
wrote room text (b ∷ bytes) = wrote room (put_of room text b) bytes
