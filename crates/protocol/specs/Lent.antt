-- What a call does to what its caller lends, in the words that all calls share.
use Rattle.std.specs.Prelude.{ℕ, List, ◌++◌, ltb, eqb, length, drop}
use Rattle.protocol.specs.Words.{pick}

-- what writing into a lent buffer gives: its number and the count of bytes, 0 where it is refused
pub record Written : Type 0 where
  pub answer : ℕ
  pub len : ℕ

-- one refusal before another
abbrev pub first : ℕ → ℕ → ℕ
first n next = pick (eqb n 0) next n

-- a lent value: written where nothing is refused, and else as it was
abbrev pub lent : {A : Type 0} → ℕ → A → A → A
lent n written was = pick (eqb n 0) written was

-- 14 exactly if the bytes are more than the buffer has
unfoldable pub short_no : List ℕ → List ℕ → ℕ
short_no bytes buffer = pick (ltb (length buffer) (length bytes)) 14 0

-- bytes from the start of a buffer on; the bytes behind stay
unfoldable pub over : List ℕ → List ℕ → List ℕ
over bytes buffer = bytes ++ drop (length bytes) buffer
