-- The bytes of a book have one reading, and every reading within range has its bytes.
use Rattle.std.specs.Prelude.{ℕ, ◌≤◌, ◌<◌, ◌≡◌, ◌↔◌, true, length}
use mathlib.Core.List.{List, Memᴰ}
use Rattle.std.proofs.Math.Pow.{are_bytes}
use Rattle.protocol.specs.declared.Step.{Step}
use Rattle.protocol.specs.declared.Step.TheVariants.{Send}
use Rattle.protocol.specs.Book.{Reading, well_formed, reading_of}
use Rattle.protocol.specs.Write.{written_book}
use Rattle.keeps.specs.Applies.{Thing, value_of, Names}

-- reading is a function of the bytes
abbrev pub ReadsAlike : Type 0
ReadsAlike = (s t : List ℕ) → s ≡ t → reading_of s ≡ reading_of t

-- what is read from a well-formed book, written, is the same bytes again
abbrev pub WritesAgain : Type 0
WritesAgain = (s : List ℕ) → are_bytes s ≡ true → well_formed s ≡ true → written_book (reading_of s) ≡ s

-- so two well-formed books with the same reading are the same bytes
abbrev pub OneReading : Type 0
OneReading =
    (s t : List ℕ) → are_bytes s ≡ true → are_bytes t ≡ true → well_formed s ≡ true → well_formed t ≡ true
    → reading_of s ≡ reading_of t → s ≡ t

-- one byte each, but data four bytes and causes two
pub record StepInRange (s : Step) : Type 0 where
  pub bytes : (x : Thing) → Names s x → value_of x < 256
  pub wide : (from to own word causes : ℕ) → s ≡ Send from to own word causes → (word < 4294967296) × (causes < 65536)

-- counts of one byte for stores and actors, each actor with a home and a list of one byte, and at most 4,096 steps
pub record InRange (b : Reading) : Type 0 where
  pub stores : b.stores < 256
  pub actors : length b.homes < 256
  pub rows : length b.lists ≡ length b.homes
  pub homes : are_bytes b.homes ≡ true
  pub lists : are_bytes b.lists ≡ true
  pub few : length b.steps ≤ 4096
  pub steps : (s : Step) → Memᴰ s b.steps → StepInRange s

-- some bytes are those of a book
abbrev pub IsBook : List ℕ → Type 0
IsBook s = (b : Reading) × InRange b × (written_book b ≡ s)

-- a reading within range, written, is bytes, is well-formed, and is read as itself
pub record Itself (b : Reading) : Type 0 where
  pub bytes : are_bytes (written_book b) ≡ true
  pub formed : well_formed (written_book b) ≡ true
  pub read : reading_of (written_book b) ≡ b

abbrev pub ReadAsItself : Type 0
ReadAsItself = (b : Reading) → InRange b → Itself b

-- so a book is well-formed exactly if it has the bytes of a reading within range
abbrev pub FormedExactly : Type 0
FormedExactly = (s : List ℕ) → are_bytes s ≡ true → (well_formed s ≡ true) ↔ IsBook s

-- no well-formed book is longer than 41,474 bytes: 255 actors and 4,096 sends
abbrev pub BookIsShort : Type 0
BookIsShort = (s : List ℕ) → are_bytes s ≡ true → well_formed s ≡ true → length s ≤ 41474
