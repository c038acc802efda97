-- When each refusal number applies to a book.
use Rattle.std.specs.Prelude.{ℕ, ◌<◌, ◌≡◌, ◌↔◌, true, List, length}
use Rattle.std.proofs.Math.Pow.{are_bytes}
use Rattle.protocol.specs.Book.{Reading, reading_of}
use Rattle.protocol.specs.Run.{run_of}
use Rattle.unbroken.specs.Unbroken.{LegalSetup}
use Rattle.unbroken.specs.Lowest.{IsLowest}
use Rattle.reads.specs.Reading.{IsBook}

-- the setup of a reading: 2 to 8 stores and actors, each home and the bits of each list name stores, a home is in its list, and a list has
-- two stores or more
abbrev pub LegalBook : Reading → Type 0
LegalBook b = LegalSetup b.stores (length b.homes) b.homes b.lists

pub data Applies (s : List ℕ) (room : ℕ) : ℕ → Type 0 where
  -- 10 book malformed
  is_malformed : (IsBook s → ⊥) → Applies s room 10
  -- 11 setup illegal
  is_illegal : (LegalBook (reading_of s) → ⊥) → Applies s room 11
  -- 12 answer buffer shorter than the steps
  is_short : room < length (reading_of s).steps → Applies s room 12

-- The lowest number that applies is given.
abbrev pub BookRefusals : Type 0
BookRefusals = (s : List ℕ) (room : ℕ) → are_bytes s ≡ true → IsLowest (Applies s room) (run_of s room).answer

-- 10 is given exactly if the bytes are those of no book
abbrev pub MalformedExactly : Type 0
MalformedExactly = (s : List ℕ) (room : ℕ) → are_bytes s ≡ true → ((run_of s room).answer ≡ 10) ↔ (IsBook s → ⊥)
