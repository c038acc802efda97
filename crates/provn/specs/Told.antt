-- What a call tells, as the definitions have it.
use Rattle.std.specs.Prelude.{ℕ, ◌≡◌, List, Result, Ok, Err}
use Rattle.protocol.specs.Lent.{Written}
use Rattle.protocol.specs.Provn.{provn_of}
use Rattle.protocol.specs.Refusal.{number}
use Rattle.protocol.specs.declared.State.{State}
use Rattle.protocol.specs.declared.refusal.Refusal.{Refusal}

-- the count of bytes, 0 where it is refused
abbrev pub told_written : Result ℕ Refusal → Written
told_written (Ok n) = record { answer = 0; len = n }
told_written (Err r) = record { answer = number r; len = 0 }

-- nothing is left out: two results that tell what the definition gives are one
unfoldable pub OneWritten : Type 0
OneWritten = (m : State) (key : ℕ) (buffer : List ℕ) (a b : Result ℕ Refusal) → told_written a ≡ provn_of m key buffer → told_written b ≡ provn_of m key buffer → a ≡ b
