-- What a drain gives, as the definitions have it.
use Rattle.std.specs.Prelude.{ℕ, ◌≡◌, Result, Ok, Err}
use Rattle.protocol.specs.Refusal.{number}
use Rattle.protocol.specs.Drain.{drain_of, Drained as Outcome}
use Rattle.protocol.specs.declared.State.{State}
use Rattle.protocol.specs.declared.refusal.Refusal.{Refusal}
use Rattle.drain.specs.declared.Drained.{Drained}

-- 0 steps where it is refused
abbrev pub taken_told : Result ℕ Refusal → ℕ × ℕ
taken_told (Ok count) = (0, count)
taken_told (Err r) = (number r, 0)

abbrev pub told_drained : Drained → Outcome
told_drained d = record { state = d.state; answer = (taken_told d.taken).0; count = (taken_told d.taken).1 }

-- nothing is left out: two results that tell what the definition gives are one
abbrev pub OneDrain : Type 0
OneDrain = (m : State) (a b : Drained) → told_drained a ≡ drain_of m → told_drained b ≡ drain_of m → a ≡ b
