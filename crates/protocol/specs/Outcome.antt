-- What a call hands back: the state, and a number, 0 for taken or the refusal's.
use Rattle.std.specs.Prelude.{ℕ}
use Rattle.protocol.specs.declared.State.{State}

pub record Outcome : Type 0 where
  pub state : State
  pub answer : ℕ
