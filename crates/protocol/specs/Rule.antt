-- How a rule is written: the numbers that refuse it, in their order, then the machine that it gives.
use Rattle.std.specs.Prelude.{ℕ, ◌+◌, Bool, ◌&&◌, not, get_or, ltb, leb, eqb}
use Rattle.protocol.specs.Words.{pick}
use Rattle.protocol.specs.Slots.{queue, view}
use Rattle.protocol.specs.Setup.{answered}
use Rattle.protocol.specs.declared.State.{State}
use Rattle.protocol.specs.declared.View.{View}
use Rattle.protocol.specs.Outcome.{Outcome}

-- the number n where the test holds, else what the rest says
abbrev pub refused : ℕ → Bool → ℕ → ℕ
refused n test rest = pick test n rest

abbrev pub taken : ℕ
taken = 0

-- a refused step gives back the machine unchanged
abbrev pub decided : ℕ → State → State → Outcome
decided n m after = pick (eqb n 0) (answered 0 after) (answered n m)

-- not in this machine
abbrev pub outside : ℕ → ℕ → Bool
outside x count = leb count x

-- the head of an actor's queue
abbrev pub head : State → ℕ → ℕ
head m a = get_or (queue m a).views 0 0

abbrev pub head_view : State → ℕ → View
head_view m a = view m (head m a)

abbrev pub head_in : ℕ → State → ℕ → Bool
head_in phase m a = not (eqb (queue m a).len 0) && eqb (head_view m a).phase phase

-- one copy more; a sixteenth is lost at sending
abbrev pub more : ℕ → ℕ
more n = pick (ltb n 15) (n + 1) n
