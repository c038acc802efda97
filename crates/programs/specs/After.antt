-- The machine after a book, and the number of the refusal where there is none.
use Rattle.std.specs.Prelude.{ℕ, ◌≡◌, Bool, Result, Ok, Err, List, eqb}
use Rattle.protocol.specs.Words.{pick}
use Rattle.protocol.specs.Run.{Ran, run_of}
use Rattle.protocol.specs.Drain.{Drained, drain_of}
use Rattle.protocol.specs.Setup.{answered, empty_machine}
use Rattle.protocol.specs.Outcome.{Outcome}
use Rattle.protocol.specs.Refusal.{number}
use Rattle.protocol.specs.declared.State.{State}
use Rattle.protocol.specs.declared.refusal.Refusal.{Refusal}

-- the empty machine beside a refusal
abbrev pub told_machine : Result State Refusal → Outcome
told_machine (Ok m) = answered 0 m
told_machine (Err r) = answered (number r) empty_machine

abbrev pub answered_with : ℕ → State → Outcome
answered_with n m = answered n (pick (eqb n 0) m empty_machine)

abbrev pub after_drain : Drained → Outcome
after_drain d = answered_with d.answer d.state

abbrev pub after_run : Ran → Bool → Outcome
after_run r drained = pick (eqb r.answer 0) (pick drained (after_drain (drain_of r.state)) (answered 0 r.state)) (answered r.answer empty_machine)

-- A drain where one is asked for. The run's refusals come first, then the drain's.
unfoldable pub machine_after : List ℕ → Bool → Outcome
machine_after book drained = after_run (run_of book 4096) drained

-- nothing is left out: two results that tell what the definition gives are one
unfoldable pub OneMachine : Type 0
OneMachine = (book : List ℕ) (drained : Bool) (a b : Result State Refusal) → told_machine a ≡ machine_after book drained → told_machine b ≡ machine_after book drained → a ≡ b
