-- What is told of the machine leads back to it, so that what is told alike is the same. Assumes nothing.
use Rattle.std.proofs.Common.{◌≡◌, Result, Ok, Err, refl, ap, sym, ◌∙◌}
use Rattle.protocol.specs.Outcome.{Outcome}
use Rattle.protocol.specs.Refusal.{answer_of}
use Rattle.protocol.specs.Setup.{empty_machine}
use Rattle.protocol.specs.declared.State.{State}
use Rattle.protocol.specs.declared.refusal.Refusal.{Refusal}
use Rattle.protocol.proofs.Numbers.{giving, refused_back}
use Rattle.programs.specs.After.{told_machine, OneMachine}

abbrev back : Outcome → Result State Refusal
back o = giving o.state (answer_of o.answer)

told_back : (r : Result State Refusal) → back (told_machine r) ≡ r
told_back (Ok m) = refl
told_back (Err r) = refused_back empty_machine r

pub one_machine : OneMachine
unfolding OneMachine
one_machine book drained a b e f = sym (told_back a) ∙ ap back (e ∙ sym f) ∙ told_back b
