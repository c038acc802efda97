-- What is told of a run leads back to it, so that what is told alike is the same. Assumes nothing.
use Rattle.std.proofs.Common.{◌≡◌, Result, Ok, Err, refl, ap, sym, ◌∙◌}
use Rattle.protocol.specs.Run.{Ran as Outcome}
use Rattle.protocol.specs.Refusal.{answer_of}
use Rattle.protocol.specs.declared.State.{State}
use Rattle.protocol.specs.declared.refusal.Refusal.{Refusal}
use Rattle.protocol.proofs.Numbers.{giving, refused_back}
use Rattle.runs.specs.Ran.{ran_told, told_run, OneRun}
use Rattle.runs.specs.declared.Counts.{Counts}
use Rattle.runs.specs.declared.Ran.{Ran}

abbrev counts : Outcome → Counts
counts o = record { steps = o.steps; taken = o.taken }

abbrev back : Outcome → Ran
back o = record { state = o.state; ran = giving (counts o) (answer_of o.answer) }

told_back : (m : State) (t : Result Counts Refusal) → back (told_run (record { state = m; ran = t })) ≡ record { state = m; ran = t }
told_back m (Ok c) = refl
told_back m (Err r) = ap (λ t. record { state = m; ran = t }) (refused_back (counts (ran_told m (Err r))) r)

pub one_run : OneRun
one_run book room a b e f = sym (told_back a.state a.ran) ∙ ap back (e ∙ sym f) ∙ told_back b.state b.ran
