-- What is told of a drain leads back to it, so that what is told alike is the same. Assumes nothing.
use Rattle.std.proofs.Common.{◌≡◌, ℕ, Result, Ok, Err, refl, ap, sym, ◌∙◌}
use Rattle.protocol.specs.Drain.{Drained as Outcome}
use Rattle.protocol.specs.Refusal.{answer_of}
use Rattle.protocol.specs.declared.State.{State}
use Rattle.protocol.specs.declared.refusal.Refusal.{Refusal}
use Rattle.protocol.proofs.Numbers.{giving, refused_back}
use Rattle.drain.specs.Drained.{told_drained, OneDrain}
use Rattle.drain.specs.declared.Drained.{Drained}

abbrev back : Outcome → Drained
back o = record { state = o.state; taken = giving o.count (answer_of o.answer) }

told_back : (m : State) (t : Result ℕ Refusal) → back (told_drained (record { state = m; taken = t })) ≡ record { state = m; taken = t }
told_back m (Ok count) = refl
told_back m (Err r) = ap (λ t. record { state = m; taken = t }) (refused_back 0 r)

pub one_drain : OneDrain
one_drain m a b e f = sym (told_back a.state a.taken) ∙ ap back (e ∙ sym f) ∙ told_back b.state b.taken
