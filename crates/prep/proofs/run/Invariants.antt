-- The loop receives the messages that stand there, in their order (Reading). Assumes nothing.
use Rattle.prep.proofs.Reading.{Ran}
use Rattle.prep.proofs.run.Given as goal

abbrev pub invariant-loop : goal.invariant-loop
invariant-loop g l = Ran l.s l.end l.store l.at l.counter
