-- The loop passes the messages that stand there (Reading). Assumes nothing.
use Rattle.prep.proofs.Reading.{Tested}
use Rattle.prep.proofs.well_formed.Given as goal

abbrev pub invariant-loop : goal.invariant-loop
invariant-loop l = Tested l.s l.end l.at l.counter
