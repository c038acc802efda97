use Rattle.protocol.specs.Setup.{of_actors}
use Rattle.unbroken.proofs.Fill.{Filled}
use Rattle.broken.proofs.fresh.rows.Given as goal

abbrev pub invariant-loop-a : goal.invariant-loop-a
invariant-loop-a l = Filled (of_actors l.actors l.l) 8 l.kept l.a
