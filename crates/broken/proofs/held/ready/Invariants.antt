use Rattle.std.proofs.Common.{get_or, leb}
use Rattle.protocol.specs.Slots.{no_view}
use Rattle.broken.proofs.Members.{Joining}
use Rattle.broken.proofs.held.ready.Given as goal

abbrev pub invariant-loop-v : goal.invariant-loop-v
invariant-loop-v l = Joining (λ v. leb 2 (get_or l.m.views v no_view).phase) l.set l.v
