use Rattle.std.proofs.Common.{get_or, leb}
use Rattle.protocol.specs.Slots.{no_entry, status_number}
use Rattle.broken.proofs.Members.{Joining}
use Rattle.broken.proofs.held.entered.Given as goal

abbrev pub invariant-loop-v : goal.invariant-loop-v
invariant-loop-v l = Joining (λ v. leb 1 (status_number (get_or l.m.entries v no_entry).status)) l.set l.v
