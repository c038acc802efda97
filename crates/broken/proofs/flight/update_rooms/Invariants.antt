use Rattle.broken.specs.Rooms.{update_room}
use Rattle.unbroken.proofs.Fill.{Filled}
use Rattle.broken.proofs.flight.update_rooms.Given as goal

abbrev pub invariant-loop-v : goal.invariant-loop-v
invariant-loop-v l = Filled (update_room l.m.entries) 32 l.rooms l.v
