use Rattle.broken.specs.Rooms.{record_room}
use Rattle.unbroken.proofs.Fill.{Filled}
use Rattle.broken.proofs.flight.record_rooms.Given as goal

abbrev pub invariant-loop-v : goal.invariant-loop-v
invariant-loop-v l = Filled (record_room l.m.views) 32 l.rooms l.v
