-- What is left of the queues from here, with the marks so far, says what all of them say from the start.
use Rattle.std.proofs.Common.{length}
use Rattle.broken.specs.Marks.{queue_met, queue_marks}
use Rattle.protocol.specs.Slots.{no_queue}
use Rattle.broken.proofs.Meet.{Meeting}
use Rattle.broken.proofs.queues.queues_met.Given as goal

abbrev pub invariant-loop-a : goal.invariant-loop-a
invariant-loop-a l = Meeting no_queue (queue_met l.m.actors l.m.views) queue_marks l.m.queues 0 (length l.m.queues) l.a l.marks
