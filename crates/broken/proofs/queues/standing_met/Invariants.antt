-- What is left of the queue from here, with the marks so far, says what all of it says from the start.
use Rattle.std.proofs.Common.{take}
use Rattle.protocol.specs.Words.{joined}
use Rattle.broken.specs.Marks.{place_met}
use Rattle.broken.proofs.Meet.{Meeting}
use Rattle.broken.proofs.queues.standing_met.Given as goal

abbrev pub invariant-loop-i : goal.invariant-loop-i
invariant-loop-i l = Meeting 0 (place_met l.m.views l.a) joined (take l.q.len l.q.views) l.before l.q.len l.i l.marks
