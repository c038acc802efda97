-- The loop leaves at the first queue that breaks the machine, and marks the views of those before. Assumes nothing.
use Rattle.std.proofs.Common.{refl, sym}
use Rattle.broken.proofs.Meet.{meet_start, meet_step, meet_end, meet_marks}
use Rattle.broken.proofs.queues.queues_met.Goals as goal

pub loop-a-init : goal.loop-a-init
loop-a-init c = meet_start _ _ _ _ _ _ refl

pub loop-a-preserved : goal.loop-a-preserved
loop-a-preserved c = meet_step c.loop-a.invariant c.loop-a-test.true c.in_ok-marks.ensures.some.0 c.in_ok-marks.ensures.some.1

pub returns-clause-some : goal.returns-clause-some
returns-clause-some c = (sym (meet_end c.loop-a.invariant c.loop-a-test.false), meet_marks c.loop-a.invariant c.loop-a-test.false)
