use Rattle.std.proofs.Common.{rules}
use Rattle.unbroken.proofs.Fill.{fill_step}
use Rattle.broken.proofs.flight.record_rooms.Goals as goal
use Rattle.broken.proofs.flight.record_rooms.Goals.{then-m-v-ge2, else-m-v-ge2}

pub loop-v-preserved : goal.loop-v-preserved
loop-v-preserved c = fill_step c.loop-v.invariant c.loop-v-test.true (elim c.if-m-v-ge2.branch [ then-m-v-ge2 w ↦ search rules | else-m-v-ge2 w ↦ search rules ])
