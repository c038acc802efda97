use Rattle.std.proofs.Common.{rules}
use Rattle.unbroken.proofs.Fill.{fill_step}
use Rattle.broken.proofs.flight.update_rooms.Goals as goal
use Rattle.broken.proofs.flight.update_rooms.Goals.{then-has_entry, else-has_entry}

pub loop-v-preserved : goal.loop-v-preserved
loop-v-preserved c = fill_step c.loop-v.invariant c.loop-v-test.true (elim c.if-has_entry.branch [ then-has_entry w ↦ search rules | else-has_entry w ↦ search rules ])
