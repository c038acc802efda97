use Rattle.broken.proofs.Members.{join_step}
use Rattle.broken.proofs.held.entered.Goals as goal

pub loop-v-preserved : goal.loop-v-preserved
loop-v-preserved c = join_step c.loop-v.invariant c.loop-v-test.true (simp c.has_entry.ensures at c.joined_if-set.ensures)
