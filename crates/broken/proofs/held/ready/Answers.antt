use Rattle.broken.proofs.Members.{join_step}
use Rattle.broken.proofs.held.ready.Goals as goal

pub loop-v-preserved : goal.loop-v-preserved
loop-v-preserved c = join_step c.loop-v.invariant c.loop-v-test.true c.joined_if-set.ensures
