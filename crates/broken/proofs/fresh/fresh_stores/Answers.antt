use Rattle.std.proofs.Common.{rules}
use Rattle.unbroken.proofs.Fill.{fill_start, fill_step}
use Rattle.broken.proofs.fresh.fresh_stores.Goals as goal

pub loop-p-init : goal.loop-p-init
loop-p-init c = fill_start _ _ _ (search rules)

pub loop-p-preserved : goal.loop-p-preserved
loop-p-preserved c = fill_step c.loop-p.invariant c.loop-p-test.true c.fresh_store.ensures
