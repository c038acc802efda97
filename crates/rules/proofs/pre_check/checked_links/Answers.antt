use Rattle.std.proofs.Common.{arith}
use Rattle.rules.proofs.Below.{table_by_index}
use Rattle.rules.proofs.pre_check.checked_links.Goals as goal

pub returns : goal.returns
returns c = table_by_index _ _ 16 0 c.loop-j.invariant.long (λ k h. c.loop-j.invariant.each k (omega (arith, c.loop-j.auto)))
