use Rattle.std.proofs.Common.{arith}
use Rattle.rules.proofs.Below.{table_by_index}
use Rattle.runs.proofs.heading.column.Goals as goal

pub returns : goal.returns
returns c = table_by_index _ _ 8 0 c.loop-a.invariant.long (λ k h. c.loop-a.invariant.each k (omega (arith, c.loop-a.auto)))
