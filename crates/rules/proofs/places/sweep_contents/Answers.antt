use Rattle.std.proofs.Common.{arith}
use Rattle.rules.proofs.Written.{all_written}
use Rattle.rules.proofs.places.sweep_contents.Goals as goal

pub returns : goal.returns
returns c = all_written c.loop-v.invariant (omega arith)
