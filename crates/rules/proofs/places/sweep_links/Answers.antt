use Rattle.std.proofs.Common.{arith}
use Rattle.rules.proofs.Written.{all_written}
use Rattle.rules.proofs.places.sweep_links.Goals as goal

pub returns : goal.returns
returns c = all_written c.loop-k.invariant (omega arith)
