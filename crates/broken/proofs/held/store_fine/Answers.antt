use Rattle.std.proofs.Common.{rules}
use Rattle.protocol.specs.Broken.{viewlinks_fine}
use Rattle.broken.proofs.held.store_fine.Goals as goal

pub returns : goal.returns
unfolding viewlinks_fine
returns c = search rules
