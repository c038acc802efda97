use Rattle.std.proofs.Common.{rules}
use Rattle.broken.proofs.Words.{same_is_equal}
use Rattle.broken.proofs.held.same_links.Goals as goal

pub returns : goal.returns
returns c = same_is_equal _ _ (search rules) (search rules) (search rules)
