use Rattle.std.proofs.Common.{rules}
use Rattle.broken.proofs.Words.{blank_is_equal}
use Rattle.broken.proofs.held.blank_links.Goals as goal

pub returns : goal.returns
returns c = record { blank = blank_is_equal _ (search rules) (search rules); long = search rules }
