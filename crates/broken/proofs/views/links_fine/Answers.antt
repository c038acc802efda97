use Rattle.broken.proofs.Words.{no_cause}
use Rattle.broken.proofs.views.links_fine.Goals as goal

pub returns-then-w-eq0 : goal.returns-then-w-eq0
returns-then-w-eq0 c = record { each = no_cause _ _ _ _ c.if-w-eq0.true c.blank_links.ensures.blank; long = c.blank_links.ensures.long }
