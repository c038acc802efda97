-- The length, as it was proved; search proves the other laws. Assumes nothing.
use Rattle.listing.proofs.Whole.{listing_length}
use Rattle.listing.proofs.laws.Goals as goal

pub returns-clause-length : goal.returns-clause-length
returns-clause-length c = listing_length
