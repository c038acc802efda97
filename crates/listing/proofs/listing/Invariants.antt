-- The lines of the views passed stand behind the counts. Assumes nothing.
use Rattle.std.proofs.Common.{◌≡◌}
use Rattle.lending.specs.Text.{wrote}
use Rattle.protocol.specs.Listing.{lines_to}
use Rattle.listing.proofs.listing.Given as goal

abbrev pub invariant-loop-v : goal.invariant-loop-v
invariant-loop-v l = l.text.items ≡ wrote 1024 l.initial.text.items (lines_to l.m l.v)
