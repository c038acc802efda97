-- The parts written one behind the other are the document. Assumes nothing.
use mathlib.Core.List.{map}
use Rattle.protocol.specs.Chain.{stated}
use Rattle.provn.proofs.Turns.{document_written}
use Rattle.provn.proofs.document.document.Goals as goal

pub returns : goal.returns
returns c =
    document_written (map (stated c.args.m.now) c.args.keys.now) c.new-text.ensures c.append.ensures c.entities.ensures c.activities.ensures
    c.relations.ensures c.append-2.ensures
