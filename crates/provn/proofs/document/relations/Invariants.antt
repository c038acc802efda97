-- What is left to write behind the text are the lines of the interactions from this one on. Assumes nothing.
use Rattle.std.proofs.Common.{◌≡◌}
use Rattle.protocol.specs.Provn.{relations}
use Rattle.provn.proofs.Turns.{wrote_lines, chain_from}
use Rattle.provn.proofs.document.relations.Given as goal

abbrev pub invariant-loop-key : goal.invariant-loop-key
invariant-loop-key l = wrote_lines l.text.items (relations (chain_from l.m l.keys l.key-index)) ≡ wrote_lines l.initial.text.items (relations (chain_from l.m l.keys 0))
