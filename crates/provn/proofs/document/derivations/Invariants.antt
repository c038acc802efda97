-- What is left to write behind the text are the lines of the causes from this one on. Assumes nothing.
use Rattle.std.proofs.Common.{◌≡◌, ◌-◌}
use Rattle.protocol.specs.Chain.{stated}
use Rattle.protocol.specs.Provn.{derivations}
use Rattle.provn.proofs.Turns.{wrote_lines}
use Rattle.provn.proofs.document.derivations.Given as goal

abbrev pub invariant-loop-cause : goal.invariant-loop-cause
invariant-loop-cause l = wrote_lines l.text.items (derivations (stated l.m l.key) (16 - l.cause) l.cause) ≡ wrote_lines l.initial.text.items (derivations (stated l.m l.key) 16 0)
