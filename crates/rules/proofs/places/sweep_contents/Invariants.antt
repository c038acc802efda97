use Rattle.std.proofs.Common.{◌||◌}
use Rattle.protocol.specs.Slots.{no_contents}
use Rattle.protocol.specs.Words.{bit, pick}
use Rattle.rules.proofs.Written.{Written}
use Rattle.rules.proofs.places.sweep_contents.Given as goal

abbrev pub invariant-loop-v : goal.invariant-loop-v
invariant-loop-v l = Written 32 l.p (λ u c. pick (bit l.s.held u || bit l.s.kept u) c no_contents) no_contents l.initial.contents l.contents l.v
