use Rattle.protocol.specs.Rule.{more}
use Rattle.protocol.specs.Words.{bit, pick}
use Rattle.rules.proofs.Written.{Written}
use Rattle.rules.proofs.places.send_owed.Given as goal

abbrev pub invariant-loop-v : goal.invariant-loop-v
invariant-loop-v l = Written 32 l.p (λ u n. pick (bit l.owed u) (more n) n) 0 l.initial.copies l.copies l.v
