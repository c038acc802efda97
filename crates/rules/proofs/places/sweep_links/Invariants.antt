use Rattle.std.proofs.Common.{◌||◌, ◌*◌}
use Rattle.protocol.specs.Setup.{blank_links}
use Rattle.protocol.specs.Slots.{no_links}
use Rattle.protocol.specs.Words.{bit, pick}
use Rattle.rules.proofs.Written.{Written}
use Rattle.rules.proofs.places.sweep_links.Given as goal

abbrev pub invariant-loop-k : goal.invariant-loop-k
invariant-loop-k l = Written 16 l.p (λ k x. pick (bit l.s.held (k * 2) || bit l.s.kept (k * 2)) x blank_links) no_links l.initial.links l.links l.k
