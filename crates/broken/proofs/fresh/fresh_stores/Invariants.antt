use Rattle.std.proofs.Common.{ltb}
use Rattle.protocol.specs.Stores.{fresh_store}
use Rattle.unbroken.proofs.Fill.{Filled}
use Rattle.broken.proofs.fresh.fresh_stores.Given as goal

abbrev pub invariant-loop-p : goal.invariant-loop-p
invariant-loop-p l = Filled (λ p. fresh_store (ltb p l.stores)) 8 l.shelves l.p
