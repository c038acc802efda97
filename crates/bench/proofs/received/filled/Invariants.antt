-- The loop fills the store, one activity a turn. Assumes nothing.
use Rattle.std.proofs.Common.{◌≡◌}
use Rattle.bench.specs.Received.{filled}
use Rattle.bench.proofs.received.filled.Given as goal

abbrev pub invariant-loop-session : goal.invariant-loop-session
invariant-loop-session l = l.store ≡ filled l.session
