use Rattle.std.proofs.Common.{◌*◌}
use Rattle.drain.proofs.Draining.{Going}
use Rattle.drain.proofs.take_turns.Given as goal

abbrev pub invariant-loop-count : goal.invariant-loop-count
invariant-loop-count l = Going (l.fn.from.state.made * 22) l.fn.from.state l.count l.answered.machine.state
