use Rattle.std.proofs.Common.{◌≡◌}
use Rattle.runs.proofs.Running.{Running}
use Rattle.runs.proofs.take_steps.Given as goal

abbrev pub invariant-loop-i : goal.invariant-loop-i
invariant-loop-i l = record {
  same : l.reader.book.now ≡ l.book;
  running : Running l.book l.n l.fn.at l.initial.machine.state l.machine.state l.initial.numbers l.numbers l.i l.reader.at l.taken;
}
