use Rattle.std.proofs.Common.{◌≡◌, ◌-◌}
use Rattle.protocol.specs.Book.{valid_from}
use Rattle.runs.proofs.heading.are_steps.Given as goal

abbrev pub invariant-loop-i : goal.invariant-loop-i
invariant-loop-i l = record {
  same : l.reader.book.now ≡ l.book;
  left : valid_from l.book (l.n - l.i) l.reader.at ≡ valid_from l.book l.n l.fn.at;
}
