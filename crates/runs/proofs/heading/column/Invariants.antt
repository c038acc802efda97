use Rattle.std.proofs.Common.{◌≡◌, ℕ, ◌+◌, ◌*◌, ◌<◌, get_or, length, ltb}
use Rattle.protocol.specs.Book.{actors_read, byte}
use Rattle.protocol.specs.Words.{pick}
use Rattle.runs.proofs.heading.column.Given as goal

abbrev pub invariant-loop-a : goal.invariant-loop-a
invariant-loop-a l = record {
  long : length l.cells ≡ 8;
  each : (k : ℕ) → k < l.a → get_or l.cells k 0 ≡ pick (ltb k (actors_read l.book)) (byte l.book (l.first + 2 * k)) 0;
}
