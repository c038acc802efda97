-- What the turns left give from here is what all give from the start. Assumes nothing.
use Rattle.std.proofs.Common.{◌≡◌, ℕ}
use Rattle.bench.specs.Turns.{Makes, turns}
use Rattle.bench.proofs.turns.turns.Given as goal

abbrev pub invariant-loop-left : goal.invariant-loop-left
invariant-loop-left g l =
    (made : ℕ → g.row.S.Denot × ℕ → g.row.S.Denot × ℕ) → Makes (goal.F-post g l.turn) made
    → turns made l.left (l.state, l.sum) ≡ turns made l.initial.left (l.initial.state, 0)
