-- Each call makes the next turn, and at the end none is left. Assumes nothing.
use Rattle.std.proofs.Common.{◌-◌, arith, ap, sym, ◌∙◌}
use Rattle.bench.specs.Turns.{turns}
use Rattle.bench.proofs.Turning.{one_made, none_left}
use Rattle.bench.proofs.turns.turns.Goals as goal

pub loop-left-preserved : goal.loop-left-preserved
loop-left-preserved g c made h =
    ap (turns made (c.loop-left.left - 1)) (h _ _ _ _ _ c.turn-sum.ensures) ∙ sym (one_made made _ _ c.loop-left-test.true)
    ∙ c.loop-left.invariant made h

pub returns : goal.returns
returns g c made h = ap (λ x. x.1) (sym (none_left made _ _ (omega (arith, c.loop-left-test.false))) ∙ c.loop-left.invariant made h)
