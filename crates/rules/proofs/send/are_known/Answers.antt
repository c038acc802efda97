use Rattle.std.proofs.Common.{◌≡◌, false, sym, ◌∙◌, arith}
use Rattle.protocol.specs.Send.{cause_known, causes_known}
use Rattle.unbroken.proofs.Laws.Every.{below_each}
use Rattle.rules.proofs.Below.{below_false}
use Rattle.rules.proofs.send.are_known.Goals as goal

pub returns-then-not-is_known : goal.returns-then-not-is_known
unfolding causes_known
returns-then-not-is_known c =
    let unknown : cause_known c.args.m.now c.args.actor c.args.causes c.loop-j.j ≡ false = sym c.is_known.ensures ∙ c.if-not-is_known.true in
    sym (below_false 16 _ _ c.loop-j-test.true unknown)

pub returns : goal.returns
unfolding causes_known
returns c = sym (below_each 16 _ (λ k h. c.loop-j.invariant k (omega (arith, c.loop-j-test.false))))
