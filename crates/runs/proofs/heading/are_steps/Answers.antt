use Rattle.std.specs.Prelude.{None, Some}
use Rattle.std.proofs.Common.{◌≡◌, suc, ◌+◌, ◌-◌, rules, arith, sym, ap, ◌∙◌}
use Rattle.protocol.specs.Book.{read_step, valid_from}
use Rattle.runs.proofs.Valid.{valid_some, valid_none}
use Rattle.runs.proofs.heading.are_steps.Goals as goal

pub returns-in_default : goal.returns-in_default
returns-in_default c =
    let left = c.args.n - (c.loop-i.i + 1) in
    let one : c.args.n - c.loop-i.i ≡ suc left = omega arith in
    let bad : read_step c.loop-i.reader.book.now c.loop-i.reader.at ≡ None = search rules in
    sym (valid_none _ left _ (rw c.loop-i.invariant.same at bad)) ∙ (rw one at c.loop-i.invariant.left)

pub loop-i-preserved : goal.loop-i-preserved
loop-i-preserved c =
    let left = c.args.n - (c.loop-i.i + 1) in
    let one : c.args.n - c.loop-i.i ≡ suc left = omega arith in
    let got : read_step c.loop-i.reader.book.now c.loop-i.reader.at ≡ Some (c.in-Some._step, c.step.new.self.at) = search rules in
    record {
      same = ap (λ b. b.now) c.step.ensures.same ∙ c.loop-i.invariant.same;
      left = sym (valid_some _ left _ _ _ (rw c.loop-i.invariant.same at got)) ∙ (rw one at c.loop-i.invariant.left);
    }

pub returns : goal.returns
unfolding valid_from
returns c =
    let none : c.args.n - c.loop-i.i ≡ 0 = omega arith in
    rw none at c.loop-i.invariant.left
