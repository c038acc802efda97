-- The answers are copied whole, when it is known that nothing is refused. Assumes nothing.
use Rattle.std.proofs.Common.{rules, arith}
use Rattle.tautlichen.proofs.Listed.{answered}
use Rattle.tautlichen.proofs.list.Goals as goal

pub returns-clause-answers : goal.returns-clause-answers
returns-clause-answers c =
    answered c.args.book.now c.args.answers.now c.run-ran.result c.run-ran.ensures.run {n = c.in_ok-run.run'} (search rules)
    (omega (arith, c.if-answers-steps.false, c.from-steps.ensures)) c.from-steps.ensures c.run-ran.ensures.numbers (omega arith) c.copy.ensures
