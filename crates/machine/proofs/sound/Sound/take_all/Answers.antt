use Rattle.std.proofs.Common.{ℕ, ap, ◌∙◌}
use Rattle.protocol.specs.Setup.{answered}
use Rattle.machine.proofs.Taking.{take_step, take_end}
use Rattle.machine.proofs.sound.Sound.take_all.Goals as goal

pub loop-i-preserved : goal.loop-i-preserved
loop-i-preserved c =
    take_step c.loop-i.invariant c.loop-i-test.true _ _ (ap (λ (n : ℕ). answered n c.take.new.self.state) c.answer_number.ensures ∙ c.take.ensures)

pub returns-clause-state : goal.returns-clause-state
returns-clause-state c = (take_end c.loop-i.invariant c.loop-i-test.false).0

pub returns-clause-numbers : goal.returns-clause-numbers
returns-clause-numbers c = (take_end c.loop-i.invariant c.loop-i-test.false).1
