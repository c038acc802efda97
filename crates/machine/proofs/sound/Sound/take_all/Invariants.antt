use Rattle.machine.proofs.Taking.{Taking}
use Rattle.machine.proofs.sound.Sound.take_all.Given as goal

abbrev pub invariant-loop-i : goal.invariant-loop-i
invariant-loop-i l = Taking l.steps l.initial.self.state l.self.state l.initial.numbers l.numbers l.i
