use Rattle.machine.proofs.Stepping.{stepped, sound_after}
use Rattle.machine.proofs.sound.Sound.take.Goals as goal

pub invariant_of-self : goal.invariant_of-self
invariant_of-self c = record { unbroken = sound_after _ _ _ _ c.args.self.now.unbroken c.apply.ensures }

pub returns : goal.returns
returns c = stepped _ _ _ _ c.args.self.now.unbroken c.apply.ensures
