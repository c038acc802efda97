-- A step of an unbroken machine is its rule, and leaves it unbroken.
use Rattle.std.proofs.Common.{◌≡◌, false, Result, ap, ◌∙◌}
use Rattle.protocol.specs.Broken.{broken_of}
use Rattle.protocol.specs.Refusal.{told}
use Rattle.protocol.specs.Step.{rule_of, step_of}
use Rattle.protocol.specs.declared.State.{State}
use Rattle.protocol.specs.declared.Step.{Step}
use Rattle.protocol.specs.declared.refusal.Refusal.{Refusal}
use Rattle.keeps.proofs.Keeps.{step_keeps}
use Rattle.keeps.proofs.Ruled.{ruled}

pub stepped : (m after : State) (s : Step) (r : Result Unit Refusal) → broken_of m ≡ false → told r after ≡ rule_of m s → told r after ≡ step_of m s
stepped m after s r whole e = e ∙ ruled m s whole

pub sound_after : (m after : State) (s : Step) (r : Result Unit Refusal) → broken_of m ≡ false → told r after ≡ rule_of m s → broken_of after ≡ false
sound_after m after s r whole e = ap (λ o. broken_of o.state) (stepped m after s r whole e) ∙ step_keeps m s whole
