-- On a machine that is not broken the step is its rule, and every bound that the rules need holds. Assumes nothing.
use mathlib.Core.Path.{◌≡◌, sym, ap}
use mathlib.Core.Bool.{Bool, false}
use Rattle.protocol.specs.Words.{pick}
use Rattle.protocol.specs.Setup.{answered}
use Rattle.protocol.specs.Broken.{broken_of}
use Rattle.protocol.specs.declared.State.{State}
use Rattle.protocol.specs.Step.{rule_of, step_of}
use Rattle.protocol.specs.declared.Step.{Step}

pub ruled : (m : State) (s : Step) → broken_of m ≡ false → rule_of m s ≡ step_of m s
unfolding step_of
ruled m s e = sym (ap (λ (b : Bool). pick b (answered 1 m) (rule_of m s)) e)
