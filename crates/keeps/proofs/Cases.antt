-- A choice, the rule alone and a step, by cases. Assumes nothing.
use mathlib.Core.Path.{◌≡◌, refl}
use mathlib.Core.Logic.{◌≢◌}
use mathlib.Core.Bool.{Bool, true, false}
use lib.Dec.{eqb}
use borrow.Author.Tests.{eqb-true, eqb-false}
use Rattle.protocol.specs.Words.{pick}
use Rattle.protocol.specs.Setup.{answered}
use Rattle.protocol.specs.Broken.{broken_of}
use Rattle.protocol.specs.declared.State.{State}
use Rattle.protocol.specs.Outcome.{Outcome}
use Rattle.protocol.specs.Step.{number_of, after_of, rule_of, step_of}
use Rattle.protocol.specs.declared.Step.{Step}

pub pick_case : {A : Type 0} (P : A → Type 0) (c : Bool) (x y : A) → (c ≡ true → P x) → (c ≡ false → P y) → P (pick c x y)
pick_case P true x y f g = f refl
pick_case P false x y f g = g refl

-- of the stated machine where the step is taken, of the same one where it is refused
module _ (m : State) (s : Step) where
  pub rule_case : (P : Outcome → Type 0) → (number_of m s ≡ 0 → P (answered 0 (after_of m s))) → (number_of m s ≢ 0 → P (answered (number_of m s) m)) → P (rule_of m s)
  unfolding rule_of
  rule_case P f g =
      pick_case P (eqb (number_of m s) 0) (answered 0 (after_of m s)) (answered (number_of m s) m) (λ e. f (eqb-true (number_of m s) 0 e)) (λ e. g (eqb-false (number_of m s) 0 e))

  pub step_case : (P : Outcome → Type 0) → (broken_of m ≡ true → P (answered 1 m)) → (broken_of m ≡ false → number_of m s ≡ 0 → P (answered 0 (after_of m s)))
      → (broken_of m ≡ false → number_of m s ≢ 0 → P (answered (number_of m s) m)) → P (step_of m s)
  unfolding step_of
  step_case P f g h = pick_case P (broken_of m) (answered 1 m) (rule_of m s) f (λ e. rule_case P (g e) (h e))
