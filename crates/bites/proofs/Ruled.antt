-- Runs without the test for a broken value, which compute in a fraction of the time, and that they are the runs where nothing on
-- the way is broken. Assumes nothing.
use Prim.Native.Nat.{ℕ}
use mathlib.Core.Path.{◌≡◌, refl, ap, ◌∙◌}
use mathlib.Core.Bool.{Bool, true, false, ◌&&◌, not}
use mathlib.Core.List.{List, [], ◌∷◌, ◌++◌}
use Rattle.std.proofs.lemmas.Bool.{and_from, and_parts}
use Rattle.protocol.specs.Words.{pick}
use Rattle.protocol.specs.Setup.{answered}
use Rattle.protocol.specs.Broken.{broken_of}
use Rattle.protocol.specs.declared.State.{State}
use borrow.Author.Tests.{not-true}
use Rattle.protocol.specs.Rule.{decided}
use Rattle.protocol.specs.Step.{number_of}
use Rattle.protocol.specs.declared.Step.{Step}
use Rattle.bites.specs.Variants.{Rules, step_by, ran_by, acknowledged_by}
use Rattle.guarantees.specs.Acknowledged.{accepted_into}

unfoldable pub ruled : Rules → State → Step → State
ruled rules m s = (decided (number_of m s) m (rules m s)).state

unfoldable pub ran_ruled : Rules → State → List Step → State
ran_ruled rules m [] = m
ran_ruled rules m (s ∷ ss) = ran_ruled rules (ruled rules m s) ss

unfoldable pub acked_ruled : Rules → State → List Step → ℕ → List ℕ
acked_ruled rules m [] v = []
acked_ruled rules m (s ∷ ss) v = accepted_into m (ruled rules m s) s v ++ acked_ruled rules (ruled rules m s) ss v

-- no machine that a step is asked of is broken
unfoldable pub whole_along : Rules → State → List Step → Bool
whole_along rules m [] = true
whole_along rules m (s ∷ ss) = not (broken_of m) && whole_along rules (ruled rules m s) ss

pub step_ruled : (rules : Rules) (m : State) (s : Step) → broken_of m ≡ false → (step_by rules m s).state ≡ ruled rules m s
unfolding step_by ruled
step_ruled rules m s e = ap (λ (b : Bool). (pick b (answered 1 m) (decided (number_of m s) m (rules m s))).state) e

module _ (rules : Rules) where
  -- a run that goes on is whole along its start, and along the rest
  pub whole_split : (m : State) (steps further : List Step) → whole_along rules m (steps ++ further) ≡ true
      → (whole_along rules m steps ≡ true) × (whole_along rules (ran_ruled rules m steps) further ≡ true)
  unfolding whole_along ran_ruled
  whole_split m [] further e = (refl, e)
  whole_split m (s ∷ ss) further e =
      let h = whole_split (ruled rules m s) ss further (and_parts (not (broken_of m)) (whole_along rules (ruled rules m s) (ss ++ further)) e).1 in
      (and_from (not (broken_of m)) (whole_along rules (ruled rules m s) ss) (and_parts (not (broken_of m)) (whole_along rules (ruled rules m s) (ss ++ further)) e).0 h.0, h.1)

  pub whole_first : (m : State) (s : Step) (ss : List Step) → whole_along rules m (s ∷ ss) ≡ true → broken_of m ≡ false
  unfolding whole_along
  whole_first m s ss e = not-true (broken_of m) (and_parts (not (broken_of m)) (whole_along rules (ruled rules m s) ss) e).0

  pub ran_ruled_holds : (m : State) (steps : List Step) → whole_along rules m steps ≡ true → ran_by rules m steps ≡ ran_ruled rules m steps
  unfolding ran_by ran_ruled whole_along
  ran_ruled_holds m [] e = refl
  ran_ruled_holds m (s ∷ ss) e =
      let h = whole_first m s ss e in
      ap (λ (n : State). ran_by rules n ss) (step_ruled rules m s h)
      ∙ ran_ruled_holds (ruled rules m s) ss (and_parts (not (broken_of m)) (whole_along rules (ruled rules m s) ss) e).1

  pub acked_ruled_holds : (m : State) (steps : List Step) (v : ℕ) → whole_along rules m steps ≡ true → acknowledged_by rules m steps v ≡ acked_ruled rules m steps v
  unfolding acknowledged_by acked_ruled whole_along
  acked_ruled_holds m [] v e = refl
  acked_ruled_holds m (s ∷ ss) v e =
      let h = whole_first m s ss e in
      ap (λ (n : State). accepted_into m n s v ++ acknowledged_by rules n ss v) (step_ruled rules m s h)
      ∙ ap (λ (l : List ℕ). accepted_into m (ruled rules m s) s v ++ l) (acked_ruled_holds (ruled rules m s) ss v (and_parts (not (broken_of m)) (whole_along rules (ruled rules m s) ss) e).1)
