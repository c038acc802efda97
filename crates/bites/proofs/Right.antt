-- By the rules themselves the runs are those that the guarantees speak of, and never meet a broken machine. Assumes nothing.
use Rattle.std.specs.Prelude.{Some, None, Option}
use Prim.Native.Nat.{ℕ, zero, suc, ◌*◌}
use mathlib.Core.Path.{◌≡◌, refl, sym, ap, ◌∙◌, subst}
use mathlib.Core.Bool.{Bool, true, false, ◌&&◌, not}
use mathlib.Core.List.{List, [], ◌∷◌, ◌++◌}
use Rattle.protocol.specs.Broken.{broken_of}
use Rattle.protocol.specs.declared.State.{State}
use Rattle.protocol.specs.declared.Setup.{Setup}
use Rattle.protocol.specs.Outcome.{Outcome}
use Rattle.unbroken.proofs.Laws.{fresh_unbroken}
use Rattle.protocol.specs.Step.{rule_of, step_of}
use Rattle.protocol.specs.declared.Step.{Step}
use Rattle.protocol.specs.Run.{ran, fresh_of}
use Rattle.protocol.specs.Drain.{turn_of, Course, stays, after as behind, on_turn, course}
use Rattle.keeps.proofs.Keeps.{step_keeps}
use Rattle.drains.specs.Drains.{steps_of}
use Rattle.guarantees.specs.Acknowledged.{Legal, after, accepted_into, accepted, acknowledged}
use Rattle.guarantees.proofs.Acks.{run_reached}
use Rattle.guarantees.proofs.Demand.{fresh_reached}
use Rattle.bites.specs.Variants.{right, step_by, ran_by, accepted_by, acknowledged_by}
use Rattle.bites.proofs.Ruled.{ruled, ran_ruled, acked_ruled, whole_along, step_ruled, ran_ruled_holds, acked_ruled_holds}

step_right : (m : State) (s : Step) → step_by right m s ≡ step_of m s
unfolding step_by step_of rule_of
step_right m s = refl

next_right : (m : State) (s : Step) → (step_by right m s).state ≡ (step_of m s).state
next_right m s = ap (λ (x : Outcome). x.state) (step_right m s)

pub ran_right : (m : State) (steps : List Step) → ran_by right m steps ≡ ran m steps
unfolding ran_by ran
ran_right m [] = refl
ran_right m (s ∷ ss) = ap (λ (n : State). ran_by right n ss) (next_right m s) ∙ ran_right (step_of m s).state ss

pub accepted_right : (m : State) (s : Step) (v : ℕ) → accepted_by right m s v ≡ accepted m s v
accepted_right m s v = ap (λ (n : State). accepted_into m n s v) (next_right m s)

pub acknowledged_right : (m : State) (steps : List Step) (v : ℕ) → acknowledged_by right m steps v ≡ acknowledged m steps v
unfolding acknowledged_by acknowledged
acknowledged_right m [] v = refl
acknowledged_right m (s ∷ ss) v =
    ap (λ (l : List ℕ). l ++ acknowledged_by right (step_by right m s).state ss v) (accepted_right m s v)
    ∙ ap (λ (n : State). accepted m s v ++ acknowledged_by right n ss v) (next_right m s)
    ∙ ap (λ (l : List ℕ). accepted m s v ++ l) (acknowledged_right (step_of m s).state ss v)

-- an unbroken machine stays so, along a run and along a drain
next_ruled : (m : State) (s : Step) → broken_of m ≡ false → (step_of m s).state ≡ ruled right m s
next_ruled m s e = sym (next_right m s) ∙ step_ruled right m s e

unbroken_ruled : (m : State) (s : Step) → broken_of m ≡ false → broken_of (ruled right m s) ≡ false
unbroken_ruled m s e = subst (λ (n : State). broken_of n ≡ false) (next_ruled m s e) (step_keeps m s e)

whole_right : (m : State) (steps : List Step) → broken_of m ≡ false → whole_along right m steps ≡ true
unfolding whole_along
whole_right m [] e = refl
whole_right m (s ∷ ss) e = ap (λ (b : Bool). not b && whole_along right (ruled right m s) ss) e ∙ whole_right (ruled right m s) ss (unbroken_ruled m s e)

unfoldable pub course_ruled : ℕ → State → Course
course_ruled zero m = stays m
course_ruled (suc n) m = on_turn (turn_of m) (stays m) (λ step. behind step (course_ruled n (ruled right m step)))

pub course_ruled_holds : (n : ℕ) (m : State) → broken_of m ≡ false → course n m ≡ course_ruled n m
unfolding course course_ruled
course_ruled_holds zero m e = refl
course_ruled_holds (suc n) m e = go (turn_of m) (λ s. course_ruled_holds n (ruled right m s) (unbroken_ruled m s e))
  where
    go : (t : Option Step) → ((s : Step) → course n (ruled right m s) ≡ course_ruled n (ruled right m s))
        → on_turn t (stays m) (λ s. behind s (course n (step_of m s).state)) ≡ on_turn t (stays m) (λ s. behind s (course_ruled n (ruled right m s)))
    go None h = refl
    go (Some s) h = ap (λ (x : State). behind s (course n x)) (next_ruled m s e) ∙ ap (behind s) (h s)

abbrev pub steps_ruled : State → List Step
steps_ruled m = (course_ruled (m.made * 22) m).steps

module _ (u : Setup) (l : Legal u) where
  whole : (steps : List Step) → whole_along right (fresh_of u) steps ≡ true
  whole steps = whole_right (fresh_of u) steps (fresh_unbroken u.stores u.actors u.homes u.lists l.legal l.homes8 l.lists8)

  pub after_ruled : (steps : List Step) → after u steps ≡ ran_ruled right (fresh_of u) steps
  after_ruled steps = sym (ran_right (fresh_of u) steps) ∙ ran_ruled_holds right (fresh_of u) steps (whole steps)

  pub acknowledged_ruled : (steps : List Step) (v : ℕ) → acknowledged (fresh_of u) steps v ≡ acked_ruled right (fresh_of u) steps v
  acknowledged_ruled steps v = sym (acknowledged_right (fresh_of u) steps v) ∙ acked_ruled_holds right (fresh_of u) steps v (whole steps)

  pub steps_ruled_holds : (steps : List Step) → steps_of (after u steps) ≡ steps_ruled (ran_ruled right (fresh_of u) steps)
  steps_ruled_holds steps =
      let m = after u steps in
      ap (λ (c : Course). c.steps) (course_ruled_holds (m.made * 22) m (run_reached (fresh_of u) (fresh_reached u l) steps).fine)
      ∙ ap steps_ruled (after_ruled steps)

  pub accepted_ruled : (steps : List Step) (s : Step) (v : ℕ) → accepted (after u steps) s v ≡ accepted_into (ran_ruled right (fresh_of u) steps) (ruled right (ran_ruled right (fresh_of u) steps) s) s v
  accepted_ruled steps s v =
      let m = after u steps in
      ap (λ (n : State). accepted_into m n s v) (next_ruled m s (run_reached (fresh_of u) (fresh_reached u l) steps).fine)
      ∙ ap (λ (n : State). accepted_into n (ruled right n s) s v) (after_ruled steps)
