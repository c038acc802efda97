-- The laws of the drain: as each step leaves one step less, and no machine has more than 22 left for an interaction, it comes to
-- rest before the stop. By induction on the stop; assumes nothing.
use Rattle.std.specs.Prelude.{Some, None, Option}
use Prim.Native.Nat.{ℕ, zero, suc, ◌*◌, ◌≤◌, ◌<◌}
use mathlib.Core.Path.{◌≡◌, refl, sym, ap, ◌∙◌, subst}
use mathlib.Core.Bool.{false}
use mathlib.Core.List.{◌∷◌}
use native.Mathlib.Omega.{arith}
use lib.Dec.{eqb}
use lib.ListN.{length, replicate}
use borrow.Author.Tests.{eqb-false, not-true}
use Rattle.std.proofs.Common.{rules}
use Rattle.protocol.specs.Slots.{entry, status_number}
use Rattle.protocol.specs.Setup.{answered}
use Rattle.unbroken.specs.Unbroken.{Unbroken}
use Rattle.protocol.specs.Broken.{broken_of}
use Rattle.protocol.specs.declared.State.{State}
use Rattle.protocol.specs.declared.View.{View}
use Rattle.unbroken.proofs.Laws.{unbroken}
use Rattle.protocol.specs.Step.{number_of, after_of, rule_of, step_of}
use Rattle.protocol.specs.declared.Step.{Step}
use Rattle.keeps.proofs.Keeps.{keeps}
use Rattle.protocol.specs.Run.{ran, answers}
use Rattle.protocol.specs.Drain.{turn_of, Course, stays, after, on_turn, course, drain_of}
use Rattle.drains.specs.Drains.{Drainable, TakesEachStep, steps_of, end_of, DrainEnds, DrainsOnce, CountIsFew}
use Rattle.drains.proofs.StepsLeft.{Regular}
use Rattle.drains.proofs.Total.{seen_of, total, total_most}
use Rattle.drains.proofs.Jobs.{Lowers}
use Rattle.drains.proofs.Turns.{AtRest, Does, does, rest_closes}

-- a step that the drain takes gives the machine that its rule states
step_taken : (m : State) (s : Step) → broken_of m ≡ false → number_of m s ≡ 0 → step_of m s ≡ answered 0 (after_of m s)
unfolding step_of rule_of
step_taken m s b e = rw (b, e)

-- the stop bounds the steps of any machine
course_few : (n : ℕ) (m : State) → length (course n m).steps ≤ n
unfolding course
course_few zero m = omega arith
course_few (suc n) m = go (turn_of m) (λ s. course_few n (step_of m s).state)
  where
    go : (t : Option Step) → ((s : Step) → length (course n (step_of m s).state).steps ≤ n)
        → length (on_turn t (stays m) (λ s. after s (course n (step_of m s).state))).steps ≤ suc n
    go None ih = omega arith
    go (Some s) ih = omega (arith, ih s)

pub count_few : CountIsFew
unfolding drain_of
count_few = search (rules, course_few)

-- what the drain sees of an unbroken machine's views
regular : (m : State) → Unbroken m → (v : ℕ) → v < m.made * 2 → Regular (seen_of m v)
unfolding seen_of
regular m w v h =
    record {
      fresh = λ e. ap (λ (x : View). x.changed) ((w.view_at v (omega (arith, w.made16))).unset e);
      entered = λ e. (w.entry_at v (omega (arith, w.made16))).settled (some (eqb-false (status_number (entry m v).status) 0 (not-true (eqb (status_number (entry m v).status) 0) e)));
    }
  where
    some : {n : ℕ} → (n ≡ 0 → ⊥) → 1 ≤ n
    some d = omega arith

next : (m : State) → Drainable m → Does m (turn_of m)
next m d = does m (unbroken m d.unbroken) d.up

lowers : (m : State) (s : Step) → Drainable m → turn_of m ≡ Some s → Lowers m s
lowers m s d e = subst (Does m) e (next m d)

pub takes : TakesEachStep
takes m s d e =
    let l = lowers m s d e in
    search (rules, lowers, step_taken, unbroken, keeps)

-- a machine with no step left is at rest
none_left : (m : State) → Drainable m → total m ≤ 0 → turn_of m ≡ None
none_left m d h = go (turn_of m) refl
  where
    go : (t : Option Step) → turn_of m ≡ t → t ≡ None
    go None e = refl
    go (Some s) e = absurd (omega (arith, (lowers m s d e).lower))

-- with room for the steps left the drain comes to rest, and takes every step
record Comes (m : State) (c : Course) : Type 0 where
  rests : turn_of c.state ≡ None
  count : length c.steps ≤ total m
  run : c.state ≡ ran m c.steps
  taken : answers m c.steps ≡ replicate (length c.steps) 0
  drainable : Drainable c.state
  made : c.state.made ≡ m.made

comes_resting : (m : State) → Drainable m → turn_of m ≡ None → Comes m (stays m)
unfolding ran answers
comes_resting m d e = record { rests = e; count = omega arith; run = refl; taken = refl; drainable = d; made = refl }

comes : (n : ℕ) (m : State) → Drainable m → total m ≤ n → Comes m (course n m)
unfolding course ran answers
comes zero m d h = comes_resting m d (none_left m d h)
comes (suc n) m d h = go (λ s. comes n (step_of m s).state) (turn_of m) refl
  where
    go : ((s : Step) → Drainable (step_of m s).state → total (step_of m s).state ≤ n → Comes (step_of m s).state (course n (step_of m s).state))
        → (t : Option Step) → turn_of m ≡ t → Comes m (on_turn t (stays m) (λ s. after s (course n (step_of m s).state)))
    go ih None e = comes_resting m d e
    go ih (Some s) e =
        let k = takes m s d e in
        let same : (step_of m s).state ≡ after_of m s = ap (λ r. r.state) k.step in
        let less : total (step_of m s).state < total m = rw same (lowers m s d e).lower in
        let c = ih s (rw same k.drainable) (omega arith) in
        record {
          rests = c.rests;
          count = omega (arith, c.count);
          run = c.run;
          taken = λ i. (k.step i).answer ∷ c.taken i;
          drainable = c.drainable;
          made = c.made ∙ ap (λ r. r.made) same ∙ k.made;
        }

-- at rest it takes none, whatever the stop
course_resting : (n : ℕ) (m : State) → turn_of m ≡ None → course n m ≡ stays m
unfolding course
course_resting zero m e = refl
course_resting (suc n) m e = rw e

-- any two stops that leave room for the steps left give the same
same_course : (n k : ℕ) (m : State) → Drainable m → total m ≤ n → total m ≤ k → course n m ≡ course k m
unfolding course
same_course zero k m d h l = sym (course_resting k m (none_left m d h))
same_course (suc n) zero m d h l = course_resting (suc n) m (none_left m d l)
same_course (suc n) (suc k) m d h l = go (λ s. same_course n k (step_of m s).state) (turn_of m) refl
  where
    go : ((s : Step) → Drainable (step_of m s).state → total (step_of m s).state ≤ n → total (step_of m s).state ≤ k → course n (step_of m s).state ≡ course k (step_of m s).state)
        → (t : Option Step) → turn_of m ≡ t
        → on_turn t (stays m) (λ s. after s (course n (step_of m s).state)) ≡ on_turn t (stays m) (λ s. after s (course k (step_of m s).state))
    go ih None e = refl
    go ih (Some s) e =
        let t = takes m s d e in
        let same : (step_of m s).state ≡ after_of m s = ap (λ r. r.state) t.step in
        let less : total (step_of m s).state < total m = rw same (lowers m s d e).lower in
        ap (after s) (ih s (rw same t.drainable) (omega arith) (omega arith))

drained : (m : State) → Drainable m → drain_of m ≡ record { state = end_of m; answer = 0; count = length (steps_of m) }
unfolding drain_of
drained m d = rw (d.unbroken, d.up)

pub drain_ends : DrainEnds
drain_ends m d =
    let most = total_most m (regular m (unbroken m d.unbroken)) in
    let c = comes (m.made * 22) m d most in
    let rest : AtRest (end_of m) = subst (Does (end_of m)) c.rests (next (end_of m) c.drainable) in
    search (rules, total_most, regular, unbroken, comes, next, drained, same_course, rest_closes)

drained_resting : (m : State) → Drainable m → turn_of m ≡ None → drain_of m ≡ record { state = m; answer = 0; count = 0 }
unfolding drain_of
drained_resting m d e = rw (d.unbroken, d.up, course_resting (m.made * 22) m e)

pub drains_once : DrainsOnce
drains_once m d =
    let e = drain_ends m d in
    rw e.result (drained_resting (end_of m) e.drainable e.rests)
