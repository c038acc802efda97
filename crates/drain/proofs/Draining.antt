-- The drain's loop: what is still to come from here, with the steps that were taken, is the whole course.
use Rattle.std.specs.Prelude.{Some, None, Option}
use Rattle.std.proofs.Common.{ℕ, suc, ◌≡◌, ◌≤◌, ◌<◌, ◌+◌, ◌-◌, length, sym, ap, ◌∙◌, arith}
use Rattle.protocol.specs.declared.State.{State}
use Rattle.protocol.specs.declared.Step.{Step}
use Rattle.protocol.specs.Drain.{Course, stays, after, on_turn, turn_of, course, drained}
use Rattle.protocol.specs.Step.{step_of}

-- n of at most f steps are taken, and the machine is m
pub record Going (f : ℕ) (from : State) (n : ℕ) (m : State) : Type 0 where
  pub low : n ≤ f
  pub state : (course (f - n) m).state ≡ (course f from).state
  pub count : n + length (course (f - n) m).steps ≡ length (course f from).steps

pub going_start : (f : ℕ) (from : State) → Going f from 0 from
going_start f from =
    let q : f - 0 ≡ f = omega arith in
    record { low = omega arith; state = rw q; count = rw q (omega arith) }

-- one turn of the definition
turn_of_holds : (f : ℕ) (m : State) (t : Option Step) → turn_of m ≡ t → course (suc f) m ≡ on_turn t (stays m) (λ step. after step (course f (step_of m step).state))
unfolding course
turn_of_holds f m t e = ap (λ t. on_turn t (stays m) (λ step. after step (course f (step_of m step).state))) e

module _ {f : ℕ} {from : State} {n : ℕ} {m : State} (h : Going f from n m) where
  one_left : n < f → f - n ≡ suc (f - (n + 1))
  one_left b = omega arith

  pub going_on : (step : Step) (next : State) → n < f → turn_of m ≡ Some step → next ≡ (step_of m step).state → Going f from (n + 1) next
  going_on step next b t e =
      let turned : course (f - n) m ≡ after step (course (f - (n + 1)) next) = rw (one_left b, turn_of_holds (f - (n + 1)) m (Some step) t, e) in
      let counted = ap (λ (c : Course). n + length c.steps) turned in
      record {
        low = omega arith;
        state = ap (λ (c : Course). c.state) (sym turned) ∙ h.state;
        count = omega (arith, h.count);
      }

  -- nothing is left to come: the count is that of the steps taken
  ended : course (f - n) m ≡ stays m → record { state = m; answer = 0; count = n } ≡ drained (course f from)
  ended e =
      let machine : m ≡ (course f from).state = ap (λ (c : Course). c.state) (sym e) ∙ h.state in
      let none = ap (λ (c : Course). n + length c.steps) e in
      let count : n ≡ length (course f from).steps = omega (arith, h.count) in
      λ i. record { state = machine i; answer = 0; count = count i }

  pub going_rest : n < f → turn_of m ≡ None → record { state = m; answer = 0; count = n } ≡ drained (course f from)
  going_rest b t = ended (rw (one_left b, turn_of_holds (f - (n + 1)) m None t))

  pub going_end : f ≤ n → record { state = m; answer = 0; count = n } ≡ drained (course f from)
  unfolding course
  going_end b = let q : f - n ≡ 0 = omega arith in ended (rw q)
