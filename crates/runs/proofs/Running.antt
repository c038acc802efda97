-- A loop that reads steps and takes them has taken those that stand in the book: what stands from here, with i of n read, gives
-- what all gives from the start.
use Rattle.std.specs.Prelude.{Some, None}
use Rattle.std.proofs.Common.{ℕ, zero, suc, ◌≡◌, ◌≤◌, ◌<◌, ◌+◌, ◌-◌, Bool, true, false, List, [], ◌∷◌, length, refl, ap, ◌∙◌, add-one, arith}
use Rattle.std.proofs.lemmas.List.Edits.{sets}
use lib.ListN.{set, length-set}
use lib.Dec.{eqb}
use Rattle.protocol.specs.declared.State.{State}
use Rattle.protocol.specs.declared.Step.{Step}
use Rattle.protocol.specs.Book.{read_step, steps_from, on_read}
use Rattle.protocol.specs.Outcome.{Outcome}
use Rattle.protocol.specs.Step.{step_of}
use Rattle.protocol.specs.Steps.{ran, answers}
use Rattle.protocol.specs.Words.{one, times}

pub record Running (s : List ℕ) (n from : ℕ) (m₀ m : State) (a₀ a : List ℕ) (i at count : ℕ) : Type 0 where
  pub low : i ≤ n
  pub few : count ≤ i
  pub long : length a ≡ length a₀
  pub state : ran m (steps_from s (n - i) at) ≡ ran m₀ (steps_from s n from)
  pub numbers : sets a i (answers m (steps_from s (n - i) at)) ≡ sets a₀ 0 (answers m₀ (steps_from s n from))
  pub taken : count + times 0 (answers m (steps_from s (n - i) at)) ≡ times 0 (answers m₀ (steps_from s n from))

one_low : (b : Bool) → one b ≤ 1
one_low true = omega arith
one_low false = omega arith

read_some : (s : List ℕ) (n at next : ℕ) (step : Step) → read_step s at ≡ Some (step, next) → steps_from s (suc n) at ≡ step ∷ steps_from s n next
unfolding steps_from
read_some s n at next step e = ap (λ r. on_read r [] (λ step next. step ∷ steps_from s n next)) e

read_none : (s : List ℕ) (n at : ℕ) → read_step s at ≡ None → steps_from s n at ≡ []
unfolding steps_from
read_none s zero at e = refl
read_none s (suc n) at e = ap (λ r. on_read r [] (λ step next. step ∷ steps_from s n next)) e

module _ {s : List ℕ} {n from : ℕ} {m₀ m : State} {a₀ a : List ℕ} {i at count : ℕ} (h : Running s n from m₀ m a₀ a i at count) where
  pub run_step : i < n → (step : Step) (next : ℕ) → read_step s at ≡ Some (step, next) → (r : Outcome) → r ≡ step_of m step
      → Running s n from m₀ r.state a₀ (set a i r.answer) (i + 1) next (count + one (eqb r.answer 0))
  unfolding ran answers times
  run_step b step next e r q =
      let l : n - i ≡ suc (n - suc i) = omega arith in
      let f : steps_from s (n - i) at ≡ step ∷ steps_from s (n - suc i) next = rw l (read_some s (n - suc i) at next step e) in
      let t = rw f at h.taken in
      let k = one_low (eqb r.answer 0) in
      record {
        low = omega arith;
        few = omega (arith, h.few);
        long = length-set a i r.answer ∙ h.long;
        state = rw (add-one, q) (rw f at h.state);
        numbers = rw (add-one, q) (rw f at h.numbers);
        taken = rw (add-one, q) (omega (arith, t));
      }

  -- nothing stands from here on
  pub run_end : steps_from s (n - i) at ≡ [] → (m ≡ ran m₀ (steps_from s n from)) × (a ≡ sets a₀ 0 (answers m₀ (steps_from s n from))) × (count ≡ times 0 (answers m₀ (steps_from s n from)))
  unfolding ran answers times
  run_end f = let t = rw f at h.taken in (rw f at h.state, rw f at h.numbers, omega arith)

  pub run_stop : read_step s at ≡ None → steps_from s (n - i) at ≡ []
  run_stop e = read_none s (n - i) at e

  pub run_all : n ≤ i → steps_from s (n - i) at ≡ []
  unfolding steps_from
  run_all b = let e : n - i ≡ 0 = omega arith in rw e
