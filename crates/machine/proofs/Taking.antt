-- A loop that takes steps one by one has taken the list of them: what is left to take from here, with i numbers written, gives
-- what all gives from the start.
use Rattle.std.proofs.Common.{ℕ, suc, ◌≡◌, ◌≤◌, ◌<◌, ◌+◌, List, [], ◌∷◌, length, get_or, drop, refl, ap, ◌∙◌, add-one, arith, drop-cons}
use Rattle.std.proofs.lemmas.List.Edits.{sets}
use lib.Seq.{drop-length}
use lib.ListN.{set, length-set}
use Rattle.protocol.specs.declared.State.{State}
use Rattle.protocol.specs.declared.Step.{Step}
use Rattle.protocol.specs.Outcome.{Outcome}
use Rattle.protocol.specs.Step.{step_of}
use Rattle.protocol.specs.Steps.{ran, answers}

pub record Taking (steps : List Step) (m₀ m : State) (a₀ a : List ℕ) (i : ℕ) : Type 0 where
  pub low : i ≤ length steps
  pub long : length a ≡ length a₀
  pub state : ran m (drop i steps) ≡ ran m₀ steps
  pub numbers : sets a i (answers m (drop i steps)) ≡ sets a₀ 0 (answers m₀ steps)

module _ {steps : List Step} {m₀ m : State} {a₀ a : List ℕ} {i : ℕ} (h : Taking steps m₀ m a₀ a i) where
  pub take_step : i < length steps → (d : Step) (r : Outcome) → r ≡ step_of m (get_or steps i d) → Taking steps m₀ r.state a₀ (set a i r.answer) (i + 1)
  unfolding ran answers
  take_step b d r e =
      let f : drop i steps ≡ get_or steps i d ∷ drop (suc i) steps = drop-cons steps i d b in
      record {
        low = omega arith;
        long = length-set a i r.answer ∙ h.long;
        state = rw (add-one, e) (rw f at h.state);
        numbers = rw (add-one, e) (rw f at h.numbers);
      }

  pub take_end : length steps ≤ i → (m ≡ ran m₀ steps) × (a ≡ sets a₀ 0 (answers m₀ steps))
  unfolding ran answers
  take_end b =
      let q : i ≡ length steps = let l = h.low in omega arith in
      let f : drop i steps ≡ [] = ap (λ k. drop k steps) q ∙ drop-length steps in
      (rw f at h.state, rw f at h.numbers)
