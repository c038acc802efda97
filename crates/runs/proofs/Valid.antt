-- A book is well formed: as many steps stand in it as it says. A buffer whose first bytes were set is filled.
use Rattle.std.specs.Prelude.{Some, None, Option}
use Rattle.std.proofs.Common.{ℕ, zero, suc, ◌≡◌, ◌≤◌, ◌+◌, ◌&&◌, Bool, true, false, leb, List, [], ◌∷◌, ◌++◌, length, drop, refl, ap, ◌∙◌, zero-add, arith}
use Rattle.std.proofs.lemmas.List.Edits.{sets, sets-eq}
use Rattle.std.proofs.lemmas.Bool.{false≢true}
use Rattle.protocol.specs.Book.{read_step, steps_from, on_read, valid_from, well_formed, count_of, start_of}
use Rattle.protocol.specs.Run.{steps_read}
use Rattle.protocol.specs.Step.{step_of}
use Rattle.protocol.specs.Steps.{answers}
use Rattle.protocol.specs.declared.State.{State}
use Rattle.protocol.specs.declared.Step.{Step}

pub valid_some : (s : List ℕ) (n at next : ℕ) (step : Step) → read_step s at ≡ Some (step, next) → valid_from s (suc n) at ≡ valid_from s n next
unfolding valid_from
valid_some s n at next step e = ap (λ r. on_read r false (λ step next. valid_from s n next)) e

pub valid_none : (s : List ℕ) (n at : ℕ) → read_step s at ≡ None → valid_from s (suc n) at ≡ false
unfolding valid_from
valid_none s n at e = ap (λ r. on_read r false (λ step next. valid_from s n next)) e

steps_count : (s : List ℕ) (n at : ℕ) → valid_from s n at ≡ true → length (steps_from s n at) ≡ n
unfolding valid_from steps_from
steps_count s zero at e = refl
steps_count s (suc n) at e = go (steps_count s n) (read_step s at) e
  where
    go : ((next : ℕ) → valid_from s n next ≡ true → length (steps_from s n next) ≡ n) → (r : Option (Step × ℕ)) → on_read r false (λ step next. valid_from s n next) ≡ true
        → length (on_read r [] (λ step next. step ∷ steps_from s n next)) ≡ suc n
    go more None q = absurd (false≢true q)
    go more (Some (step, next)) q = ap suc (more next q)

last_true : (a b c : Bool) → (a && b && c) ≡ true → c ≡ true
last_true true true c e = e
last_true true false c e = absurd (false≢true e)
last_true false b c e = absurd (false≢true e)

pub formed_count : (s : List ℕ) → well_formed s ≡ true → length (steps_read s) ≡ count_of s
unfolding well_formed
formed_count s e = steps_count s (count_of s) (start_of s) (last_true (leb (start_of s) (length s)) (leb (count_of s) 4096) (valid_from s (count_of s) (start_of s)) e)

answers_length : (m : State) (steps : List Step) → length (answers m steps) ≡ length steps
unfolding answers
answers_length m [] = refl
answers_length m (step ∷ steps) = ap suc (answers_length (step_of m step).state steps)

pub filled_by_sets : (m : State) (steps : List Step) (a : List ℕ) → length steps ≤ length a → sets a 0 (answers m steps) ≡ answers m steps ++ drop (length steps) a
filled_by_sets m steps a h =
    let few : 0 + length (answers m steps) ≤ length a = omega (arith, answers_length m steps) in
    sets-eq (answers m steps) a 0 few ∙ ap (λ k. answers m steps ++ drop k a) (zero-add _ ∙ answers_length m steps)
