-- What a well-formed book has: its steps to the end, as many as it says, behind its rows, and one answer for each; and what a book has that
-- is not refused. Assumes nothing.
use Rattle.std.specs.Prelude.{Some, None, Option}
use Prim.Native.Nat.{ℕ, zero, suc, ◌≤◌}
use mathlib.Core.Path.{◌≡◌, refl, ap}
use mathlib.Core.Bool.{true, false, ◌&&◌, false≢true, and-eq-true_iff}
use mathlib.Core.List.{List, [], ◌∷◌}
use lib.Dec.{leb}
use lib.ListN.{length}
use Rattle.std.proofs.Common.{rules}
use Rattle.protocol.specs.Setup.{setup_of}
use Rattle.protocol.specs.declared.State.{State}
use Rattle.protocol.specs.declared.Setup.{Setup}
use Rattle.protocol.specs.Step.{step_of}
use Rattle.protocol.specs.declared.Step.{Step}
use Rattle.protocol.specs.Book.{read_step, valid_from, steps_from, on_read, well_formed, setup_read, start_of, count_of}
use Rattle.protocol.specs.Run.{answers, steps_read, legal_setup, fresh_of, book_no}

on_valid : (s : List ℕ) (n : ℕ) (r : Option (Step × ℕ)) → ((p : ℕ) → valid_from s n p ≡ true → length (steps_from s n p) ≡ n)
    → on_read r false (λ step p. valid_from s n p) ≡ true → length (on_read r [] (λ step p. step ∷ steps_from s n p)) ≡ suc n
on_valid s n None f e = absurd (false≢true e)
on_valid s n (Some (step, p)) f e = ap suc (f p e)

valid_length : (s : List ℕ) (n at : ℕ) → valid_from s n at ≡ true → length (steps_from s n at) ≡ n
unfolding valid_from steps_from
valid_length s zero at e = refl
valid_length s (suc n) at e = on_valid s n (read_step s at) (valid_length s n) e

pub valid_all : (s : List ℕ) → well_formed s ≡ true → valid_from s (count_of s) (start_of s) ≡ true
unfolding well_formed
valid_all s e = ((and-eq-true_iff (leb (start_of s) (length s) && leb (count_of s) 4096) (valid_from s (count_of s) (start_of s))).0 e).1

pub start_fits : (s : List ℕ) → well_formed s ≡ true → start_of s ≤ length s
unfolding well_formed
start_fits s e = search rules

pub count_steps : (s : List ℕ) → well_formed s ≡ true → length (steps_read s) ≡ count_of s
count_steps s e = valid_length s (count_of s) (start_of s) (valid_all s e)

-- a step has one answer
pub answers_length : (m : State) (steps : List Step) → length (answers m steps) ≡ length steps
unfolding answers
answers_length m [] = refl
answers_length m (step ∷ steps) = ap suc (answers_length (step_of m step).state steps)

-- what a book that is not refused has
pub record Accepted (s : List ℕ) (room : ℕ) : Type 0 where
  pub formed : well_formed s ≡ true
  pub legal : legal_setup (setup_read s) ≡ true
  pub fits : length (steps_read s) ≤ room

pub accepted : (s : List ℕ) (room : ℕ) → book_no s room ≡ 0 → Accepted s room
unfolding book_no
accepted s room e = search rules

pub legal_machine : (u : Setup) → legal_setup u ≡ true → (setup_of u).state ≡ fresh_of u
unfolding setup_of
legal_machine u e = simp e
