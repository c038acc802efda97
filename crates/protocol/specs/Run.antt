-- What a run of a book gives: the result and the answer buffer.
use Rattle.std.specs.Prelude.{ℕ, Bool, not, List, ◌++◌, ltb, eqb, length, drop}
use Rattle.protocol.specs.Words.{pick, times}
use Rattle.protocol.specs.Setup.{legal, fresh_with, empty_machine}
use Rattle.protocol.specs.declared.State.{State}
use Rattle.protocol.specs.declared.Setup.{Setup}
use Rattle.protocol.specs.declared.Step.{Step}
unfoldable pub use Rattle.protocol.specs.Steps.{ran, answers}
use Rattle.protocol.specs.Book.{well_formed, setup_read, steps_from, count_of, start_of}

-- what a run of a book gives: the machine after it, its number, how many steps the book has and how many were taken
pub record Ran : Type 0 where
  pub state : State
  pub answer : ℕ
  pub steps : ℕ
  pub taken : ℕ

-- the steps of a book, and the fresh machine of its setup
abbrev pub steps_read : List ℕ → List Step
steps_read s = steps_from s (count_of s) (start_of s)

abbrev pub legal_setup : Setup → Bool
legal_setup u = legal u.stores u.actors u.homes u.lists

abbrev pub fresh_of : Setup → State
fresh_of u = fresh_with u.stores u.actors u.homes u.lists

-- 10 book malformed, 11 setup illegal, 12 answer buffer shorter than the steps
unfoldable pub book_no : List ℕ → ℕ → ℕ
book_no s room =
    pick (not (well_formed s)) 10
    (pick (not (legal_setup (setup_read s))) 11 (pick (ltb room (length (steps_read s))) 12 0))

-- 10, 11 and 12 return the empty machine
abbrev pub refused_run : ℕ → Ran
refused_run n = record { state = empty_machine; answer = n; steps = 0; taken = 0 }

abbrev pub full_run : State → List Step → Ran
full_run m steps = record { state = ran m steps; answer = 0; steps = length steps; taken = times 0 (answers m steps) }

unfoldable pub run_of : List ℕ → ℕ → Ran
run_of s room = pick (eqb (book_no s room) 0) (full_run (fresh_of (setup_read s)) (steps_read s)) (refused_run (book_no s room))

-- Every step writes its number into the answer buffer at its own index; bytes behind stay.
unfoldable pub filled : State → List Step → List ℕ → List ℕ
filled m steps buffer = answers m steps ++ drop (length steps) buffer

-- A refusal writes nothing.
unfoldable pub buffer_of : List ℕ → List ℕ → List ℕ
buffer_of s buffer =
    pick (eqb (book_no s (length buffer)) 0) (filled (fresh_of (setup_read s)) (steps_read s) buffer) buffer
