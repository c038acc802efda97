-- A book has at most 4,096 steps, so a run with room for so many tells of the run with any room: its number, and where that
-- is 0 all that it gives. By cases on the book; assumes nothing.
use Prim.Native.Nat.{ℕ, ◌≤◌}
use mathlib.Core.Path.{◌≡◌, refl, sym, ◌∙◌}
use mathlib.Core.Bool.{Bool, true, false, ◌&&◌, and-eq-true_iff}
use mathlib.Core.List.{List}
use native.Mathlib.Omega.{arith}
use lib.Dec.{leb, ltb, eqb}
use lib.ListN.{length, take, drop}
use lib.Seq.{take_at}
use borrow.Author.Tests.{leb-true, le-ltb, eqb-true}
use Rattle.protocol.specs.Words.{pick}
use Rattle.unbroken.proofs.Laws.Tests.{by_test}
use Rattle.protocol.specs.declared.State.{State}
use Rattle.protocol.specs.declared.Step.{Step}
use Rattle.protocol.specs.Run.{Ran, answers, steps_read, legal_setup, fresh_of, book_no, refused_run, full_run, run_of, filled, buffer_of}
use Rattle.protocol.specs.Book.{well_formed, setup_read, start_of, count_of, valid_from}
use Rattle.reads.proofs.Formed.{Accepted, accepted, count_steps, answers_length}
use Rattle.protocol.specs.Lent.{first, over}
use Rattle.tautlichen.specs.Calls.{history}

steps_few : (s : List ℕ) → well_formed s ≡ true → length (steps_read s) ≤ 4096
unfolding well_formed
steps_few s e =
    let few : count_of s ≤ 4096 = leb-true _ _ ((and-eq-true_iff (leb (start_of s) (length s)) (leb (count_of s) 4096)).0
    ((and-eq-true_iff (leb (start_of s) (length s) && leb (count_of s) 4096) (valid_from s (count_of s) (start_of s))).0 e).0).1 in
    omega (arith, count_steps s e)

short_no_holds : (full : Ran) (short : Bool) → full.answer ≡ 0
    → (pick (eqb (pick short 12 0) 0) full (refused_run (pick short 12 0))).answer ≡ pick short 12 0
short_no_holds full true e = refl
short_no_holds full false e = e

pub run_number : (s : List ℕ) (room : ℕ) → (run_of s room).answer ≡ first (history s).answer (pick (ltb room (history s).steps) 12 0)
unfolding run_of book_no
run_number s room =
    by_test (well_formed s)
    (λ w. by_test (legal_setup (setup_read s))
    (λ l. simp (w, l, le-ltb 4096 _ (steps_few s w)) (short_no_holds (full_run (fresh_of (setup_read s)) (steps_read s)) (ltb room (length (steps_read s))) refl))
    (λ l. simp (w, l)))
    (λ w. simp w)

book_number : (s : List ℕ) (room : ℕ) → (run_of s room).answer ≡ book_no s room
unfolding run_of
book_number s room = by_test (eqb (book_no s room) 0) (λ t. simp t (sym (eqb-true (book_no s room) 0 t))) (λ t. simp t)

-- what a run gives that is not refused
module _ (s : List ℕ) (room : ℕ) (done : (run_of s room).answer ≡ 0) where
  book_fits : Accepted s room
  book_fits = accepted s room (sym (book_number s room) ∙ done)

  whole_fits : book_no s 4096 ≡ 0
  unfolding book_no
  whole_fits = simp (book_fits.formed, book_fits.legal, le-ltb 4096 _ (steps_few s book_fits.formed))

  pub same_run : history s ≡ run_of s room
  unfolding run_of
  same_run = simp (whole_fits, sym (book_number s room) ∙ done)

  pub steps_fit : ((history s).steps ≤ 4096) × ((history s).steps ≤ room)
  unfolding run_of
  steps_fit = simp whole_fits (steps_few s book_fits.formed, book_fits.fits)

-- The answers of all steps, copied from a buffer that has room for them, are those of a run into the other buffer.
filled_over : (m : State) (steps : List Step) (a b : List ℕ) → over (take (length steps) (filled m steps b)) a ≡ filled m steps a
unfolding filled over
filled_over m steps a b =
    simp (take_at (answers m steps) (drop (length steps) b) (length steps) (answers_length m steps), answers_length m steps)

pub same_answers : (s a b : List ℕ) → (run_of s (length a)).answer ≡ 0 → length b ≡ 4096 → over (take (history s).steps (buffer_of s b)) a ≡ buffer_of s a
unfolding run_of buffer_of
same_answers s a b done long =
    simp (long, whole_fits s (length a) done, sym (book_number s (length a)) ∙ done) (filled_over (fresh_of (setup_read s)) (steps_read s) a b)
