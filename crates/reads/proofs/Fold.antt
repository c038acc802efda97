-- A run folds the steps, and its answers are those of the fold, by induction over the steps that are read. Assumes nothing.
use Prim.Native.Nat.{ℕ, ◌+◌, ◌-◌, ◌≤◌}
use mathlib.Core.Path.{◌≡◌, refl, sym, ap, ◌∙◌}
use mathlib.Core.Logic.{◌≢◌}
use mathlib.Core.Bool.{Bool, true, false}
use mathlib.Core.List.{List, [], ◌∷◌, ◌++◌, append_assoc}
use native.Mathlib.Omega.{arith}
use lib.Dec.{eqb}
use lib.ListN.{length, get_or, take, drop}
use lib.Seq.{get_or_at, get_or-append-add, get_or-drop, take_at}
use Rattle.protocol.specs.Words.{pick, times}
use Rattle.protocol.specs.Setup.{setup_of}
use Rattle.protocol.specs.declared.State.{State}
use Rattle.protocol.specs.Step.{step_of}
use Rattle.protocol.specs.declared.Step.{Step}
use Rattle.protocol.specs.Book.{setup_read, reading_of}
use Rattle.protocol.specs.Run.{Ran, ran, answers, steps_read, fresh_of, book_no, refused_run, full_run, run_of, filled, buffer_of}
use Rattle.reads.proofs.Some.{answers_append}
use Rattle.reads.proofs.Formed.{answers_length, accepted, legal_machine}
use Rattle.reads.specs.Run.{next, folded, RunFolds, AnswersFold, BehindStay, RefusedBook, TakenAreZeros, OneResult}

-- a run that is not refused starts from the machine of its setup
starts : (s : List ℕ) (room : ℕ) → book_no s room ≡ 0 → (setup_of (setup_read s)).state ≡ fresh_of (setup_read s)
starts s room e = legal_machine (setup_read s) (accepted s room e).legal

ran_folds : (m : State) (steps : List Step) → ran m steps ≡ folded next m steps
unfolding ran folded
ran_folds m [] = refl
ran_folds m (step ∷ steps) = ran_folds (next m step) steps

pub run_folds : RunFolds
unfolding run_of reading_of
run_folds s room e = rw (starts s room e) (simp e (ran_folds (fresh_of (setup_read s)) (steps_read s)))

answer_at : (m : State) (xs : List Step) (x : Step) (ys : List Step) (buffer : List ℕ) → get_or (filled m (xs ++ (x ∷ ys)) buffer) (length xs) 0 ≡ (step_of (folded next m xs) x).answer
unfolding filled answers
answer_at m xs x ys buffer =
    rw (answers_append m xs (x ∷ ys), append_assoc, ← ran_folds m xs)
    (get_or_at (answers m xs) _ _ 0 (length xs) (answers_length m xs))

pub answers_fold : AnswersFold
unfolding buffer_of reading_of
answers_fold s buffer before step behind e q =
    rw (starts s (length buffer) e) (simp (e, q) (answer_at (fresh_of (setup_read s)) before step behind buffer))

filled_behind : (m : State) (steps : List Step) (buffer : List ℕ) (i : ℕ) → length steps ≤ i → get_or (filled m steps buffer) i 0 ≡ get_or buffer i 0
unfolding filled
filled_behind m steps buffer i h =
    let n : length (answers m steps) ≡ length steps = answers_length m steps in
    let k : i ≡ length (answers m steps) + (i - length steps) = omega arith in
    let j : length steps + (i - length steps) ≡ i = omega arith in
    ap (λ (x : ℕ). get_or (answers m steps ++ drop (length steps) buffer) x 0) k
    ∙ get_or-append-add (answers m steps) (drop (length steps) buffer) (i - length steps) 0
    ∙ get_or-drop (length steps) buffer (i - length steps) 0 ∙ ap (λ (x : ℕ). get_or buffer x 0) j

pub behind_stay : BehindStay
unfolding buffer_of reading_of
behind_stay s buffer i h = go (eqb (book_no s (length buffer)) 0)
  where
    go : (t : Bool) → get_or (pick t (filled (fresh_of (setup_read s)) (steps_read s) buffer) buffer) i 0 ≡ get_or buffer i 0
    go true = filled_behind (fresh_of (setup_read s)) (steps_read s) buffer i h
    go false = refl

-- what the book's number gives
module _ (s buffer : List ℕ) where
  abbrev given : Bool → Ran
  given taken = pick taken (full_run (fresh_of (setup_read s)) (steps_read s)) (refused_run (book_no s (length buffer)))

  abbrev left : Bool → List ℕ
  left taken = pick taken (filled (fresh_of (setup_read s)) (steps_read s) buffer) buffer

  gives_nothing : (taken : Bool) → (given taken).answer ≢ 0 → (given taken ≡ refused_run (given taken).answer) × (left taken ≡ buffer)
  gives_nothing true n = absurd (n refl)
  gives_nothing false n = (refl, refl)

pub refused_book : RefusedBook
unfolding run_of buffer_of
refused_book s buffer n = let x = gives_nothing s buffer (eqb (book_no s (length buffer)) 0) n in record { result = x.0; stays = x.1 }

taken_filled : (m : State) (steps : List Step) (buffer : List ℕ) → times 0 (answers m steps) ≡ times 0 (take (length steps) (filled m steps buffer))
unfolding filled
taken_filled m steps buffer = ap (times 0) (sym (take_at (answers m steps) (drop (length steps) buffer) (length steps) (answers_length m steps)))

pub taken_are_zeros : TakenAreZeros
unfolding run_of buffer_of reading_of
taken_are_zeros s buffer e = simp e (taken_filled (fresh_of (setup_read s)) (steps_read s) buffer)

pub one_result_holds : OneResult
one_result_holds s buffer r q x y p o = (p.result ∙ sym o.result, p.written ∙ sym o.written)
