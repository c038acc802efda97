-- The example book and another, run by computation, and the idle programs that they shut out: each differs in the answer, in
-- what was made, in the receiver's phase, or in the buffer. Assumes nothing.
use Prim.Native.Nat.{ℕ}
use mathlib.Core.Path.{◌≡◌, refl, sym, ap, ◌∙◌}
use mathlib.Core.List.{List, [], ◌∷◌}
use native.Mathlib.Omega.{arith}
use lib.ListN.{length, get_or}
use Rattle.protocol.specs.Words.{all_from, table, times, all_below}
use Rattle.protocol.specs.Slots.{number, view}
use Rattle.protocol.specs.Setup.{legal_actor, legal_actors, legal, fresh_with, empty_machine, setup_of}
use Rattle.protocol.specs.Broken.{slots_fine, setup_fine, rows_fine, links_fine, view_fine, queue_fine, message_fine, repair_fine, entry_fine, records_fine, updates_fine, contents_fine, same_links, held_links_fine, viewlinks_fine, notes_fine, store_fine, jobs_fine, places_fine, whole_of, broken_of}
use Rattle.protocol.specs.Send.{causes_known, send_no, sent}
use Rattle.protocol.specs.Receive.{receive_no, received_of}
use Rattle.protocol.specs.Timeout.{timeout_no, timed_out}
use Rattle.protocol.specs.Step.{rule_of, step_of}
use Rattle.protocol.specs.declared.Step.TheVariants.{Send, Receive, Timeout}
use Rattle.protocol.specs.Book.{width_of, repair_made, short_made, step_made, read_step, valid_from, steps_from, start_of, count_of, well_formed, setup_read, reading_of}
use Rattle.protocol.specs.Run.{ran, answers, book_no, run_of, filled, buffer_of}
use Rattle.protocol.specs.Listing.{large, decimal, counts_line, link_text, place_text, line_of, view_line, lines_to, listing_of}
use Rattle.reads.specs.Run.{folded, after, example, ExampleRuns, Program, Meets, IdleShutOut}

pub example_runs : ExampleRuns
unfolding all_from table times all_below legal_actor legal_actors legal fresh_with empty_machine slots_fine setup_fine rows_fine links_fine view_fine queue_fine message_fine repair_fine entry_fine records_fine updates_fine contents_fine same_links held_links_fine viewlinks_fine notes_fine store_fine jobs_fine places_fine whole_of broken_of causes_known send_no sent receive_no received_of timeout_no timed_out rule_of step_of width_of repair_made short_made step_made read_step valid_from steps_from start_of count_of well_formed setup_read ran answers book_no run_of filled buffer_of large decimal counts_line link_text place_text line_of view_line lines_to listing_of
example_runs = record { refusal = refl; listing = refl; answered = refl }

-- the same of what was made and received, of the steps, and of the machines that an idle program would give
example_made : (run_of example 4).state.made ≡ 1
unfolding all_from table times all_below legal_actor legal_actors legal fresh_with empty_machine slots_fine setup_fine rows_fine links_fine view_fine queue_fine message_fine repair_fine entry_fine records_fine updates_fine contents_fine same_links held_links_fine viewlinks_fine notes_fine store_fine jobs_fine places_fine whole_of broken_of causes_known send_no sent receive_no received_of timeout_no timed_out rule_of step_of width_of repair_made short_made step_made read_step valid_from steps_from start_of count_of well_formed setup_read ran answers book_no run_of filled buffer_of
example_made = refl

example_phase : (view (run_of example 4).state (number 0 1)).phase ≡ 1
unfolding all_from table times all_below legal_actor legal_actors legal fresh_with empty_machine slots_fine setup_fine rows_fine links_fine view_fine queue_fine message_fine repair_fine entry_fine records_fine updates_fine contents_fine same_links held_links_fine viewlinks_fine notes_fine store_fine jobs_fine places_fine whole_of broken_of causes_known send_no sent receive_no received_of timeout_no timed_out rule_of step_of width_of repair_made short_made step_made read_step valid_from steps_from start_of count_of well_formed setup_read ran answers book_no run_of filled buffer_of
example_phase = refl

example_steps : (reading_of example).steps ≡ Send 0 1 0 7 0 ∷ Receive 0 ∷ Timeout 0 2 ∷ []
unfolding width_of repair_made short_made step_made read_step steps_from start_of count_of reading_of
example_steps = refl

fresh_made : (after example []).made ≡ 0
unfolding folded all_from table legal_actor legal_actors legal fresh_with empty_machine setup_of setup_read
fresh_made = refl

first_phase : (view (after example (Send 0 1 0 7 0 ∷ [])) (number 0 1)).phase ≡ 0
unfolding folded all_from table times all_below legal_actor legal_actors legal fresh_with empty_machine setup_of slots_fine setup_fine rows_fine links_fine view_fine queue_fine message_fine repair_fine entry_fine records_fine updates_fine contents_fine same_links held_links_fine viewlinks_fine notes_fine store_fine jobs_fine places_fine whole_of broken_of causes_known send_no sent rule_of step_of setup_read
first_phase = refl

-- a send, its receipt, and the same again, which is refused
abbrev twice : List ℕ
twice = 3 ∷ 2 ∷ 0 ∷ 5 ∷ 1 ∷ 6 ∷ 3 ∷ 0 ∷ 1 ∷ 0 ∷ 1 ∷ 0 ∷ 7 ∷ 0 ∷ 0 ∷ 0 ∷ 0 ∷ 0 ∷ 2 ∷ 0 ∷ 2 ∷ 0 ∷ []

twice_steps : (reading_of twice).steps ≡ Send 0 1 0 7 0 ∷ Receive 0 ∷ Receive 0 ∷ []
unfolding width_of repair_made short_made step_made read_step steps_from start_of count_of reading_of
twice_steps = refl

twice_runs : ((run_of twice 4).answer ≡ 0) × (buffer_of twice (9 ∷ 9 ∷ 9 ∷ 9 ∷ []) ≡ 0 ∷ 0 ∷ 7 ∷ 9 ∷ [])
unfolding all_from table times all_below legal_actor legal_actors legal fresh_with empty_machine slots_fine setup_fine rows_fine links_fine view_fine queue_fine message_fine repair_fine entry_fine records_fine updates_fine contents_fine same_links held_links_fine viewlinks_fine notes_fine store_fine jobs_fine places_fine whole_of broken_of causes_known send_no sent receive_no received_of timeout_no timed_out rule_of step_of width_of repair_made short_made step_made read_step valid_from steps_from start_of count_of well_formed setup_read ran answers book_no run_of filled buffer_of
twice_runs = (refl, refl)

empty_refused : (run_of [] 4).answer ≡ 10
unfolding start_of count_of well_formed book_no run_of
empty_refused = refl

abbrev nines : List ℕ
nines = 9 ∷ 9 ∷ 9 ∷ 9 ∷ []

-- what a program gives that meets the promise
module _ (f : Program) (meets : Meets f) where
  taken : (f example nines).result.answer ≡ 0
  taken = ap (λ r. r.answer) (meets example nines).result ∙ example_runs.refusal

  exit_at : (i : ℕ) → get_or (f example nines).exit i 0 ≡ get_or (0 ∷ 0 ∷ 7 ∷ 9 ∷ []) i 0
  exit_at i = ap (λ (l : List ℕ). get_or l i 0) ((meets example nines).written ∙ example_runs.answered)

  twice_taken : (f twice nines).result.answer ≡ 0
  twice_taken = ap (λ r. r.answer) (meets twice nines).result ∙ twice_runs.0

  twice_at : (i : ℕ) → get_or (f twice nines).exit i 0 ≡ get_or (0 ∷ 0 ∷ 7 ∷ 9 ∷ []) i 0
  twice_at i = ap (λ (l : List ℕ). get_or l i 0) ((meets twice nines).written ∙ twice_runs.1)

pub idle_shut_out : IdleShutOut
idle_shut_out =
    record {
      refusing = λ f no meets. no example nines (taken f meets);
      constant =
          λ f same meets.
          let z : ◌≡◌ {A = ℕ} 0 10 = sym (taken f meets) ∙ same example [] nines ∙ ap (λ r. r.answer) (meets [] nines).result ∙ empty_refused in
          omega arith;
      constant_steps =
          λ f same meets.
          let n : length (reading_of example).steps ≡ 3 = ap length example_steps in
          let z : ◌≡◌ {A = ℕ} 0 7 = sym (exit_at f meets 0) ∙ same example nines 0 2 (taken f meets) (omega arith) (omega arith) ∙ exit_at f meets 2 in
          omega arith;
      unchanging =
          λ f idle meets.
          let z : ◌≡◌ {A = ℕ} 0 1 = sym (ap (λ m. m.made) (idle example nines (taken f meets)) ∙ fresh_made) ∙ ap (λ r. r.state.made) (meets example nines).result ∙ example_made in
          omega arith;
      first_machine =
          λ f idle meets.
          let p : (f example nines).result.state ≡ after example (Send 0 1 0 7 0 ∷ []) = idle example nines (Send 0 1 0 7 0) (Receive 0 ∷ Timeout 0 2 ∷ []) (taken f meets) example_steps in
          let z : ◌≡◌ {A = ℕ} 0 1 = sym (ap (λ m. (view m (number 0 1)).phase) p ∙ first_phase) ∙ ap (λ r. (view r.state (number 0 1)).phase) (meets example nines).result ∙ example_phase in
          omega arith;
      first_answer =
          λ f idle meets.
          let z : ◌≡◌ {A = ℕ} 0 9 = sym (exit_at f meets 1) ∙ idle example nines (Send 0 1 0 7 0) (Receive 0 ∷ Timeout 0 2 ∷ []) (taken f meets) example_steps 1 (omega arith) in
          omega arith;
      pretending =
          λ f pretend idle meets.
          let p = idle twice nines (Send 0 1 0 7 0) (Receive 0 ∷ Receive 0 ∷ []) (twice_taken f meets) twice_steps in
          let z : ◌≡◌ {A = ℕ} 0 7 = sym (twice_at f meets 1) ∙ p [] (Receive 0) (Receive 0 ∷ []) refl ∙ sym (p (Receive 0 ∷ []) (Receive 0) [] refl) ∙ twice_at f meets 2 in
          omega arith;
    }
