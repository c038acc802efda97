-- A run is the fold of the steps, its promise leaves one result, and programs that do less are shut out.
use Rattle.std.specs.Prelude.{ℕ, ◌+◌, ◌≤◌, ◌<◌, ◌≡◌, ◌≢◌, List, [], ◌∷◌, ◌++◌, length, get_or, take}
use Rattle.protocol.specs.Words.{times}
use Rattle.protocol.specs.Setup.{empty_machine, setup_of}
use Rattle.protocol.specs.declared.State.{State}
use Rattle.protocol.specs.declared.Step.{Step}
use Rattle.protocol.specs.Step.{step_of}
use Rattle.protocol.specs.Run.{Ran, book_no, run_of, buffer_of}
use Rattle.protocol.specs.Book.{setup_read, reading_of}
use Rattle.protocol.specs.Listing.{listing_of}

-- the machine after a step, and after one step after another, from the left
abbrev pub next : State → Step → State
next m step = (step_of m step).state

unfoldable pub folded : {A B : Type 0} → (A → B → A) → A → List B → A
folded f a [] = a
folded f a (b ∷ bs) = folded f (f a b) bs

-- the machine after the first steps of a book
abbrev pub after : List ℕ → List Step → State
after s steps = folded next (setup_of (setup_read s)).state steps

-- A run is the fold of the steps from the fresh machine.
abbrev pub RunFolds : Type 0
RunFolds = (s : List ℕ) (room : ℕ) → book_no s room ≡ 0 → (run_of s room).state ≡ after s (reading_of s).steps

-- Each answer is the number of its own step, on the machine after the steps before it.
abbrev pub AnswersFold : Type 0
AnswersFold =
    (s buffer : List ℕ) (before : List Step) (step : Step) (behind : List Step) → book_no s (length buffer) ≡ 0
    → (reading_of s).steps ≡ before ++ (step ∷ behind)
    → get_or (buffer_of s buffer) (length before) 0 ≡ (step_of (after s before) step).answer

-- Bytes behind the steps stay.
abbrev pub BehindStay : Type 0
BehindStay =
    (s buffer : List ℕ) (i : ℕ) → length (reading_of s).steps ≤ i → get_or (buffer_of s buffer) i 0 ≡ get_or buffer i 0

-- The count taken is the number of zeros among the answers.
abbrev pub TakenAreZeros : Type 0
TakenAreZeros =
    (s buffer : List ℕ) → book_no s (length buffer) ≡ 0
    → (run_of s (length buffer)).taken ≡ times 0 (take (length (reading_of s).steps) (buffer_of s buffer))

-- what `run` promises of its result and of the buffer at exit
pub record Promised (s buffer : List ℕ) (r : Ran) (exit : List ℕ) : Type 0 where
  pub result : r ≡ run_of s (length buffer)
  pub written : exit ≡ buffer_of s buffer

-- No two results, machines or buffers can both satisfy it.
abbrev pub OneResult : Type 0
OneResult =
    (s buffer : List ℕ) (r q : Ran) (x y : List ℕ) → Promised s buffer r x → Promised s buffer q y → (r ≡ q) × (x ≡ y)

-- the example book: a send, its receipt, and a timeout that is refused
abbrev pub example : List ℕ
example =
    3 ∷ 2 ∷ 0 ∷ 5 ∷ 1 ∷ 6 ∷ 3 ∷ 0 ∷ 1 ∷ 0 ∷ 1 ∷ 0 ∷ 7 ∷ 0 ∷ 0 ∷ 0 ∷ 0 ∷ 0 ∷ 2 ∷ 0 ∷ 5 ∷ 0 ∷ 2 ∷ []

-- its listing: `3 2 1 3 2`, `0 0 1 0 -` and `0 1 1 1 -`, a line each
abbrev pub example_lines : List ℕ
example_lines =
    51 ∷ 32 ∷ 50 ∷ 32 ∷ 49 ∷ 32 ∷ 51 ∷ 32 ∷ 50 ∷ 10
    ∷ 48 ∷ 32 ∷ 48 ∷ 32 ∷ 49 ∷ 32 ∷ 48 ∷ 32 ∷ 45 ∷ 10
    ∷ 48 ∷ 32 ∷ 49 ∷ 32 ∷ 49 ∷ 32 ∷ 49 ∷ 32 ∷ 45 ∷ 10 ∷ []

-- what the recorder lists of a run
abbrev pub listed : Ran → List ℕ
listed r = listing_of r.state r.steps r.taken

-- its answers are 0, 0, 7, and the byte behind them stays
pub record ExampleRuns : Type 0 where
  pub refusal : (run_of example 4).answer ≡ 0
  pub listing : listed (run_of example 4) ≡ example_lines
  pub answered : buffer_of example (9 ∷ 9 ∷ 9 ∷ 9 ∷ []) ≡ 0 ∷ 0 ∷ 7 ∷ 9 ∷ []

-- A refused book returns the empty machine, runs no step, and writes nothing.
pub record Refused (s buffer : List ℕ) : Type 0 where
  pub result : run_of s (length buffer) ≡ record { state = empty_machine; answer = (run_of s (length buffer)).answer; steps = 0; taken = 0 }
  pub stays : buffer_of s buffer ≡ buffer

abbrev pub RefusedBook : Type 0
RefusedBook = (s buffer : List ℕ) → (run_of s (length buffer)).answer ≢ 0 → Refused s buffer

-- a program that is said to run every book: its result, and the buffer at its exit
pub record Shown : Type 0 where
  pub result : Ran
  pub exit : List ℕ

abbrev pub Program : Type 0
Program = (s buffer : List ℕ) → Shown

abbrev pub Meets : Program → Type 0
Meets f = (s buffer : List ℕ) → Promised s buffer (f s buffer).result (f s buffer).exit

-- how it would do less: it refuses everything
abbrev pub RefusesAll : Program → Type 0
RefusesAll f = (s buffer : List ℕ) → (f s buffer).result.answer ≢ 0

-- it answers every book alike, or every step of a book that it runs
abbrev pub AnswersAlike : Program → Type 0
AnswersAlike f = (s t buffer : List ℕ) → (f s buffer).result.answer ≡ (f t buffer).result.answer

abbrev pub AnswersStepsAlike : Program → Type 0
AnswersStepsAlike f =
    (s buffer : List ℕ) (i j : ℕ) → (f s buffer).result.answer ≡ 0 → i < length (reading_of s).steps → j < length (reading_of s).steps
    → get_or (f s buffer).exit i 0 ≡ get_or (f s buffer).exit j 0

-- it says taken and changes nothing
abbrev pub ChangesNothing : Program → Type 0
ChangesNothing f = (s buffer : List ℕ) → (f s buffer).result.answer ≡ 0 → (f s buffer).result.state ≡ after s []

-- it runs the first step: its machine is the one after that step, whatever it pretends of the rest; or no other answer is written
abbrev pub OfBooks : (List ℕ → List ℕ → Step → List Step → Type 0) → Program → Type 0
OfBooks P f =
    (s buffer : List ℕ) (first : Step) (rest : List Step) → (f s buffer).result.answer ≡ 0
    → (reading_of s).steps ≡ first ∷ rest → P s buffer first rest

abbrev pub FirstMachine : Program → Type 0
FirstMachine f = OfBooks (λ s buffer first rest. (f s buffer).result.state ≡ after s (first ∷ [])) f

abbrev pub FirstAnswer : Program → Type 0
FirstAnswer f = OfBooks (λ s buffer first rest. (i : ℕ) → 1 ≤ i → get_or (f s buffer).exit i 0 ≡ get_or buffer i 0) f

-- .. or it pretends the other answers, each from its own step and the machine after the first, since it runs none of them
abbrev pub PretendsAnswers : (State → Step → ℕ) → Program → Type 0
PretendsAnswers pretend f =
    OfBooks
    (λ s buffer first rest.
    (before : List Step) (step : Step) (behind : List Step) → rest ≡ before ++ (step ∷ behind)
    → get_or (f s buffer).exit (length before + 1) 0 ≡ pretend (after s (first ∷ [])) step)
    f

-- The four idle programs are shut out, the second and the last in each of their forms.
pub record IdleShutOut : Type 0 where
  pub refusing : (f : Program) → RefusesAll f → Meets f → ⊥
  pub constant : (f : Program) → AnswersAlike f → Meets f → ⊥
  pub constant_steps : (f : Program) → AnswersStepsAlike f → Meets f → ⊥
  pub unchanging : (f : Program) → ChangesNothing f → Meets f → ⊥
  pub first_machine : (f : Program) → FirstMachine f → Meets f → ⊥
  pub first_answer : (f : Program) → FirstAnswer f → Meets f → ⊥
  pub pretending : (f : Program) (pretend : State → Step → ℕ) → PretendsAnswers pretend f → Meets f → ⊥
