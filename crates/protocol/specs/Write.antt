-- The bytes that a reading is written as: the book's format, from the other side.
use Rattle.std.specs.Prelude.{ℕ, ◌/◌, ◌%◌, List, [], ◌∷◌, ◌++◌, length}
use Rattle.protocol.specs.declared.Step.{Step}
use Rattle.protocol.specs.Kinds.{numbers, on_send}
use Rattle.protocol.specs.Book.{Reading}

-- each kind then its fields, one byte each, but data four bytes and causes two, low first
abbrev pub written : Step → List ℕ
written s =
    on_send s
    (λ from to own word causes.
    1 ∷ from ∷ to ∷ own ∷ word % 256 ∷ word / 256 % 256 ∷ word / 65536 % 256 ∷ word / 16777216 ∷ causes % 256 ∷ causes / 256 ∷ [])
    (numbers s)

unfoldable pub written_steps : List Step → List ℕ
written_steps [] = []
written_steps (step ∷ steps) = written step ++ written_steps steps

-- each home then list
unfoldable pub written_rows : List ℕ → List ℕ → List ℕ
written_rows [] lists = []
written_rows (home ∷ homes) [] = []
written_rows (home ∷ homes) (list ∷ lists) = home ∷ list ∷ written_rows homes lists

unfoldable pub written_book : Reading → List ℕ
written_book b =
    b.stores ∷ length b.homes ∷ written_rows b.homes b.lists
    ++ (length b.steps % 256 ∷ length b.steps / 256 ∷ written_steps b.steps)
