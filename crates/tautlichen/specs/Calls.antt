-- The calls of the library, each a function of a book as the machine's history: its number, 0 where it is done, and what it
-- writes. Every lent value is written where the number is 0, and stays where it is not.
use Rattle.std.specs.Prelude.{ℕ, List, length}
use Rattle.protocol.specs.Run.{Ran, run_of}
use Rattle.protocol.specs.Drain.{Drained, drain_of}
use Rattle.protocol.specs.Walk.{Walked, walk_of}
use Rattle.reaches.specs.Reaches.{keys_of}
use Rattle.protocol.specs.Listing.{listing_of}
use Rattle.protocol.specs.Provn.{provn_text, provn_no}
use Rattle.protocol.specs.Lent.{first, short_no}
use Rattle.protocol.specs.Words.{pick}
use Rattle.pairing.specs.Pair.{Checked, is_rule, check_of}

-- the listing of a run
abbrev pub ran_listing : Ran → List ℕ
ran_listing r = listing_of r.state r.steps r.taken

-- The run with its listing: the run's own refusals first, then 14.
abbrev pub list_text : List ℕ → List ℕ → List ℕ
list_text book answers = ran_listing (run_of book (length answers))

unfoldable pub list_no : List ℕ → List ℕ → List ℕ → ℕ
list_no book answers text = first (run_of book (length answers)).answer (short_no (list_text book answers) text)

-- The machine after a book: a run with room for the answers of every step that a book may have.
abbrev pub history : List ℕ → Ran
history book = run_of book 4096

-- The drain after a book, and the listing after it, with the steps of the book: the run's refusals, the drain's, then 14.
abbrev pub drain_after : List ℕ → Drained
drain_after book = drain_of (history book).state

abbrev pub drain_text : List ℕ → List ℕ
drain_text book = listing_of (drain_after book).state (history book).steps (history book).taken

unfoldable pub drain_no : List ℕ → List ℕ → ℕ
drain_no book text = first (history book).answer (first (drain_after book).answer (short_no (drain_text book) text))

-- The walk of a key after a book: the run's refusals, the walk's, then 14.
abbrev pub walk_after : List ℕ → ℕ → Walked
walk_after book key = walk_of (history book).state key

unfoldable pub walk_no : List ℕ → ℕ → List ℕ → ℕ
walk_no book key keys = first (history book).answer (first (walk_after book key).answer (short_no (keys_of (walk_after book key)) keys))

-- The walk of a key after a book as a PROV-N document: the run's refusals, the walk's, then 14.
abbrev pub lineage_text : List ℕ → ℕ → List ℕ
lineage_text book key = provn_text (history book).state key

unfoldable pub lineage_no : List ℕ → ℕ → List ℕ → ℕ
lineage_no book key text = first (history book).answer (provn_no (history book).state key text)

-- The pair rule of a key after a book: 19 for another rule, then the run's refusals, then the check's.
abbrev pub pair_after : List ℕ → ℕ → ℕ → Checked
pair_after book rule key = check_of (history book).state rule key

unfoldable pub pair_no : List ℕ → ℕ → ℕ → ℕ
pair_no book rule key = pick (is_rule rule) (first (history book).answer (pair_after book rule key).answer) 19
