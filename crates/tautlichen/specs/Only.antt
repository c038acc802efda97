-- No two results of a call can both satisfy its promise: the number is one, and so is every lent value.
use Rattle.std.specs.Prelude.{ℕ, ◌≡◌, List, length}
use Rattle.protocol.specs.Run.{run_of, buffer_of}
use Rattle.reaches.specs.Reaches.{keys_of}
use Rattle.protocol.specs.Lent.{lent, over}
use Rattle.tautlichen.specs.Calls.{list_text, list_no, drain_after, drain_text, drain_no, walk_after, walk_no, lineage_text, lineage_no, pair_after, pair_no}
use Rattle.protocol.specs.Words.{one}

-- of two results with their numbers, where such is the number and such is written
abbrev pub Determined : {A : Type 0} → ℕ → A → A → Type 0
Determined {A} number written was =
    (n k : ℕ) (x y : A) → n ≡ number → x ≡ lent n written was → k ≡ number → y ≡ lent k written was → (n ≡ k) × (x ≡ y)

pub record EveryExport : Type 0 where
  pub run : (book answers : List ℕ) (n k : ℕ) (x y : List ℕ) →
      n ≡ (run_of book (length answers)).answer → x ≡ buffer_of book answers →
      k ≡ (run_of book (length answers)).answer → y ≡ buffer_of book answers → (n ≡ k) × (x ≡ y)
  pub list_answers : (book answers text : List ℕ) → Determined (list_no book answers text) (buffer_of book answers) answers
  pub list_text_holds : (book answers text : List ℕ) → Determined (list_no book answers text) (over (list_text book answers) text) text
  pub list_len : (book answers text : List ℕ) (len : ℕ) → Determined (list_no book answers text) (length (list_text book answers)) len
  pub drain_text_holds : (book text : List ℕ) → Determined (drain_no book text) (over (drain_text book) text) text
  pub drain_len : (book text : List ℕ) (len : ℕ) → Determined (drain_no book text) (length (drain_text book)) len
  pub drain_count : (book text : List ℕ) (count : ℕ) → Determined (drain_no book text) (drain_after book).count count
  pub walk_keys : (book : List ℕ) (key : ℕ) (keys : List ℕ) → Determined (walk_no book key keys) (over (keys_of (walk_after book key)) keys) keys
  pub walk_count : (book : List ℕ) (key : ℕ) (keys : List ℕ) (count : ℕ) → Determined (walk_no book key keys) (walk_after book key).count count
  pub walk_lookups : (book : List ℕ) (key : ℕ) (keys : List ℕ) (lookups : ℕ) → Determined (walk_no book key keys) (walk_after book key).lookups lookups
  pub lineage_text_holds : (book : List ℕ) (key : ℕ) (text : List ℕ) → Determined (lineage_no book key text) (over (lineage_text book key) text) text
  pub lineage_len : (book : List ℕ) (key : ℕ) (text : List ℕ) (len : ℕ) → Determined (lineage_no book key text) (length (lineage_text book key)) len
  pub pair_passes : (book : List ℕ) (rule key passes : ℕ) → Determined (pair_no book rule key) (one (pair_after book rule key).passes) passes
