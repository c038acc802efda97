-- A PROV-N text read back: its lines, each line, and the chain that they state.
use Rattle.std.specs.Prelude.{ℕ, ◌+◌, ◌*◌, ◌-◌, ◌^◌, List, [], ◌∷◌, map, ltb, eqb, get_or, drop}
use Rattle.protocol.specs.Words.{pick}
use Rattle.protocol.specs.Provn.{Line, document, prefix, entity, activity, was_generated_by, used, was_derived_from, end_document}
use Rattle.protocol.specs.Chain.{Interaction}

-- what stands before each line feed
abbrev pub onto_first : ℕ → List (List ℕ) → List (List ℕ)
onto_first b [] = (b ∷ []) ∷ []
onto_first b (line ∷ lines) = (b ∷ line) ∷ lines

unfoldable pub lines_in : List ℕ → List (List ℕ)
lines_in [] = []
lines_in (b ∷ text) = pick (eqb b 10) ([] ∷ lines_in text) (onto_first b (lines_in text))

-- the number that bytes begin with, and what stands behind it: a comma and a bracket are below the digits
unfoldable pub number_in : ℕ → List ℕ → ℕ
number_in n [] = n
number_in n (b ∷ text) = pick (ltb b 48) n (number_in (n * 10 + (b - 48)) text)

unfoldable pub behind : List ℕ → List ℕ
behind [] = []
behind (b ∷ text) = pick (ltb b 48) (b ∷ text) (behind text)

-- the number at a place, and the second one: `,r:` and a letter are between
abbrev pub first_at : ℕ → List ℕ → ℕ
first_at place line = number_in 0 (drop place line)

abbrev pub second_at : ℕ → List ℕ → ℕ
second_at place line = number_in 0 (drop 4 (behind (drop place line)))

-- 100 `d`, 112 `p`, 97 `a`, 117 `u`, 101 `e`, else `w`; 116 `t` in `entity`, 71 `G` in `wasGeneratedBy`
unfoldable pub line_read : List ℕ → Line
line_read line =
    pick (eqb (get_or line 0 0) 100) document
    (pick (eqb (get_or line 0 0) 112) prefix
    (pick (eqb (get_or line 0 0) 97) (activity (first_at 12 line))
    (pick (eqb (get_or line 0 0) 117) (used (first_at 8 line) (second_at 8 line))
    (pick (eqb (get_or line 0 0) 101) (pick (eqb (get_or line 2 0) 116) (entity (first_at 10 line)) end_document)
    (pick (eqb (get_or line 3 0) 71) (was_generated_by (first_at 18 line) (second_at 18 line))
    (was_derived_from (first_at 18 line) (second_at 18 line)))))))

-- the causes that are stated before the next interaction's `was_generated_by`
unfoldable pub causes_read : List Line → ℕ
causes_read [] = 0
causes_read (document ∷ lines) = causes_read lines
causes_read (prefix ∷ lines) = causes_read lines
causes_read (entity i ∷ lines) = causes_read lines
causes_read (activity a ∷ lines) = causes_read lines
causes_read (was_generated_by i a ∷ lines) = 0
causes_read (used a i ∷ lines) = causes_read lines
causes_read (was_derived_from effect cause ∷ lines) = 2 ^ cause + causes_read lines
causes_read (end_document ∷ lines) = causes_read lines

-- an interaction for each `was_generated_by`
unfoldable pub chain_read : List Line → List Interaction
chain_read [] = []
chain_read (document ∷ lines) = chain_read lines
chain_read (prefix ∷ lines) = chain_read lines
chain_read (entity i ∷ lines) = chain_read lines
chain_read (activity a ∷ lines) = chain_read lines
chain_read (was_generated_by i a ∷ lines) = record { key = i; sender = a; causes = causes_read lines } ∷ chain_read lines
chain_read (used a i ∷ lines) = chain_read lines
chain_read (was_derived_from effect cause ∷ lines) = chain_read lines
chain_read (end_document ∷ lines) = chain_read lines

abbrev pub recovered : List ℕ → List Interaction
recovered text = chain_read (map line_read (lines_in text))
