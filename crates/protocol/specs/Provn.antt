-- The chain of a walk as a PROV-N document (RULES.md, PROV-N), and what the call that writes it gives.
use Rattle.std.specs.Prelude.{ℕ, zero, suc, ◌+◌, Bool, true, false, List, [], ◌∷◌, ◌++◌, length, get_or, set, replicate}
use Prim.Native.Char.{code}
use Prim.Native.String.{String, [] as empty, ◌∷◌ as ◌before◌}
use Rattle.protocol.specs.Words.{pick, bit}
use Rattle.protocol.specs.Listing.{decimal}
use Rattle.protocol.specs.Walk.{walk_of}
use Rattle.protocol.specs.Chain.{chain_of, Interaction}
use Rattle.protocol.specs.Lent.{first, lent, short_no, over, Written}
use Rattle.protocol.specs.declared.State.{State}

abbrev pub bytes : String → List ℕ
bytes empty = []
bytes (c before s) = code c ∷ bytes s

-- the lines of a document: an i is an interaction's key, an a an actor's number
pub data Line : Type 0 where
  document : Line
  prefix : Line
  entity : (i : ℕ) → Line
  activity : (a : ℕ) → Line
  was_generated_by : (i a : ℕ) → Line
  used : (a i : ℕ) → Line
  was_derived_from : (effect cause : ℕ) → Line
  end_document : Line

abbrev pub interaction_name : ℕ → List ℕ
interaction_name i = bytes "r:i" ++ decimal i

abbrev pub actor_name : ℕ → List ℕ
actor_name a = bytes "r:a" ++ decimal a

unfoldable pub words_of : Line → List ℕ
words_of document = bytes "document"
words_of prefix = bytes "prefix r <urn:runs:>"
words_of (entity i) = bytes "entity(" ++ (interaction_name i ++ bytes ")")
words_of (activity a) = bytes "activity(" ++ (actor_name a ++ bytes ",-,-)")
words_of (was_generated_by i a) = bytes "wasGeneratedBy(" ++ (interaction_name i ++ (bytes "," ++ (actor_name a ++ bytes ",-)")))
words_of (used a i) = bytes "used(" ++ (actor_name a ++ (bytes "," ++ (interaction_name i ++ bytes ",-)")))
words_of (was_derived_from effect cause) =
    bytes "wasDerivedFrom(" ++ (interaction_name effect ++ (bytes "," ++ (interaction_name cause ++ bytes ")")))
words_of end_document = bytes "endDocument"

-- each line ended by a line feed
abbrev pub line_text : Line → List ℕ
line_text line = words_of line ++ (10 ∷ [])

unfoldable pub text_of : List Line → List ℕ
text_of [] = []
text_of (line ∷ lines) = line_text line ++ text_of lines

-- `entity(r:i0)` for each interaction met
unfoldable pub entities : List Interaction → List Line
entities [] = []
entities (met ∷ chain) = entity met.key ∷ entities chain

-- `activity(r:a0,-,-)` for each actor that sent one, once, in the order first met; a flag for each actor that is declared
unfoldable pub activities : List Bool → List Interaction → List Line
activities declared [] = []
activities declared (met ∷ chain) =
    pick (get_or declared met.sender false) (activities declared chain)
    (activity met.sender ∷ activities (set declared met.sender true) chain)

-- for each cause, rising, `used(r:a0,r:i0,-)` by the same sender and `wasDerivedFrom(r:i1,r:i0)`, effect first
-- (the causes among the n numbers from j)
unfoldable pub derivations : Interaction → ℕ → ℕ → List Line
derivations met zero j = []
derivations met (suc n) j =
    pick (bit met.causes j) (used met.sender j ∷ was_derived_from met.key j ∷ derivations met n (j + 1))
    (derivations met n (j + 1))

-- then for each interaction `wasGeneratedBy(r:i0,r:a0,-)` and its causes
unfoldable pub relations : List Interaction → List Line
relations [] = []
relations (met ∷ chain) = was_generated_by met.key met.sender ∷ (derivations met 16 0 ++ relations chain)

unfoldable pub lines_of : List Interaction → List Line
lines_of chain =
    document ∷ prefix ∷ (entities chain ++ (activities (replicate 8 false) chain ++ (relations chain ++ (end_document ∷ []))))

abbrev pub provn_text : State → ℕ → List ℕ
provn_text m k = text_of (lines_of (chain_of m k))

-- the walk's own refusals first, then 14 exactly if the text is longer than the buffer
unfoldable pub provn_no : State → ℕ → List ℕ → ℕ
provn_no m k buffer = first (walk_of m k).answer (short_no (provn_text m k) buffer)

-- it goes into a lent buffer, the count of bytes is returned and the rest stays; with nothing written where it is refused
abbrev pub provn_of : State → ℕ → List ℕ → Written
provn_of m k buffer =
    record { answer = provn_no m k buffer; len = lent (provn_no m k buffer) (length (provn_text m k)) 0 }

abbrev pub provn_buffer : State → ℕ → List ℕ → List ℕ
provn_buffer m k buffer = lent (provn_no m k buffer) (over (provn_text m k) buffer) buffer
