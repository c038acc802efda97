-- The turns of the loops that write a document, and the parts of it one behind the other. Assumes nothing.
use Prim.Native.Nat.{ℕ, suc, ◌+◌, ◌-◌, ◌≤◌, ◌<◌}
use mathlib.Core.Path.{◌≡◌, refl, sym, ap, ◌∙◌}
use mathlib.Core.Bool.{Bool, true, false}
use mathlib.Core.List.{List, [], ◌∷◌, ◌++◌, append_assoc, map}
use native.Mathlib.Numerals.{add-one}
use native.Mathlib.Omega.{arith}
use lib.ListN.{length, get_or, set, drop, replicate, drop_of_length-le}
use lib.Seq.{drop-cons}
use Rattle.protocol.specs.Words.{bit}
use Rattle.protocol.specs.Chain.{Interaction, stated}
use Rattle.protocol.specs.Provn.{Line, bytes, words_of, entity, activity, was_generated_by, used, was_derived_from, line_text, text_of, entities, activities, derivations, relations, lines_of}
use Rattle.protocol.specs.declared.State.{State}
use Rattle.lending.specs.Text.{wrote}
use Rattle.lending.proofs.Appending.{wrote_append}

text_append : (xs ys : List Line) → text_of (xs ++ ys) ≡ text_of xs ++ text_of ys
unfolding text_of
text_append [] ys = refl
text_append (x ∷ xs) ys = ap (λ (l : List ℕ). line_text x ++ l) (text_append xs ys) ∙ sym (append_assoc (line_text x) (text_of xs) (text_of ys))

-- a text, and these lines behind it
abbrev pub wrote_lines : List ℕ → List Line → List ℕ
wrote_lines text lines = wrote 6247 text (text_of lines)

wrote_line : (text : List ℕ) (line : Line) (lines : List Line) → wrote_lines (wrote 6247 text (line_text line)) lines ≡ wrote_lines text (line ∷ lines)
unfolding text_of
wrote_line text line lines = sym (wrote_append 6247 text (line_text line) (text_of lines))

wrote_more : (text : List ℕ) (xs ys : List Line) → wrote_lines (wrote_lines text xs) ys ≡ wrote_lines text (xs ++ ys)
wrote_more text xs ys = sym (wrote_append 6247 text (text_of xs) (text_of ys)) ∙ ap (wrote 6247 text) (sym (text_append xs ys))

-- what the loops over the keys have left to write, from the key at i on
abbrev pub chain_from : State → List ℕ → ℕ → List Interaction
chain_from m keys i = map (stated m) (drop i keys)

module _ (m : State) (keys : List ℕ) (i : ℕ) (here : i < length keys) (key : ℕ) (is : key ≡ get_or keys i 0) (text : List ℕ) where
  next : chain_from m keys i ≡ stated m key ∷ chain_from m keys (i + 1)
  next = rw add-one (ap (map (stated m)) (drop-cons keys i 0 here) ∙ ap (λ (k : ℕ). stated m k ∷ chain_from m keys (suc i)) (sym is))

  pub entities_turn : wrote_lines (wrote 6247 text (line_text (entity key))) (entities (chain_from m keys (i + 1)))
      ≡ wrote_lines text (entities (chain_from m keys i))
  unfolding entities
  entities_turn = wrote_line text (entity key) _ ∙ sym (ap (λ (l : List Interaction). wrote_lines text (entities l)) next)

  pub declared_turn : (declared : List Bool) → get_or declared (stated m key).sender false ≡ true
      → wrote_lines text (activities declared (chain_from m keys (i + 1))) ≡ wrote_lines text (activities declared (chain_from m keys i))
  unfolding activities
  declared_turn declared t = sym (ap (λ (l : List Interaction). wrote_lines text (activities declared l)) next ∙ simp t)

  pub activities_turn : (declared : List Bool) → get_or declared (stated m key).sender false ≡ false
      → wrote_lines (wrote 6247 text (line_text (activity (stated m key).sender))) (activities (set declared (stated m key).sender true) (chain_from m keys (i + 1)))
      ≡ wrote_lines text (activities declared (chain_from m keys i))
  unfolding activities
  activities_turn declared t =
      wrote_line text (activity (stated m key).sender) _ ∙ sym (ap (λ (l : List Interaction). wrote_lines text (activities declared l)) next ∙ simp t)

  pub relations_turn :
      wrote_lines (wrote_lines (wrote 6247 text (line_text (was_generated_by key (stated m key).sender))) (derivations (stated m key) 16 0)) (relations (chain_from m keys (i + 1)))
      ≡ wrote_lines text (relations (chain_from m keys i))
  unfolding relations
  relations_turn =
      ap (λ (t : List ℕ). wrote_lines t (relations (chain_from m keys (i + 1)))) (wrote_line text (was_generated_by key (stated m key).sender) (derivations (stated m key) 16 0))
      ∙ wrote_more text (was_generated_by key (stated m key).sender ∷ derivations (stated m key) 16 0) _
      ∙ sym (ap (λ (l : List Interaction). wrote_lines text (relations l)) next)

module _ (m : State) (keys : List ℕ) (i : ℕ) (past : length keys ≤ i) (text : List ℕ) where
  none : chain_from m keys i ≡ []
  none = ap (map (stated m)) (drop_of_length-le keys past)

  pub entities_none : wrote_lines text (entities (chain_from m keys i)) ≡ text
  unfolding wrote text_of entities
  entities_none = ap (λ (l : List Interaction). wrote_lines text (entities l)) none

  pub activities_none : (declared : List Bool) → wrote_lines text (activities declared (chain_from m keys i)) ≡ text
  unfolding wrote text_of activities
  activities_none declared = ap (λ (l : List Interaction). wrote_lines text (activities declared l)) none

  pub relations_none : wrote_lines text (relations (chain_from m keys i)) ≡ text
  unfolding wrote text_of relations
  relations_none = ap (λ (l : List Interaction). wrote_lines text (relations l)) none

module _ (met : Interaction) (text : List ℕ) (j : ℕ) where
  pub causes_none : 16 ≤ j → wrote_lines text (derivations met (16 - j) j) ≡ text
  unfolding wrote text_of derivations
  causes_none h = let z : 16 - j ≡ 0 = omega arith in ap (λ (n : ℕ). wrote_lines text (derivations met n j)) z

  module _ (h : j < 16) where
    one_more : 16 - j ≡ suc (16 - (j + 1))
    one_more = omega arith

    pub cause_turn : bit met.causes j ≡ true
        → wrote_lines (wrote 6247 text (line_text (used met.sender j) ++ line_text (was_derived_from met.key j))) (derivations met (16 - (j + 1)) (j + 1))
        ≡ wrote_lines text (derivations met (16 - j) j)
    unfolding derivations
    cause_turn t =
        ap (λ (s : List ℕ). wrote_lines s (derivations met (16 - (j + 1)) (j + 1))) (wrote_append 6247 text (line_text (used met.sender j)) (line_text (was_derived_from met.key j)))
        ∙ wrote_line (wrote 6247 text (line_text (used met.sender j))) (was_derived_from met.key j) _
        ∙ wrote_line text (used met.sender j) _
        ∙ sym (ap (λ (n : ℕ). wrote_lines text (derivations met n j)) one_more ∙ simp t)

    pub other_turn : bit met.causes j ≡ false → wrote_lines text (derivations met (16 - (j + 1)) (j + 1)) ≡ wrote_lines text (derivations met (16 - j) j)
    unfolding derivations
    other_turn t = sym (ap (λ (n : ℕ). wrote_lines text (derivations met n j)) one_more ∙ simp t)

-- the parts one behind the other
module _ (chain : List Interaction) where
  as_one : (t xs ys : List ℕ) → wrote 6247 (wrote 6247 t xs) ys ≡ wrote 6247 t (xs ++ ys)
  as_one t xs ys = sym (wrote_append 6247 t xs ys)

  parts : wrote 6247 (wrote_lines (wrote_lines (wrote_lines (wrote 6247 [] (bytes "document\nprefix r <urn:runs:>\n")) (entities chain)) (activities (replicate 8 false) chain)) (relations chain)) (bytes "endDocument\n")
      ≡ wrote_lines [] (lines_of chain)
  unfolding lines_of text_of words_of
  parts = simp (as_one, text_append, append_assoc)

  pub document_written : {none a b c d e : List ℕ} → none ≡ [] → a ≡ wrote 6247 none (bytes "document\nprefix r <urn:runs:>\n")
      → b ≡ wrote_lines a (entities chain) → c ≡ wrote_lines b (activities (replicate 8 false) chain) → d ≡ wrote_lines c (relations chain)
      → e ≡ wrote 6247 d (bytes "endDocument\n") → e ≡ wrote_lines [] (lines_of chain)
  document_written z p q r s t =
      t ∙ ap (λ (x : List ℕ). wrote 6247 x (bytes "endDocument\n"))
      (s ∙ ap (λ (x : List ℕ). wrote_lines x (relations chain))
      (r ∙ ap (λ (x : List ℕ). wrote_lines x (activities (replicate 8 false) chain))
      (q ∙ ap (λ (x : List ℕ). wrote_lines x (entities chain))
      (p ∙ ap (λ (x : List ℕ). wrote 6247 x (bytes "document\nprefix r <urn:runs:>\n")) z)))) ∙ parts
