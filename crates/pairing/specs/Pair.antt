-- The pair rule, old and new (RULES.md, The pair rule): a model and its scaler travel together, and so must their records.
use Rattle.std.specs.Prelude.{ℕ, zero, suc, ◌+◌, ◌/◌, ◌%◌, Bool, false, ◌&&◌, ◌||◌, not, List, leb, ltb, eqb, get_or}
use Rattle.protocol.specs.Words.{pick, bit, one, table, all_below}
use Rattle.protocol.specs.Slots.{number, view, lasting_contents, no_contents}
use Rattle.protocol.specs.Walk.{walk_of, Walked}
use Rattle.protocol.specs.declared.State.{State}
use Rattle.protocol.specs.declared.Contents.{Contents}

-- what a check gives: refused with a number, or 0 and whether the rule passes; where it is refused nothing passes
pub record Checked : Type 0 where
  pub answer : ℕ
  pub passes : Bool

-- The data word gets a meaning: high byte 1 for weights, 2 for a scaler, 3 for a forecast, low 24 bits a bundle number.
abbrev pub kind_of : ℕ → ℕ
kind_of word = word / 16777216

abbrev pub bundle_of : ℕ → ℕ
bundle_of word = word % 16777216

-- an interaction's sender record, in the store where it is settled: its data is the interaction's word, its asserter the sender
abbrev pub record_of : State → ℕ → Contents
record_of m k = lasting_contents m (view m (number k 0)).store (number k 0)

-- The interactions met in a walk, in their order: the record of each of sixteen places, nothing behind the last.
abbrev pub met_at : State → Walked → ℕ → Contents
met_at m w i = pick (ltb i w.count) (record_of m (get_or w.keys i 0)) no_contents

abbrev pub met_of : State → Walked → List Contents
met_of m w = table (met_at m w) 16

-- a record of a kind: 1 weights, 2 a scaler, 3 a forecast; and one of the two that travel together
abbrev pub is_a : ℕ → Contents → Bool
is_a kind c = eqb (kind_of c.word) kind

abbrev pub is_part : Contents → Bool
is_part c = is_a 1 c || is_a 2 c

-- how many of the first n places a test holds of
unfoldable pub counted : ℕ → (ℕ → Bool) → ℕ
counted zero p = 0
counted (suc n) p = counted n p + one (p n)

abbrev pub how_many : ℕ → List Contents → ℕ
how_many kind met = counted 16 (λ i. is_a kind (get_or met i no_contents))

-- Rule one, for runs under the old registry: among the interactions met is at least one weights word and one scaler word, and all
-- of both kinds have the forecast's bundle number.
abbrev pub has_bundle : ℕ → Contents → Bool
has_bundle bundle c = not (is_part c) || eqb (bundle_of c.word) bundle

abbrev pub all_have : ℕ → List Contents → Bool
all_have bundle met = all_below 16 (λ i. has_bundle bundle (get_or met i no_contents))

unfoldable pub rule_one : List Contents → ℕ → Bool
rule_one met bundle = leb 1 (how_many 1 met) && leb 1 (how_many 2 met) && all_have bundle met

-- Rule two, from the new registry on: as rule one, and there is exactly one of each, both are direct causes of the forecast, and
-- both came from the same sender.
abbrev pub is_cause : ℕ → ℕ → Bool
is_cause causes k = ltb k 16 && bit causes k

abbrev pub is_direct : ℕ → ℕ → Contents → Bool
is_direct causes k c = not (is_part c) || is_cause causes k

abbrev pub all_direct : ℕ → List ℕ → List Contents → Bool
all_direct causes keys met = all_below 16 (λ i. is_direct causes (get_or keys i 0) (get_or met i no_contents))

-- the sender of the one of a kind (of the last, where there are more)
unfoldable pub last_sender : ℕ → ℕ → List Contents → ℕ
last_sender kind zero met = 0
last_sender kind (suc n) met = pick (is_a kind (get_or met n no_contents)) (get_or met n no_contents).asserter (last_sender kind n met)

abbrev pub sender_of : ℕ → List Contents → ℕ
sender_of kind met = last_sender kind 16 met

unfoldable pub two_adds : List Contents → List ℕ → ℕ → Bool
two_adds met keys causes =
    eqb (how_many 1 met) 1 && eqb (how_many 2 met) 1 && all_direct causes keys met && eqb (sender_of 1 met) (sender_of 2 met)

unfoldable pub rule_two : List Contents → ℕ → List ℕ → ℕ → Bool
rule_two met bundle keys causes = rule_one met bundle && two_adds met keys causes

-- The caller names the rule; both stay.
abbrev pub is_rule : ℕ → Bool
is_rule rule = eqb rule 1 || eqb rule 2

unfoldable pub passes_of : ℕ → List Contents → List ℕ → Contents → Bool
passes_of rule met keys f = pick (eqb rule 1) (rule_one met (bundle_of f.word)) (rule_two met (bundle_of f.word) keys f.causes)

abbrev pub refused_check : ℕ → Checked
refused_check n = record { answer = n; passes = false }

abbrev pub answered_check : Bool → Checked
answered_check p = record { answer = 0; passes = p }

-- .. then the walk's own, then 20 if the key's word isn't a forecast.
unfoldable pub checked_of : State → Walked → ℕ → Contents → Checked
checked_of m w rule f =
    pick (eqb w.answer 0)
    (pick (is_a 3 f) (answered_check (passes_of rule (met_of m w) w.keys f)) (refused_check 20))
    (refused_check w.answer)

-- A check of a forecast key looks at its walk. Refusals: 19 for a rule number other than 1 or 2 ..
unfoldable pub check_of : State → ℕ → ℕ → Checked
check_of m rule k = pick (is_rule rule) (checked_of m (walk_of m k) rule (record_of m k)) (refused_check 19)
