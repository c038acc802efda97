-- From the text of a chain the chain is recovered, so walks that differ never give the same text; and the longest text.
-- Every line of a chain is read back (Lines), the lines state the chain (Stated), and a walk's chain is lawful (Walks).
-- Assumes nothing.
use Prim.Native.Nat.{ℕ, zero, suc, ◌+◌, ◌≤◌, ◌<◌}
use mathlib.Core.Path.{◌≡◌, refl, sym, ap, ◌∙◌}
use mathlib.Core.Bool.{Bool, true, false}
use mathlib.Core.List.{List, [], ◌∷◌, ◌++◌, map}
use native.Mathlib.Omega.{arith}
use native.Mathlib.Nat.{mod-eq_of_lt}
use lib.Dec.{eqb}
use lib.ListN.{get_or, set, replicate}
use borrow.Author.Tests.{eqb-true, eqb-false}
use Rattle.protocol.specs.Words.{bit, times}
use Rattle.protocol.specs.Slots.{number, view}
use Rattle.protocol.specs.Walk.{walk_of}
use Rattle.protocol.specs.Chain.{stated, keys_of, chain_of, Interaction}
use Rattle.protocol.specs.Provn.{entities, activities, derivations, relations, lines_of}
use Rattle.protocol.specs.declared.State.{State}
use Rattle.unbroken.proofs.Laws.Tests.{by_test}
use Rattle.chains.specs.Reading.{chain_read, recovered}
use Rattle.chains.specs.Chains.{Each, none, more, Lawful, sixteen_bits, ChainRecovered, WalkRecovered, ValueRecovered, OneChain, Longest, OneDocument}
use Rattle.chains.proofs.Lines.{Fair, fair_document, fair_prefix, fair_entity, fair_activity, fair_generated, fair_used, fair_derived, fair_end, lines_read}
use Rattle.chains.proofs.Stated.{lines_state}
use Rattle.chains.proofs.Walks.{chain_lawful, keys_once, no_chain}
use Rattle.chains.proofs.Lengths.{text_long}

each_append : {A : Type 0} {P : A → Type 0} {xs ys : List A} → Each P xs → Each P ys → Each P (xs ++ ys)
each_append none q = q
each_append (more p ps) q = more p (each_append ps q)

entities_fair : {chain : List Interaction} → Each Lawful chain → Each Fair (entities chain)
unfolding entities
entities_fair none = none
entities_fair (more {x = met} l rest) = more (fair_entity met.key (omega (arith, l.key16))) (entities_fair rest)

activities_fair : (declared : List Bool) {chain : List Interaction} → Each Lawful chain → Each Fair (activities declared chain)
unfolding activities
activities_fair declared none = none
activities_fair declared (more {x = met} l rest) =
    by_test (get_or declared met.sender false)
    (λ t. simp t (activities_fair declared rest))
    (λ t. simp t (more (fair_activity met.sender (omega (arith, l.sender8))) (activities_fair (set declared met.sender true) rest)))

derivations_fair : {met : Interaction} → Lawful met → (n j : ℕ) → n + j ≤ 16 → Each Fair (derivations met n j)
unfolding derivations
derivations_fair l zero j h = none
derivations_fair {met} l (suc n) j h =
    let rest = derivations_fair l n (j + 1) (omega arith) in
    let low : j < 100 = omega arith in
    by_test (bit met.causes j)
    (λ t. simp t (more (fair_used met.sender j (omega (arith, l.sender8)) low) (more (fair_derived met.key j (omega (arith, l.key16)) low) rest)))
    (λ t. simp t rest)

relations_fair : {chain : List Interaction} → Each Lawful chain → Each Fair (relations chain)
unfolding relations
relations_fair none = none
relations_fair (more {x = met} l rest) =
    more (fair_generated met.key met.sender (omega (arith, l.key16)) (omega (arith, l.sender8)))
    (each_append (derivations_fair l 16 0 (omega arith)) (relations_fair rest))

lines_fair : {chain : List Interaction} → Each Lawful chain → Each Fair (lines_of chain)
unfolding lines_of
lines_fair l =
    more fair_document (more fair_prefix (each_append (entities_fair l) (each_append (activities_fair (replicate 8 false) l)
    (each_append (relations_fair l) (more fair_end none)))))

pub chain_recovered : ChainRecovered
chain_recovered chain l = ap chain_read (lines_read (lines_fair l)) ∙ lines_state chain

pub walk_recovered : WalkRecovered
walk_recovered m k e = chain_recovered (chain_of m k) (chain_lawful m k e)

pub one_chain : OneChain
one_chain m n k l e f same = sym (walk_recovered m k e) ∙ ap recovered same ∙ walk_recovered n l f

-- sixteen bits are all that a value has
stated_bits : (m : State) → ((i : ℕ) → (view m (number i 0)).causes < 65536) → (keys : List ℕ) → map sixteen_bits (map (stated m) keys) ≡ map (stated m) keys
stated_bits m h [] = refl
stated_bits m h (k ∷ keys) = λ i. record { key = k; sender = (view m (number k 0)).actor; causes = mod-eq_of_lt (h k) i } ∷ stated_bits m h keys i

pub value_recovered : ValueRecovered
unfolding chain_of
value_recovered m k h e = walk_recovered m k e ∙ stated_bits m h (keys_of (walk_of m k))

stated_keys : (m : State) (keys : List ℕ) → map (λ (met : Interaction). met.key) (map (stated m) keys) ≡ keys
stated_keys m [] = refl
stated_keys m (k ∷ keys) = ap (λ (l : List ℕ). k ∷ l) (stated_keys m keys)

pub longest : Longest
longest m k =
    by_test (eqb (walk_of m k).answer 0)
    (λ t. let e = eqb-true (walk_of m k).answer 0 t in text_long (chain_lawful m k e) (once e))
    (λ t. rw (no_chain m k (eqb-false (walk_of m k).answer 0 t)) (text_long none (λ i. empty i)))
  where
    once : (walk_of m k).answer ≡ 0 → (i : ℕ) → times i (map (λ (met : Interaction). met.key) (chain_of m k)) ≤ 1
    once e i = unfold chain_of in rw (stated_keys m (keys_of (walk_of m k))) (keys_once m k e i)

    empty : (i : ℕ) → times i [] ≤ 1
    empty i = unfold times in omega arith

pub one_document : OneDocument
one_document m k buffer x y b c p q r s = (p ∙ sym r, q ∙ sym s)
