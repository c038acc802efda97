-- The lines of a chain state it: each `was_generated_by` is followed by the causes of its own interaction, and sixteen bits
-- are the sum of those that are set. Assumes nothing.
use Prim.Native.Nat.{ℕ, zero, suc, ◌+◌, ◌*◌, ◌/◌, ◌%◌, ◌^◌, ◌<◌}
use mathlib.Core.Path.{◌≡◌, refl, ap, ◌∙◌}
use mathlib.Core.Bool.{Bool, true, false}
use mathlib.Core.List.{List, [], ◌∷◌, ◌++◌, map, append_assoc}
use native.Mathlib.Omega.{arith}
use native.Mathlib.Numerals.{add-one}
use native.Mathlib.Nat.{pow-succ', mod-lt, mod-one, add-zero}
use lib.Arith.{mod-mul}
use lib.Pow.{pow_pos}
use lib.Dec.{eqb}
use lib.ListN.{get_or, set, replicate}
use borrow.Author.Tests.{eqb-true, eqb-false}
use Rattle.protocol.specs.Words.{bit, one}
use Rattle.protocol.specs.Provn.{Line, end_document, entities, activities, derivations, relations, lines_of}
use Rattle.protocol.specs.Chain.{Interaction}
use Rattle.unbroken.proofs.Laws.Tests.{by_test}
use Rattle.chains.specs.Reading.{causes_read, chain_read}
use Rattle.chains.specs.Chains.{sixteen_bits}

entities_state : (chain : List Interaction) (lines : List Line) → chain_read (entities chain ++ lines) ≡ chain_read lines
unfolding entities chain_read
entities_state [] lines = refl
entities_state (met ∷ chain) lines = entities_state chain lines

activities_state : (declared : List Bool) (chain : List Interaction) (lines : List Line) → chain_read (activities declared chain ++ lines) ≡ chain_read lines
unfolding activities chain_read
activities_state declared [] lines = refl
activities_state declared (met ∷ chain) lines =
    by_test (get_or declared met.sender false)
    (λ t. simp t (activities_state declared chain lines))
    (λ t. simp t (activities_state (set declared met.sender true) chain lines))

derivations_state : (met : Interaction) (n j : ℕ) (lines : List Line) → chain_read (derivations met n j ++ lines) ≡ chain_read lines
unfolding derivations chain_read
derivations_state met zero j lines = refl
derivations_state met (suc n) j lines =
    by_test (bit met.causes j)
    (λ t. simp t (derivations_state met n (j + 1) lines))
    (λ t. simp t (derivations_state met n (j + 1) lines))

-- one more bit of a number
bit_more : (x j : ℕ) → x % 2 ^ (j + 1) ≡ one (bit x j) * 2 ^ j + x % 2 ^ j
bit_more x j =
    rw add-one (rw (pow-succ' 2 j)
    (mod-mul x {m = 2} {c = 2 ^ j} (omega arith) (pow_pos j) ∙ ap (λ (b : ℕ). b * 2 ^ j + x % 2 ^ j) (digit (x / 2 ^ j % 2) (mod-lt (x / 2 ^ j) (omega arith)))))
  where
    digit : (d : ℕ) → d < 2 → d ≡ one (eqb d 1)
    digit d h = by_test (eqb d 1) (λ t. rw t (eqb-true d 1 t)) (λ t. rw t (let f = eqb-false d 1 t in zero_of d h f))
      where
        zero_of : (d : ℕ) → d < 2 → (d ≡ 1 → ⊥) → d ≡ 0
        zero_of zero h f = refl
        zero_of (suc d) h f = absurd (f (omega arith))

-- the causes from j on, and the bits below j, are all bits
causes_sum : (met : Interaction) (n j : ℕ) (lines : List Line) → causes_read lines ≡ 0
    → causes_read (derivations met n j ++ lines) + met.causes % 2 ^ j ≡ met.causes % 2 ^ (j + n)
unfolding derivations causes_read
causes_sum met zero j lines e = rw (add-zero j, e) (omega arith)
causes_sum met (suc n) j lines e =
    let next = causes_sum met n (j + 1) lines e in
    let more = bit_more met.causes j in
    let same : j + 1 + n ≡ j + suc n = omega arith in
    let last : causes_read (derivations met n (j + 1) ++ lines) + met.causes % 2 ^ (j + 1) ≡ met.causes % 2 ^ (j + suc n) = next ∙ ap (λ (i : ℕ). met.causes % 2 ^ i) same in
    by_test (bit met.causes j)
    (λ t. simp t (omega (arith, last, simp t at more)))
    (λ t. simp t (omega (arith, last, simp t at more)))

relations_first : (chain : List Interaction) → causes_read (relations chain ++ (end_document ∷ [])) ≡ 0
unfolding relations causes_read
relations_first [] = refl
relations_first (met ∷ chain) = refl

relations_state : (chain : List Interaction) → chain_read (relations chain ++ (end_document ∷ [])) ≡ map sixteen_bits chain
unfolding relations chain_read
relations_state [] = refl
relations_state (met ∷ chain) =
    let tail : List Line = relations chain ++ (end_document ∷ []) in
    let sum = causes_sum met 16 0 tail (relations_first chain) in
    let causes : causes_read (derivations met 16 0 ++ tail) ≡ met.causes % 65536 = omega (arith, sum, mod-one met.causes) in
    rw append_assoc (λ i. record { key = met.key; sender = met.sender; causes = causes i } ∷ (derivations_state met 16 0 tail ∙ relations_state chain) i)

pub lines_state : (chain : List Interaction) → chain_read (lines_of chain) ≡ map sixteen_bits chain
unfolding lines_of chain_read
lines_state chain =
    entities_state chain _ ∙ activities_state (replicate 8 false) chain _ ∙ relations_state chain
