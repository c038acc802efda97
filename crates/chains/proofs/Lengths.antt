-- How long a text can be: each interaction has its own weight, at most that of all causes below it; distinct keys below
-- sixteen weigh at most what all sixteen do, and each of eight actors is declared at most once. Assumes nothing.
use Prim.Native.Nat.{ℕ, zero, suc, ◌+◌, ◌*◌, ◌≤◌, ◌<◌}
use mathlib.Core.Path.{◌≡◌, refl, sym, ap, ◌∙◌}
use mathlib.Core.Bool.{Bool, true, false}
use mathlib.Core.List.{List, [], ◌∷◌, ◌++◌, map}
use native.Mathlib.Omega.{arith}
use native.Mathlib.Nat.{mul-le-mul_right, zero-mul, one-mul, add-mul}
use native.Mathlib.Decide.{dec_lt}
use lib.Dec.{ltb, eqb}
use lib.ListN.{length, get_or, set, replicate, length-append, length-set}
use borrow.Author.Tests.{lt-ltb, eq-eqb, ne_eqb}
use Rattle.protocol.specs.Words.{pick, bit, one, times}
use Rattle.protocol.specs.Listing.{decimal}
use Rattle.protocol.specs.Provn.{Line, entity, activity, was_generated_by, used, was_derived_from, words_of, text_of, entities, activities, derivations, relations, lines_of}
use Rattle.protocol.specs.Chain.{Interaction}
use Rattle.unbroken.proofs.Laws.Tests.{by_test}
use Rattle.reaches.specs.Tally.{ones}
use Rattle.reaches.proofs.Counted.{ones_low, ones_set}
use Rattle.chains.specs.Chains.{Each, none, more, Lawful}

abbrev digits : ℕ → ℕ
digits n = length (decimal n)

-- the bytes of each line, but for its line feed
entity_long : (i : ℕ) → length (words_of (entity i)) ≡ 11 + digits i
unfolding words_of
entity_long i = simp length-append (omega arith)

activity_long : (a : ℕ) → length (words_of (activity a)) ≡ 17 + digits a
unfolding words_of
activity_long a = simp length-append (omega arith)

generated_long : (i a : ℕ) → length (words_of (was_generated_by i a)) ≡ 25 + digits i + digits a
unfolding words_of
generated_long i a = simp length-append (omega arith)

used_long : (a i : ℕ) → length (words_of (used a i)) ≡ 15 + digits a + digits i
unfolding words_of
used_long a i = simp length-append (omega arith)

derived_long : (i j : ℕ) → length (words_of (was_derived_from i j)) ≡ 23 + digits i + digits j
unfolding words_of
derived_long i j = simp length-append (omega arith)

-- one digit for an actor
sender_digit : (a : ℕ) → a < 8 → digits a ≡ 1
unfolding decimal
sender_digit a h = rw (lt-ltb a 10 (omega arith))

-- the causes below k that are among the n numbers from j, all of them
derived_weight : ℕ → ℕ → ℕ → ℕ
derived_weight k zero j = 0
derived_weight k (suc n) j = pick (ltb j k) (41 + digits k + 2 * digits j) 0 + derived_weight k n (j + 1)

-- `entity`, `was_generated_by` and all causes below
weight : ℕ → ℕ
weight k = 39 + 2 * digits k + derived_weight k 16 0

weights : List ℕ → ℕ
weights [] = 0
weights (k ∷ keys) = weight k + weights keys

text_append : (xs ys : List Line) → length (text_of (xs ++ ys)) ≡ length (text_of xs) + length (text_of ys)
unfolding text_of
text_append [] ys = omega arith
text_append (x ∷ xs) ys = simp length-append (omega (arith, text_append xs ys))

derivations_long : (met : Interaction) → Lawful met → (n j : ℕ) → n + j ≤ 16 → length (text_of (derivations met n j)) ≤ derived_weight met.key n j
unfolding derivations text_of derived_weight
derivations_long met l zero j h = omega arith
derivations_long met l (suc n) j h =
    let next = derivations_long met l n (j + 1) (omega arith) in
    by_test (bit met.causes j)
    (λ t. simp (t, lt-ltb j met.key (l.below j (omega arith) t), length-append {A = ℕ})
    (omega (arith, next, used_long met.sender j, derived_long met.key j, sender_digit met.sender l.sender8)))
    (λ t. simp t (omega (arith, next)))

-- entities and relations, interaction by interaction
chain_long : {chain : List Interaction} → Each Lawful chain
    → length (text_of (entities chain)) + length (text_of (relations chain)) ≤ weights (map (λ met. met.key) chain)
unfolding entities relations text_of weights weight
chain_long none = omega arith
chain_long (more {x = met} {l = chain} l rest) =
    simp (text_append, length-append {A = ℕ})
    (omega (arith, chain_long rest, entity_long met.key, generated_long met.key met.sender, sender_digit met.sender l.sender8, derivations_long met l 16 0 (omega arith)))

-- each declaration sets a flag
activities_long : (declared : List Bool) → length declared ≡ 8 → {chain : List Interaction} → Each Lawful chain
    → length (text_of (activities declared chain)) + 19 * ones declared ≤ 152
unfolding activities text_of
activities_long declared e none = omega (arith, e, ones_low declared)
activities_long declared e (more {x = met} {l = chain} l rest) =
    let s : ℕ = met.sender in
    let inside : s < length declared = omega (arith, e, l.sender8) in
    by_test (get_or declared s false)
    (λ t. simp t (activities_long declared e rest))
    (λ t. simp (t, length-append {A = ℕ})
    (omega (arith, activity_long s, sender_digit s l.sender8, ones_set declared s inside t, activities_long (set declared s true) (length-set declared s true ∙ e) rest)))

-- sums over the numbers below n
sum : (ℕ → ℕ) → ℕ → ℕ
sum f zero = 0
sum f (suc n) = sum f n + f n

sum_zero : (f : ℕ → ℕ) (n : ℕ) → sum (λ i. 0 * f i) n ≡ 0
unfolding sum
sum_zero f zero = refl
sum_zero f (suc n) = omega (arith, sum_zero f n, zero-mul (f n))

sum_add : (f g h : ℕ → ℕ) → ((i : ℕ) → h i ≡ f i + g i) → (n : ℕ) → sum h n ≡ sum f n + sum g n
unfolding sum
sum_add f g h e zero = refl
sum_add f g h e (suc n) = omega (arith, sum_add f g h e n, e n)

sum_le : (f g : ℕ → ℕ) → ((i : ℕ) → f i ≤ g i) → (n : ℕ) → sum f n ≤ sum g n
unfolding sum
sum_le f g h zero = omega arith
sum_le f g h (suc n) = omega (arith, sum_le f g h n, h n)

-- of the numbers below n one is x
at_other : (f : ℕ → ℕ) (x i : ℕ) → (x ≡ i → ⊥) → one (eqb x i) * f i ≡ 0
at_other f x i h = rw (ne_eqb x i h) (zero-mul (f i))

sum_behind : (f : ℕ → ℕ) (x n : ℕ) → n ≤ x → sum (λ i. one (eqb x i) * f i) n ≡ 0
unfolding sum
sum_behind f x zero h = refl
sum_behind f x (suc n) h = omega (arith, sum_behind f x n (omega arith), at_other f x n (λ e. omega (arith, e)))

sum_one : (f : ℕ → ℕ) (x n : ℕ) → x < n → sum (λ i. one (eqb x i) * f i) n ≡ f x
unfolding sum
sum_one f x zero h = absurd (omega arith)
sum_one f x (suc n) h =
    elim (dec_lt x n) [
      | yes q ↦ omega (arith, sum_one f x n q, at_other f x n (λ e. omega (arith, e)))
      | no q ↦ (let e : x ≡ n = omega arith in let here : one (eqb x n) * f n ≡ f x = rw (eq-eqb x n e) (one-mul (f n) ∙ ap f (sym e)) in omega (arith, sum_behind f x n (omega arith), here))
    ]

-- what keys weigh, counted by number
weights_counted : {n : ℕ} {keys : List ℕ} → Each (λ i. i < n) keys → weights keys ≡ sum (λ i. times i keys * weight i) n
unfolding weights times
weights_counted {n} none = sym (sum_zero weight n)
weights_counted {n} (more {x = x} {l = keys} h rest) =
    let both = sum_add (λ i. one (eqb x i) * weight i) (λ i. times i keys * weight i) (λ i. (one (eqb x i) + times i keys) * weight i) (λ i. add-mul (one (eqb x i)) (times i keys) (weight i)) n in
    omega (arith, both, sum_one weight x n h, weights_counted rest)

once_le : (t w : ℕ) → t ≤ 1 → t * w ≤ w
once_le t w h = omega (arith, mul-le-mul_right w h, one-mul w)

all_weights : sum weight 16 ≡ 6053
unfolding sum weight derived_weight decimal
all_weights = refl

keys_weigh : {keys : List ℕ} → Each (λ i. i < 16) keys → ((i : ℕ) → times i keys ≤ 1) → weights keys ≤ 6053
keys_weigh {keys} low once =
    omega (arith, weights_counted low, sum_le (λ i. times i keys * weight i) weight (λ i. once_le (times i keys) (weight i) (once i)) 16, all_weights)

key_low : {chain : List Interaction} → Each Lawful chain → Each (λ i. i < 16) (map (λ met. met.key) chain)
key_low none = none
key_low (more l rest) = more l.key16 (key_low rest)

pub text_long : {chain : List Interaction} → Each Lawful chain → ((i : ℕ) → times i (map (λ met. met.key) chain) ≤ 1) → length (text_of (lines_of chain)) ≤ 6247
unfolding lines_of text_of words_of ones
text_long {chain} lawful once =
    simp (text_append, length-append {A = ℕ})
    (omega (arith, chain_long lawful, keys_weigh (key_low lawful) once, activities_long (replicate 8 false) refl lawful))
