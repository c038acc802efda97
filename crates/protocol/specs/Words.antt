-- Words that the definitions share: a choice, a bit of a set, a test of every place of a list, a list made place by place.
use Rattle.std.specs.Prelude.{ℕ, zero, suc, ◌+◌, ◌/◌, ◌%◌, ◌^◌, Bool, true, false, ◌&&◌, List, [], ◌∷◌, ◌++◌, eqb}
use Rattle.std.specs.List.{list_all, enumerate_from}
use Rattle.std.specs.Int.Bits.{bit_or}

abbrev pub pick {ℓ} : {A : Type ℓ} → Bool → A → A → A
pick true a b = a
pick false a b = b

-- bit i of a set that is given as a number
abbrev pub bit : ℕ → ℕ → Bool
bit set i = eqb (set / 2 ^ i % 2) 1

-- a set with i in it
abbrev pub joined : ℕ → ℕ → ℕ
joined set i = bit_or set (2 ^ i)

-- a flag as a number
abbrev pub one : Bool → ℕ
one true = 1
one false = 0

-- p holds of i and the first element of l, of i + 1 and the second, and so on
unfoldable pub all_from : {A : Type 0} → (ℕ → A → Bool) → ℕ → List A → Bool
all_from p i l = list_all (λ q. p q.0 q.1) (enumerate_from i l)

abbrev pub all : {A : Type 0} → (ℕ → A → Bool) → List A → Bool
all p l = all_from p 0 l

-- f 0, f 1, .., f (n - 1)
unfoldable pub table : {A : Type 0} → (ℕ → A) → ℕ → List A
table f zero = []
table f (suc n) = table f n ++ (f n ∷ [])

-- how often x stands in l
unfoldable pub times : ℕ → List ℕ → ℕ
times x [] = 0
times x (y ∷ ys) = one (eqb y x) + times x ys

-- p holds of 0, 1, .., n - 1
unfoldable pub all_below : ℕ → (ℕ → Bool) → Bool
all_below zero p = true
all_below (suc n) p = all_below n p && p n
