-- The bits of a set: none of the empty one; of one that another joined, those that were there and that one. Assumes nothing.
use Prim.Native.Nat.{ℕ, zero, suc, ◌/◌, ◌%◌, ◌^◌, ◌<◌}
use mathlib.Core.Path.{◌≡◌, refl, sym, ap, ◌∙◌}
use mathlib.Core.Bool.{Bool, true, false, ◌||◌}
use native.Mathlib.Omega.{arith}
use native.Mathlib.Nat.{zero-div, div-one, div-eq_of_lt, mul-div-mul_right, mul-mod_left, pow-suc}
use lib.Dec.{eqb, eqb-zero-suc, eqb-suc-zero, eqb-suc-suc}
use lib.Bits.{bit_or, or_shr, or_mod}
use lib.Pow.{pow-lt}
use Rattle.std.proofs.lemmas.Bool.{both_ways}
use Rattle.std.proofs.Common.{rules}
use Rattle.protocol.specs.Words.{bit, joined}

pub bit_none : (j : ℕ) → bit 0 j ≡ false
bit_none j = ap (λ (x : ℕ). eqb (x % 2) 1) (zero-div (2 ^ j))

pub no_bit : {P : Type 0} (set j : ℕ) → set ≡ 0 → bit set j ≡ true → P
no_bit set j e h = absurd (both_ways (bit set j) (ap (λ (x : ℕ). bit x j) e ∙ bit_none j) h)

digit_or : (p q : ℕ) → p < 2 → q < 2 → eqb (bit_or p q) 1 ≡ (eqb p 1 || eqb q 1)
digit_or p q e f = search rules

pub or_bit : (a b j : ℕ) → bit (bit_or a b) j ≡ (bit a j || bit b j)
or_bit a b j =
    ap (λ (n : ℕ). eqb (n % 2) 1) (or_shr a b j) ∙ (ap (λ (n : ℕ). eqb n 1) (or_mod (a / 2 ^ j) (b / 2 ^ j) 1) ∙ digit_or (a / 2 ^ j % 2) (b / 2 ^ j % 2) (omega arith) (omega arith))

pow_bit : (v j : ℕ) → bit (2 ^ v) j ≡ eqb v j
pow_bit zero zero = refl
pow_bit zero (suc j) = ap (λ (n : ℕ). eqb (n % 2) 1) (div-eq_of_lt (pow-lt {i = 0} {j = suc j} (omega arith))) ∙ sym (eqb-zero-suc j)
pow_bit (suc v) zero = ap (λ (n : ℕ). eqb (n % 2) 1) (div-one (2 ^ suc v) ∙ pow-suc 2 v) ∙ (ap (λ (n : ℕ). eqb n 1) (mul-mod_left (2 ^ v) 2) ∙ sym (eqb-suc-zero v))
pow_bit (suc v) (suc j) =
    ap (λ (n : ℕ). eqb (n % 2) 1) ((λ i. pow-suc 2 v i / pow-suc 2 j i) ∙ mul-div-mul_right (2 ^ v) (2 ^ j) (omega arith)) ∙ (pow_bit v j ∙ sym (eqb-suc-suc v j))

pub joined_bit : (w v j : ℕ) → bit (joined w v) j ≡ (bit w j || eqb v j)
joined_bit w v j = or_bit w (2 ^ v) j ∙ ap (λ (b : Bool). bit w j || b) (pow_bit v j)
