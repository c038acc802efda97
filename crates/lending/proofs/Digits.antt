-- The library's digits of a number are those that `decimal` names. By a digit more at each length; assumes nothing.
use Prim.Native.Nat.{ℕ, ◌/◌, ◌%◌, ◌≤◌, ◌<◌}
use mathlib.Core.Path.{◌≡◌}
use mathlib.Core.List.{[], ◌∷◌}
use native.Mathlib.Omega.{arith}
use Rattle.std.proofs.Common.{⊎_elim}
use Rattle.std.proofs.lemmas.Bool.{cases_lt, lt-ltb, le-ltb}
use Rattle.std.proofs.lemmas.Fmt.{decimal_digit, decimal_step}
use Rattle.std.specs.Fmt.{decimal as written}
use Rattle.protocol.specs.Listing.{glyph, decimal, large}

two : (n : ℕ) → 10 ≤ n → n < 100 → written n ≡ glyph (n / 10) ∷ glyph (n % 10) ∷ []
two n low high = rw (decimal_step n low (omega arith), decimal_digit (n / 10) (omega arith))

three : (n : ℕ) → 100 ≤ n → n < 1000 → written n ≡ glyph (n / 100) ∷ glyph (n / 10 % 10) ∷ glyph (n % 10) ∷ []
three n low high =
    let a : n / 10 / 10 ≡ n / 100 = omega arith in
    rw (decimal_step n (omega arith) (omega arith), two (n / 10) (omega arith) (omega arith), a)

four : (n : ℕ) → 1000 ≤ n → n < 10000
    → written n ≡ glyph (n / 1000) ∷ glyph (n / 100 % 10) ∷ glyph (n / 10 % 10) ∷ glyph (n % 10) ∷ []
four n low high =
    let a : n / 10 / 100 ≡ n / 1000 = omega arith in
    let b : n / 10 / 10 ≡ n / 100 = omega arith in
    rw (decimal_step n (omega arith) (omega arith), three (n / 10) (omega arith) (omega arith), a, b)

five : (n : ℕ) → 10000 ≤ n → n < 100000
    → written n ≡ glyph (n / 10000) ∷ glyph (n / 1000 % 10) ∷ glyph (n / 100 % 10) ∷ glyph (n / 10 % 10) ∷ glyph (n % 10) ∷ []
five n low high =
    let a : n / 10 / 1000 ≡ n / 10000 = omega arith in
    let b : n / 10 / 100 ≡ n / 1000 = omega arith in
    let c : n / 10 / 10 ≡ n / 100 = omega arith in
    rw (decimal_step n (omega arith) (omega arith), four (n / 10) (omega arith) (omega arith), a, b, c)

pub decimal_same : (n : ℕ) → n < 100000 → written n ≡ decimal n
unfolding decimal large
decimal_same n h =
    ⊎_elim (λ one. rw (lt-ltb n 10 one) (decimal_digit n one))
    (λ past10. ⊎_elim (λ tens. rw (le-ltb n 10 past10, lt-ltb n 100 tens) (two n past10 tens))
    (λ past100. ⊎_elim (λ hundreds. rw (le-ltb n 10 past10, le-ltb n 100 past100, lt-ltb n 1000 hundreds) (three n past100 hundreds))
    (λ past1000. ⊎_elim
    (λ thousands. rw (le-ltb n 10 past10, le-ltb n 100 past100, le-ltb n 1000 past1000, lt-ltb n 10000 thousands) (four n past1000 thousands))
    (λ rest. rw (le-ltb n 10 past10, le-ltb n 100 past100, le-ltb n 1000 past1000, le-ltb n 10000 rest) (five n rest h))
    (cases_lt n 10000)) (cases_lt n 1000)) (cases_lt n 100)) (cases_lt n 10)
