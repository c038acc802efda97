-- Places of a list and what is counted over them: what is counted somewhere stands somewhere, and the other way. By induction; assumes nothing.
use Prim.Native.Nat.{ℕ, zero, suc, ◌≤◌, ◌<◌}
use mathlib.Core.Path.{◌≡◌, refl, ap, subst}
use mathlib.Core.Bool.{Bool, true}
use mathlib.Core.List.{List, [], ◌∷◌}
use native.Mathlib.Omega.{arith}
use native.Mathlib.Decide.{dec_lt}
use lib.Dec.{eqb}
use lib.ListN.{length, get_or, take}
use borrow.Author.Tests.{eqb-true, eq-eqb}
use Rattle.protocol.specs.Words.{one, times}
use Rattle.unbroken.proofs.Laws.Tests.{by_test}
use Rattle.pairing.specs.Pair.{counted}

pub record Place (n : ℕ) (p : ℕ → Bool) : Type 0 where
  pub at : ℕ
  pub low : at < n
  pub holds : p at ≡ true

pub counted_at : (n : ℕ) (p : ℕ → Bool) → 1 ≤ counted n p → Place n p
unfolding counted
counted_at zero p h = absurd (omega arith)
counted_at (suc n) p h =
    by_test (p n) (λ e. record { at = n; low = omega arith; holds = e })
    (λ e. let x = counted_at n p (omega (arith, ap one e)) in record { at = x.at; low = omega (arith, x.low); holds = x.holds })

pub at_counted : (n : ℕ) (p : ℕ → Bool) (i : ℕ) → i < n → p i ≡ true → 1 ≤ counted n p
unfolding counted
at_counted zero p i h e = absurd (omega arith)
at_counted (suc n) p i h e =
    elim (dec_lt i n) [
      | yes q ↦ omega (arith, at_counted n p i q e)
      | no q ↦ (let s : i ≡ n = omega arith in let f : p n ≡ true = subst (λ (j : ℕ). p j ≡ true) s e in omega (arith, ap one f))
    ]

-- a number among the first n of a list
pub record Among (x n : ℕ) (l : List ℕ) : Type 0 where
  pub at : ℕ
  pub low : at < n
  pub same : get_or l at 0 ≡ x

pub among : (x n : ℕ) (l : List ℕ) → 1 ≤ times x (take n l) → Among x n l
unfolding times
among x zero l h = absurd (omega arith)
among x (suc n) [] h = absurd (omega arith)
among x (suc n) (y ∷ l) h =
    by_test (eqb y x) (λ e. record { at = 0; low = omega arith; same = eqb-true y x e })
    (λ e. let r = among x n l (omega (arith, ap one e)) in record { at = suc r.at; low = omega (arith, r.low); same = r.same })

pub some_among : (n : ℕ) (l : List ℕ) (i : ℕ) → i < n → i < length l → 1 ≤ times (get_or l i 0) (take n l)
unfolding times
some_among zero l i h g = absurd (omega arith)
some_among (suc n) [] i h g = absurd (omega arith)
some_among (suc n) (y ∷ l) zero h g = omega (arith, ap one (eq-eqb y y refl))
some_among (suc n) (y ∷ l) (suc i) h g = omega (arith, some_among n l i (omega arith) (omega arith))
