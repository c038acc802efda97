-- An actor's list has another store than any given one: with at most one bit set it would have fewer than two. Assumes nothing.
use Prim.Native.Nat.{ℕ, zero, suc, ◌+◌, ◌/◌, ◌%◌, ◌^◌, ◌≤◌, ◌<◌}
use mathlib.Core.Path.{◌≡◌, refl, sym}
use mathlib.Core.Logic.{◌≢◌}
use mathlib.Core.Bool.{Bool, true, false, ◌&&◌, not, true≢false}
use native.Mathlib.Nat.{div-one, one-le-pow, pow-le-pow_right, div-eq_of_lt, div-lt_iff_lt-mul}
use native.Mathlib.Omega.{arith}
use native.Mathlib.Decide.{ℕ_discrete, dec_lt}
use lib.Dec.{eqb}
use borrow.Author.Tests.{ne_eqb, eqb-false}
use Rattle.std.proofs.Common.{rules}
use Rattle.protocol.specs.Words.{bit}
use Rattle.protocol.specs.Setup.{stores_in}
use Rattle.unbroken.specs.Unbroken.{LegalActor}
use Rattle.protocol.specs.Drain.{lowest}
use Rattle.drains.proofs.Lowest.{finds}
use Rattle.drains.proofs.Total.{sum, sum_most}

-- of numbers that are at most 1, and 0 but at one place, the sum is at most 1
sum_one : (n : ℕ) (f : ℕ → ℕ) (p : ℕ) → ((q : ℕ) → f q ≤ 1) → ((q : ℕ) → q < n → q ≢ p → f q ≡ 0) → sum n f ≤ 1
unfolding sum
sum_one zero f p a b = omega arith
sum_one (suc n) f p a b = go (ℕ_discrete n p) (sum_one n f p a (λ q l. b q (omega arith)))
  where
    go : Dec (n ≡ p) → sum n f ≤ 1 → f n + sum n f ≤ 1
    go (yes e) h = omega (arith, a n, sum_most n 0 f (λ j l. omega (arith, b j (omega arith) (λ c. omega arith))))
    go (no e) h = omega (arith, b n (omega arith) e)

eight : (a b c d e f g h : ℕ) → h + (g + (f + (e + (d + (c + (b + (a + 0))))))) ≤ 1 → a + b + c + d + e + f + g + h ≤ 1
eight a b c d e f g h l = omega arith

-- a set below 2 ^ n has no bit from n on
none_above : (l n q : ℕ) → l / 2 ^ n ≡ 0 → n ≤ q → l / 2 ^ q ≡ 0
none_above l n q e h =
    let below = (div-lt_iff_lt-mul {k = 2 ^ n} {x = l} {y = 1} (one-le-pow n 2 (omega arith))).0 (omega arith) in
    div-eq_of_lt (omega (arith, pow-le-pow_right {n = 2} (omega arith) h))

module _ (stores home l p : ℕ) (legal : LegalActor stores home l) where
  abbrev other : ℕ → Bool
  other q = bit l q && not (eqb p q)

  -- where no other store is in the list, it has at most one
  all_one : ((q : ℕ) → q < stores → other q ≡ false) → stores_in l ≤ 1
  unfolding sum
  all_one none =
      eight (l % 2) (l / 2 % 2) (l / 4 % 2) (l / 8 % 2) (l / 16 % 2) (l / 32 % 2) (l / 64 % 2) (l / 128 % 2)
      (rw (div-one l) at (sum_one 8 (λ q. l / 2 ^ q % 2) p (λ q. omega arith) (λ q h n. go q n (dec_lt q stores))))
    where
      unset : (q : ℕ) → p ≢ q → (b : Bool) → bit l q ≡ b → bit l q && not (eqb p q) ≡ false → l / 2 ^ q % 2 ≡ 0
      unset q n true e f = absurd (true≢false (rw (e, ne_eqb p q n) at f))
      unset q n false e f = omega (arith, eqb-false (l / 2 ^ q % 2) 1 e)

      go : (q : ℕ) → q ≢ p → Dec (q < stores) → l / 2 ^ q % 2 ≡ 0
      go q n (yes h) = unset q (λ e. n (sym e)) (bit l q) refl (none q h)
      go q n (no h) = rw (none_above l stores q legal.list_in (omega arith))

  pub spare_there : lowest stores other < stores
  spare_there = search (rules, all_one, finds)
