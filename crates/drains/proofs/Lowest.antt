-- What a search for the lowest number tells. By induction; assumes nothing.
use Prim.Native.Nat.{ℕ, zero, suc, ◌+◌, ◌≤◌, ◌<◌}
use Rattle.std.specs.Prelude.{find, unwrap_or}
use Rattle.std.specs.List.{range_with_len}
use mathlib.Core.Path.{◌≡◌}
use mathlib.Core.Bool.{Bool, true, false}
use native.Mathlib.Omega.{arith}
use Rattle.std.proofs.Common.{rules}
use Rattle.protocol.specs.Drain.{lowest}

-- i is below n and p holds of it, or it is n and none below has p
pub record Found (n : ℕ) (p : ℕ → Bool) (i : ℕ) : Type 0 where
  pub below : i ≤ n
  pub holds : i < n → p i ≡ true
  pub none : n ≤ i → (j : ℕ) → j < n → p j ≡ false

-- the same of the n numbers from a on
record FoundFrom (a n : ℕ) (p : ℕ → Bool) (i : ℕ) : Type 0 where
  above : a ≤ i
  below : i ≤ a + n
  holds : i < a + n → p i ≡ true
  none : (j : ℕ) → a ≤ j → j < i → p j ≡ false

found_from : (a n end : ℕ) (p : ℕ → Bool) → end ≡ a + n → FoundFrom a n p (unwrap_or (find p (range_with_len a n)) end)
found_from a zero end p e =
    record { above = omega arith; below = omega arith; holds = λ h. absurd (omega arith); none = λ j l h. absurd (omega arith) }
found_from a (suc n) end p e = search (rules, found_from (a + 1) n end p (omega arith))

pub finds : (n : ℕ) (p : ℕ → Bool) → Found n p (lowest n p)
unfolding lowest
finds n p =
    let f = found_from 0 n n p (omega arith) in
    record { below = omega (arith, f.below); holds = λ h. f.holds (omega arith); none = λ h j l. f.none j (omega arith) (omega arith) }
