-- The width of a step's fields, whatever its kind. Assumes nothing.
use Prim.Native.Nat.{ℕ, zero, suc, ◌<◌}
use mathlib.Core.Path.{◌≡◌, refl}
use mathlib.Core.Bool.{Bool, true, ◌&&◌, and-eq-true_iff}
use mathlib.Core.List.{List, [], ◌∷◌}
use native.Mathlib.Omega.{arith}
use lib.Dec.{ltb}
use lib.ListN.{get_or}
use borrow.Author.Tests.{ltb-true}
use Rattle.protocol.specs.Book.{widths, width_of}

below : ℕ → List ℕ → Bool
below b [] = true
below b (x ∷ xs) = ltb x b && below b xs

get_d_below : (b : ℕ) (l : List ℕ) (k : ℕ) → 0 < b → below b l ≡ true → get_or l k 0 < b
unfolding below
get_d_below b [] k h e = h
get_d_below b (x ∷ xs) zero h e = ltb-true x b ((and-eq-true_iff (ltb x b) (below b xs)).0 e).0
get_d_below b (x ∷ xs) (suc k) h e = get_d_below b xs k h ((and-eq-true_iff (ltb x b) (below b xs)).0 e).1

pub width_low : (k : ℕ) → width_of k < 10
unfolding width_of below
width_low k = get_d_below 10 widths k (omega arith) refl
