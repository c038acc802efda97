-- A test of every place of a list, and a list made place by place, by the index. Assumes nothing.
use Prim.Native.Nat.{ℕ, zero, suc, ◌+◌, ◌<◌}
use mathlib.Core.Path.{◌≡◌, refl, sym, ap, subst, ◌∙◌}
use mathlib.Core.Bool.{Bool, true, false, false≢true}
use mathlib.Core.List.{List, [], ◌∷◌, ◌++◌}
use native.Mathlib.Omega.{arith}
use native.Mathlib.Nat.{add-zero}
use native.Mathlib.Decide.{dec_lt}
use lib.ListN.{length, get_or, length-append, get_or-append}
use lib.Seq.{get_or-append_seam}
use Rattle.std.proofs.lemmas.Bool.{and_from, and_parts}
use Rattle.std.proofs.Common.{rules}
use Rattle.protocol.specs.Words.{all_from, all, table, all_below}
use Rattle.unbroken.proofs.Laws.Tests.{by_test}

from_at : {A : Type 0} (p : ℕ → A → Bool) (i : ℕ) (l : List A) (d : A) → all_from p i l ≡ true → (j : ℕ) → j < length l → p (i + j) (get_or l j d) ≡ true
unfolding all_from
from_at p i [] d e j h = absurd (omega arith)
from_at p i (x ∷ xs) d e zero h = rw add-zero (and_parts (p i x) (all_from p (i + 1) xs) e).0
from_at p i (x ∷ xs) d e (suc j) h = search (rules, and_parts, from_at p (i + 1) xs d (and_parts (p i x) (all_from p (i + 1) xs) e).1 j (omega arith))

pub all_at : {A : Type 0} (p : ℕ → A → Bool) (l : List A) (d : A) → all p l ≡ true → (j : ℕ) → j < length l → p j (get_or l j d) ≡ true
all_at p l d e j h = let q : 0 + j ≡ j = omega arith in subst (λ (n : ℕ). p n (get_or l j d) ≡ true) q (from_at p 0 l d e j h)

from_each : {A : Type 0} (p : ℕ → A → Bool) (i : ℕ) (l : List A) (d : A) → ((j : ℕ) → j < length l → p (i + j) (get_or l j d) ≡ true) → all_from p i l ≡ true
unfolding all_from
from_each p i [] d f = refl
from_each p i (x ∷ xs) d f =
    and_from (p i x) (all_from p (i + 1) xs) (rw add-zero at (f 0 (omega arith)))
    (from_each p (i + 1) xs d (λ j h. let q : i + suc j ≡ i + 1 + j = omega arith in subst (λ (n : ℕ). p n (get_or xs j d) ≡ true) q (f (suc j) (omega arith))))

pub all_each : {A : Type 0} (p : ℕ → A → Bool) (l : List A) (d : A) → ((j : ℕ) → j < length l → p j (get_or l j d) ≡ true) → all p l ≡ true
all_each p l d f = from_each p 0 l d (λ j h. let q : j ≡ 0 + j = omega arith in subst (λ (n : ℕ). p n (get_or l j d) ≡ true) q (f j h))

pub below_at : (n : ℕ) (p : ℕ → Bool) → all_below n p ≡ true → (j : ℕ) → j < n → p j ≡ true
unfolding all_below
below_at zero p e j h = absurd (omega arith)
below_at (suc n) p e j h =
    elim (dec_lt j n) [
      | yes q ↦ below_at n p (and_parts (all_below n p) (p n) e).0 j q
      | no q ↦ (let s : j ≡ n = omega arith in ap p s ∙ (and_parts (all_below n p) (p n) e).1)
    ]

pub below_each : (n : ℕ) (p : ℕ → Bool) → ((j : ℕ) → j < n → p j ≡ true) → all_below n p ≡ true
unfolding all_below
below_each zero p f = refl
below_each (suc n) p f = and_from (all_below n p) (p n) (below_each n p (λ j h. f j (omega arith))) (f n (omega arith))

-- one of 0, 1, .., n - 1 of which a test fails
pub below_fails : (n : ℕ) (p : ℕ → Bool) → all_below n p ≡ false → (j : ℕ) × (j < n) × (p j ≡ false)
unfolding all_below
below_fails zero p e = absurd (false≢true (sym e))
below_fails (suc n) p e =
    by_test (p n)
    (λ h. let x = below_fails n p (by_test (all_below n p) (λ a. absurd (false≢true (sym e ∙ and_from (all_below n p) (p n) a h))) (λ a. a)) in (x.0, omega (arith, x.1), x.2))
    (λ h. (n, omega arith, h))

pub length_table : {A : Type 0} (f : ℕ → A) (n : ℕ) → length (table f n) ≡ n
unfolding table
length_table f zero = refl
length_table f (suc n) = let h = length_table f n in let q = length-append (table f n) (f n ∷ []) in omega arith

pub table_at : {A : Type 0} (f : ℕ → A) (n : ℕ) (d : A) (j : ℕ) → j < n → get_or (table f n) j d ≡ f j
unfolding table
table_at f zero d j h = absurd (omega arith)
table_at f (suc n) d j h =
    let long = length_table f n in
    elim (dec_lt j n) [
      | yes q ↦ get_or-append (table f n) (f n ∷ []) d j (omega arith) ∙ table_at f n d j q
      | no q ↦ (let s : j ≡ length (table f n) = omega arith in let t : j ≡ n = omega arith in ap (λ (i : ℕ). get_or (table f n ++ (f n ∷ [])) i d) s ∙ get_or-append_seam (table f n) (f n) [] d ∙ ap f (sym t))
    ]
