-- What is gathered from a list, its length, and the first of it. Assumes nothing.
use Prim.Native.Nat.{◌+◌, ◌≤◌}
use mathlib.Core.Path.{◌≡◌, refl, sym, ap, ◌∙◌}
use mathlib.Core.Bool.{Bool, true, false, ◌&&◌, not, cond, false≢true}
use mathlib.Core.List.{List, [], ◌∷◌, ◌++◌, append_assoc}
use native.Mathlib.Omega.{arith}
use lib.ListN.{length, length-append}
use Rattle.completes.specs.Order.{gather, nothing}

pub and_left : (a b : Bool) → (a && b) ≡ true → a ≡ true
and_left true b e = refl
and_left false b e = e

pub and_right : (a b : Bool) → (a && b) ≡ true → b ≡ true
and_right true b e = e
and_right false b e = absurd (false≢true e)

pub and_true : (a : Bool) → (a && true) ≡ a
and_true true = refl
and_true false = refl

pub and_false : (a : Bool) → (a && false) ≡ false
and_false true = refl
and_false false = refl

-- two tests that hold together are one
pub same_test : (a b : Bool) → (a ≡ true → b ≡ true) → (b ≡ true → a ≡ true) → a ≡ b
same_test true b f g = sym (f refl)
same_test false true f g = g refl
same_test false false f g = refl

module _ {A : Type 0} where
  pub nil_of_length : (l : List A) → length l ≡ 0 → l ≡ []
  nil_of_length [] e = refl
  nil_of_length (x ∷ l) e = absurd (omega arith)

  pub nothing_nil : (l : List A) → nothing l ≡ true → l ≡ []
  nothing_nil [] e = refl
  nothing_nil (x ∷ l) e = absurd (false≢true e)

  pub some_length : (l : List A) → nothing l ≡ false → 1 ≤ length l
  some_length [] e = absurd (false≢true (sym e))
  some_length (x ∷ l) e = omega arith

  pub length_some : (l : List A) → 1 ≤ length l → nothing l ≡ false
  length_some [] h = absurd (omega arith)
  length_some (x ∷ l) h = refl

module _ {A B : Type 0} (f : A → List B) where
  pub gather_append : (l k : List A) → gather f (l ++ k) ≡ gather f l ++ gather f k
  unfolding gather
  gather_append [] k = refl
  gather_append (x ∷ l) k = ap (λ (j : List B). f x ++ j) (gather_append l k) ∙ sym (append_assoc (f x) (gather f l) (gather f k))

  pub length_gather : (l k : List A) → length (gather f (l ++ k)) ≡ length (gather f l) + length (gather f k)
  length_gather l k = ap length (gather_append l k) ∙ length-append (gather f l) (gather f k)

-- P holds of each
abbrev pub Each : {A : Type 0} → (A → Type 0) → List A → Type 0
Each P [] = Unit {0}
Each P (x ∷ l) = P x × Each P l

pub each_append : {A : Type 0} (P : A → Type 0) (l k : List A) → Each P l → Each P k → Each P (l ++ k)
each_append P [] k p q = q
each_append P (x ∷ l) k p q = (p.0, each_append P l k p.1 q)

pub each_gather : {A B : Type 0} (P : B → Type 0) (f : A → List B) → ((x : A) → Each P (f x)) → (l : List A) → Each P (gather f l)
unfolding gather
each_gather P f h [] = tt
each_gather P f h (x ∷ l) = each_append P (f x) (gather f l) (h x) (each_gather P f h l)

-- what is there if it is held, else the first of the list
unfoldable pub first : {T : Type 0} → (T → Bool) → T → List T → T
first held there [] = there
first held there (x ∷ l) = cond (held there) there x

module _ {T : Type 0} (held : T → Bool) where
  -- a second one changes nothing
  pub first_step : (there new : T) (l : List T) → held new ≡ true → first held (cond (held there) there new) l ≡ first held there (new ∷ l)
  unfolding first
  first_step there new [] e = refl
  first_step there new (x ∷ l) e = go (held there) refl
    where
      go : (t : Bool) → held there ≡ t → cond (held (cond (held there) there new)) (cond (held there) there new) x ≡ cond (held there) there new
      go true h = rw h (rw h refl)
      go false h = rw h (rw e refl)

  pub first_held : (none : T) (l : List T) → held none ≡ false → Each (λ x. held x ≡ true) l → held (first held none l) ≡ not (nothing l)
  unfolding first
  first_held none [] e h = e
  first_held none (x ∷ l) e h = rw e h.0

  pub first_one : (none x : T) → held none ≡ false → first held none (x ∷ []) ≡ x
  unfolding first
  first_one none x e = rw e
