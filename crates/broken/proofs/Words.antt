-- What chains and equalities of arrays say, in the definitions' words.
use Rattle.std.proofs.Common.{ℕ, ◌≡◌, ◌<◌, ◌&&◌, ◌↔◌, Bool, true, false, IsTrue, List, [], ◌∷◌, length, get_or, replicate, eqb, ltb, refl, sym, ap, ◌∙◌, arith}
use Rattle.std.specs.List.{fold, list_all}
use borrow.Author.Tests.{eq-eqb, eqb-true}
use lib.Seq.{ext_get_or}
use lib.ListN.{get_or-replicate}
use Rattle.protocol.specs.Words.{all, pick}
use Rattle.protocol.specs.Broken.{link_fine, same_links}
use Rattle.unbroken.proofs.Laws.Bits.{bit_none}
use Rattle.unbroken.proofs.Laws.Every.{all_at, all_each}

pub and_true : (b : Bool) → (b && true) ≡ b
and_true true = refl
and_true false = refl

-- a chain that ends at no element tests them all
fold_from : {A : Type 0} (p : A → Bool) (b : Bool) (l : List A) → fold (λ fine x. fine && p x) b l ≡ (b && list_all p l)
fold_from p b [] = sym (and_true b)
fold_from p true (x ∷ xs) = fold_from p (p x) xs
fold_from p false (x ∷ xs) = fold_from p false xs

pub fold_all : {A : Type 0} (p : A → Bool) (l : List A) → fold (λ fine x. fine && p x) true l ≡ list_all p l
fold_all p l = fold_from p true l

ways : (a b : Bool) → (a ≡ true → b ≡ true) → (b ≡ true → a ≡ true) → a ≡ b
ways true b f g = sym (f refl)
ways false true f g = g refl
ways false false f g = refl

-- tests that agree at each place agree of all
pub all_same : {A : Type 0} (p q : ℕ → A → Bool) (l : List A) (d : A) → ((j : ℕ) → j < length l → p j (get_or l j d) ≡ q j (get_or l j d)) → all p l ≡ all q l
all_same p q l d f =
    ways (all p l) (all q l) (λ e. all_each q l d (λ j h. sym (f j h) ∙ all_at p l d e j h)) (λ e. all_each p l d (λ j h. f j h ∙ all_at q l d e j h))

-- rows are the same exactly if they are equal
same_equal : (a b : List ℕ) → length a ≡ length b → same_links a b ≡ true → a ≡ b
unfolding same_links
same_equal a b long e = ext_get_or 0 a b long (λ j h. eqb-true (get_or a j 0) (get_or b j 0) (all_at (λ j link. eqb link (get_or b j 0)) a 0 e j h))

equal_same : (a b : List ℕ) → a ≡ b → same_links a b ≡ true
unfolding same_links
equal_same a b e = all_each (λ j link. eqb link (get_or b j 0)) a 0 (λ j h. eq-eqb (get_or a j 0) (get_or b j 0) (ap (λ l. get_or l j 0) e))

pub same_is_equal : (a b : List ℕ) {r : Bool} → length a ≡ 16 → length b ≡ 16 → (IsTrue r ↔ (a ≡ b)) → r ≡ same_links a b
same_is_equal a b {r} m n e = ways r (same_links a b) (λ t. equal_same a b (e.0 t)) (λ t. e.1 (same_equal a b (m ∙ sym n) t))

-- .. and blank if they equal a blank one
same_blank : (a : List ℕ) → length a ≡ 16 → same_links a (replicate 16 0) ≡ all (λ j link. eqb link 0) a
unfolding same_links
same_blank a long =
    all_same (λ j link. eqb link (get_or (replicate 16 0) j 0)) (λ j link. eqb link 0) a 0 (λ j h. ap (eqb (get_or a j 0)) (get_or-replicate {A = ℕ} 16 j 0 0 (omega (arith, long))))

pub blank_is_equal : (a : List ℕ) {r : Bool} → length a ≡ 16 → (IsTrue r ↔ (a ≡ replicate 16 0)) → r ≡ all (λ j link. eqb link 0) a
blank_is_equal a {r} long e = same_is_equal a (replicate 16 0) long refl e ∙ same_blank a long

-- with no cause every link is blank
pub no_cause : (stores key causes : ℕ) (l : List ℕ) {r : Bool} → causes ≡ 0 → r ≡ all (λ j link. eqb link 0) l → r ≡ all (link_fine stores key causes) l
no_cause stores key causes l none e =
    e ∙ all_same (λ j link. eqb link 0) (link_fine stores key causes) l 0 (λ j h. sym (ap (λ n. link_fine stores key n j (get_or l j 0)) none
    ∙ ap (λ t. pick t (ltb j key && ltb (get_or l j 0) stores) (eqb (get_or l j 0) 0)) (bit_none j)))
