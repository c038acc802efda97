-- The keys met, as the definition has them: flags by key, and sixteen places with zeros behind the last. By induction on the list.
use Rattle.std.proofs.Common.{ℕ, suc, ◌≡◌, ◌-◌, ◌<◌, ◌||◌, Bool, true, false, List, [], ◌∷◌, ◌++◌, length, get_or, set, replicate, refl, sym, ◌∙◌, arith, append_assoc, length-append, length-set, get_or-set_same, get_or-set_other}
use Rattle.std.proofs.lemmas.List.{get_or-replicate}
use Rattle.std.specs.Prelude.{fold, ◌==◌}
use Rattle.std.specs.List.{list_any}
use Rattle.std.proofs.Math.Seq.{set-append_seam}
use Rattle.std.proofs.lemmas.Grind.{fold-append}
use borrow.Author.Tests.{eq-eqb, eqb-true, eqb-false}
use Rattle.unbroken.proofs.Laws.Tests.{by_test}
use Rattle.walk.specs.Told.{padded, marked}

pub marked_more : (keys : List ℕ) (k : ℕ) → marked (keys ++ k ∷ []) ≡ set (marked keys) k true
unfolding marked
marked_more keys k = fold-append (λ l j. set l j true) (replicate 16 false) keys (k ∷ [])

pub padded_more : (keys : List ℕ) (k : ℕ) → length keys < 16 → padded (keys ++ k ∷ []) ≡ set (padded keys) (length keys) k
padded_more keys k h =
    let n : 16 - length keys ≡ suc (16 - length (keys ++ k ∷ [])) = omega (arith, length-append keys (k ∷ [])) in
    rw n (append_assoc keys (k ∷ []) (replicate (16 - length (keys ++ k ∷ [])) 0) ∙ sym (set-append_seam keys 0 (replicate (16 - length (keys ++ k ∷ [])) 0) k))

or_true : (b : Bool) → true ≡ b || true
or_true true = refl
or_true false = refl

marks : (l : List Bool) (keys : List ℕ) (j : ℕ) → j < length l → get_or (fold (λ l k. set l k true) l keys) j false ≡ get_or l j false || list_any (λ k. k == j) keys
marks l [] j h = grind arith
marks l (k ∷ keys) j h =
    marks (set l k true) keys j (omega (arith, length-set l k true)) ∙ by_test (k == j)
    (λ e. let q : j ≡ k = sym (eqb-true k j e) in rw (q, get_or-set_same l k true false (omega (arith, q)), eq-eqb k k refl) (or_true (get_or l k false)))
    (λ e. rw (get_or-set_other l k j true false (λ q. eqb-false k j e (sym q)), e) refl)

pub marked_listed : (keys : List ℕ) (j : ℕ) → j < 16 → get_or (marked keys) j false ≡ list_any (λ k. k == j) keys
unfolding marked
marked_listed keys j h = marks (replicate 16 false) keys j (omega arith) ∙ rw (get_or-replicate 16 j false false h) refl
