-- The answer of a drain is the lowest number that applies to it; a refused one gives back the machine with count 0. By its two tests;
-- assumes nothing.
use Prim.Native.Nat.{ℕ, ◌*◌, ◌<◌}
use mathlib.Core.Path.{◌≡◌, refl, subst}
use mathlib.Core.Logic.{◌≢◌, ◌⊎◌, inl, inr, ⊎_elim}
use mathlib.Core.Bool.{Bool, true, false, not}
use native.Mathlib.Omega.{arith}
use lib.Dec.{leb}
use borrow.Author.Tests.{not-true, leb-false, lt-leb}
use Rattle.std.proofs.lemmas.Bool.{both_ways, not_from_false, or_parts}
use Rattle.protocol.specs.Words.{pick, all_below}
use Rattle.protocol.specs.Slots.{no_store, shelf, is_up}
use Rattle.protocol.specs.Broken.{broken_of}
use Rattle.protocol.specs.declared.State.{State}
use Rattle.protocol.specs.Drain.{Drained, course, up_in, all_up, drained, drain_of}
use Rattle.unbroken.proofs.Laws.{unbroken}
use Rattle.unbroken.proofs.Laws.Tests.{by_test, or_else}
use Rattle.unbroken.proofs.Laws.Every.{all_at, all_each, below_at, below_fails}
use Rattle.keeps.proofs.Stores.{store_8}
use Rattle.unbroken.specs.Lowest.{IsLowest}
use Rattle.drains.specs.Applies.{Applies, is_broken, is_down, DrainRefusals, RefusedDrain}
use Rattle.unbroken.proofs.Laws.Lowest.{lowest, from_none, from_test}

module _ (m : State) where
  -- what the two tests give
  abbrev given : Bool → Bool → Drained
  given broken up = pick broken (record { state = m; answer = 1; count = 0 }) (pick (not up) (record { state = m; answer = 5; count = 0 }) (drained (course (m.made * 22) m)))

  answer_of_holds : (broken up : Bool) → pick broken 1 (pick (not up) 5 0) ≡ (given broken up).answer
  answer_of_holds true up = refl
  answer_of_holds false true = refl
  answer_of_holds false false = refl

  gives_back : (broken up : Bool) → (given broken up).answer ≢ 0 → ((given broken up).state ≡ m) × ((given broken up).count ≡ 0)
  gives_back true up n = (refl, refl)
  gives_back false true n = absurd (n refl)
  gives_back false false n = (refl, refl)

  numbers : {n : ℕ} → Applies m n → (n ≡ 1) ⊎ (n ≡ 5)
  numbers (is_broken e) = inl refl
  numbers (is_down p l e) = inr refl

  told_broken : {n : ℕ} → Applies m n → n ≡ 1 → broken_of m ≡ true
  told_broken (is_broken e) q = e
  told_broken (is_down p l e) q = absurd (omega arith)

  -- a store that is down is one of eight
  finds_down : broken_of m ≡ false → all_up m ≡ false → (p : ℕ) × (p < m.stores) × (is_up m p ≡ false)
  finds_down b e =
      let long = (unbroken m b).sized.shelves in
      let up : ℕ → Bool = λ p. up_in m.stores p (shelf m p) in
      let x = below_fails 8 up (by_test (all_below 8 up) (λ h. absurd (both_ways (all_up m) e (all_each (up_in m.stores) m.shelves no_store (λ p l. below_at 8 up h p (omega arith))))) (λ h. h)) in
      (x.0, leb-false m.stores x.0 (or_parts (leb m.stores x.0) (is_up m x.0) x.2).0, (or_parts (leb m.stores x.0) (is_up m x.0) x.2).1)

  told_down : {n : ℕ} → broken_of m ≡ false → Applies m n → n ≡ 5 → all_up m ≡ false
  told_down b (is_broken e) q = absurd (omega arith)
  told_down b (is_down p l e) q =
      let s = unbroken m b in
      let h = store_8 m s p l in
      let long = s.sized.shelves in
      by_test (all_up m) (λ u. absurd (both_ways (is_up m p) e (or_else (leb m.stores p) (is_up m p) (all_at (up_in m.stores) m.shelves no_store u p (omega arith)) (lt-leb m.stores p l)))) (λ u. u)

pub drain_refusals : DrainRefusals
unfolding drain_of
drain_refusals m =
    subst (IsLowest (Applies m)) (answer_of_holds m (broken_of m) (all_up m))
    (lowest (λ a. ⊎_elim (λ e. omega arith) (λ e. omega arith) (numbers m a))
    (from_test {test = broken_of m} (omega arith) (omega arith) (record { tells = λ e. is_broken e; told = λ a. told_broken m a refl }) (λ i l u a. omega arith)
    (λ b. from_test {test = not (all_up m)} (omega arith) (omega arith)
    (record { tells = λ e. (let x = finds_down m b (not-true (all_up m) e) in is_down x.0 x.1 x.2); told = λ a. not_from_false (all_up m) (told_down m b a refl) })
    (λ i l u a. ⊎_elim (λ e. omega arith) (λ e. omega arith) (numbers m a))
    (λ u. from_none (λ i l a. ⊎_elim (λ e. omega arith) (λ e. omega arith) (numbers m a))))))

pub refused_drain : RefusedDrain
unfolding drain_of
refused_drain m n = gives_back m (broken_of m) (all_up m) n
