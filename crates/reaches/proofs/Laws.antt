-- The walk's promise has one result; an answered walk has exactly the keys that are reached, each once; a refused one has none.
-- By what a visit from the start meets. Assumes nothing.
use Prim.Native.Nat.{ℕ, ◌+◌, ◌*◌, ◌-◌, ◌≤◌, ◌<◌}
use mathlib.Core.Path.{◌≡◌, refl, sym, ap, subst, ◌∙◌}
use mathlib.Core.Logic.{◌≢◌, ⊎_elim}
use mathlib.Core.Bool.{true, false}
use native.Mathlib.Omega.{arith}
use lib.Dec.{leb}
use lib.ListN.{get_or, take, replicate}
use borrow.Author.Tests.{leb-false}
use Rattle.std.proofs.lemmas.Bool.{both_ways}
use Rattle.protocol.specs.Words.{one, times}
use Rattle.protocol.specs.Slots.{number, view}
use Rattle.protocol.specs.Broken.{broken_of}
use Rattle.unbroken.specs.Unbroken.{Unbroken}
use Rattle.protocol.specs.declared.State.{State}
use Rattle.unbroken.proofs.Laws.{unbroken, only}
use Rattle.unbroken.proofs.Laws.Tests.{by_test}
use Rattle.protocol.specs.Walk.{Walked, unmet, walked_from, refused_walk, walk_of}
use Rattle.reaches.proofs.Counted.{few}
use Rattle.reaches.specs.Reaches.{Reach, here, by, Exactly, OneResult, AnsweredReaches, KeysFew, RefusedEmpty, LookupsExactly}
use Rattle.reaches.proofs.Keys.{IsMet, none_met, sound_unmet}
use Rattle.reaches.proofs.Visited.{Visited, visited}
use Rattle.reaches.proofs.Looked.{visit_looked}

pub one_result_holds : OneResult
one_result_holds m k x y p q = only (walk_of m k) x y p q

-- the four answers of a walk
pub data Answer (m : State) (k : ℕ) (r : Walked) : Type 0 where
  refusing : (n : ℕ) → n ≢ 0 → r ≡ refused_walk n → Answer m k r
  answering : broken_of m ≡ false → k < m.made → (walked_from m k).fine ≡ true
      → r ≡ record { answer = 0; keys = (walked_from m k).keys; count = (walked_from m k).count; lookups = (walked_from m k).lookups } → Answer m k r

pub answer : (m : State) (k : ℕ) → Answer m k (walk_of m k)
unfolding walk_of
answer m k =
    by_test (broken_of m)
    (λ b. simp b (refusing 1 (λ e. omega arith) refl))
    (λ b. by_test (leb m.made k)
    (λ o. simp (b, o) (refusing 2 (λ e. omega arith) refl))
    (λ o. by_test (walked_from m k).fine
    (λ f. simp (b, o, f) (answering b (leb-false m.made k o) f refl))
    (λ f. simp (b, o, f) (refusing 13 (λ e. omega arith) refl))))

answer_of_holds : {m : State} {k : ℕ} {r : Walked} → r ≡ walk_of m k → Answer m k r
answer_of_holds {m} {k} {r} p = subst (λ (x : Walked). Answer m k x) (sym p) (answer m k)

pub refused_empty : RefusedEmpty
refused_empty m k r p z = go (answer_of_holds p)
  where
    go : Answer m k r → (r.keys ≡ replicate 16 0) × (r.count ≡ 0) × (r.lookups ≡ 0)
    go (refusing n h e) = (ap (λ (x : Walked). x.keys) e, ap (λ (x : Walked). x.count) e, ap (λ (x : Walked). x.lookups) e)
    go (answering b l f e) = absurd (z (ap (λ (x : Walked). x.answer) e))

module _ (m : State) (k : ℕ) (b : broken_of m ≡ false) (l : k < m.made) (f : (walked_from m k).fine ≡ true) where
  begun : Visited m k unmet (walked_from m k)
  unfolding walked_from
  begun =
      let u : Unbroken m = unbroken m b in
      let low : k < 16 = omega (arith, u.made16) in
      visited m u 16 k ((view m (number k 0)).store + 1) unmet low low sound_unmet (none_met k)

  -- what is reached from a key that is met is met
  onward : {j i : ℕ} → Reach m j i → IsMet (walked_from m k) j → IsMet (walked_from m k) i
  onward here h = h
  onward {j} (by {j = c} t r) h = onward r (⊎_elim (λ n. absurd (both_ways _ (none_met j) n)) (λ n. n c t) (begun.after.causes f j h))

  met_reached : (i : ℕ) → IsMet (walked_from m k) i → Reach m k i
  met_reached i h = ⊎_elim (λ n. absurd (both_ways _ (none_met i) n)) (λ n. n) (begun.after.from i h)

  exactly : Exactly m k (record { answer = 0; keys = (walked_from m k).keys; count = (walked_from m k).count; lookups = (walked_from m k).lookups })
  exactly = record {
    once = λ i r. begun.after.sound.listed i ∙ ap one (onward r (begun.this f));
    only = λ i h. by_test (get_or (walked_from m k).met i false) (λ e. met_reached i e)
        (λ e. let none : times i (take (walked_from m k).count (walked_from m k).keys) ≡ 0 = begun.after.sound.listed i ∙ ap one e in let z : ⊥ = omega arith in absurd z);
  }

pub answered_reaches : AnsweredReaches
answered_reaches m k r p z = go (answer_of_holds p)
  where
    go : Answer m k r → Exactly m k r
    go (refusing n h e) = absurd (h (sym (ap (λ (x : Walked). x.answer) e) ∙ z))
    go (answering b l f e) = subst (λ (x : Walked). Exactly m k x) (sym e) (exactly m k b l f)

pub keys_few : KeysFew
keys_few m k r p = go (answer_of_holds p)
  where
    go : Answer m k r → r.count ≤ 16
    go (refusing n h e) = omega (arith, ap (λ (x : Walked). x.count) e)
    go (answering b l f e) = omega (arith, ap (λ (x : Walked). x.count) e, few (begun m k b l f).after.sound.tally)

pub lookups_exactly : LookupsExactly
unfolding walked_from
lookups_exactly m k r p z = go (answer_of_holds p)
  where
    go : Answer m k r → r.lookups ≡ 2 * r.count - 1
    go (refusing n h e) = absurd (h (sym (ap (λ (x : Walked). x.answer) e) ∙ z))
    go (answering b l f e) =
        let low : k < 16 = omega (arith, (unbroken m b).made16) in
        let two : (walked_from m k).lookups + 1 ≡ 2 * (walked_from m k).count = visit_looked m 16 k ((view m (number k 0)).store + 1) unmet low refl f in
        omega (arith, ap (λ (x : Walked). x.lookups) e, ap (λ (x : Walked). x.count) e, two)
