-- The answer of a walk is the lowest number that applies to it. The search and the list of what it looks up go side by side: while all
-- is found they meet the same keys in the same order, and the search is spoiled exactly if the list has one that isn't. Assumes nothing.
use Prim.Native.Nat.{ℕ, zero, suc, ◌+◌, ◌-◌, ◌≤◌, ◌<◌}
use mathlib.Core.Path.{◌≡◌, refl, sym, ap, subst, ◌∙◌}
use mathlib.Core.Logic.{◌⊎◌, inl, inr, ⊎_elim}
use mathlib.Core.Bool.{Bool, true, false, ◌&&◌, ◌||◌, not}
use mathlib.Core.List.Memᴰ
use mathlib.Core.List.{List, [], ◌∷◌, ◌++◌, map, map-append, Memᴰ}
use native.Mathlib.Omega.{arith}
use native.Mathlib.Numerals.{add-one}
use lib.Dec.{leb, eqb}
use lib.ListN.{length, get_or, set, take, length-set}
use lib.Seq.{get_or-set_same, get_or-set_other, take-suc-set}
use borrow.Author.Tests.{not-true, eqb-true, eqb-false, eq-eqb, ne_eqb, leb-true, leb-false, le-leb}
use Rattle.std.proofs.lemmas.Bool.{and_from, and_parts, both_ways, not_from_false}
use Rattle.std.proofs.Common.{rules}
use Rattle.protocol.specs.Words.{pick, bit}
use Rattle.protocol.specs.Slots.{number, view, is_lasting}
use Rattle.protocol.specs.Broken.{broken_of}
use Rattle.protocol.specs.Closed.{closed_of}
use Rattle.protocol.specs.declared.State.{State}
use Rattle.protocol.specs.Walk.{Met, added, spoiled, looked_up, found_of, causes_held, hop_of, each, to_cause, visit_of, unmet, walked_from, refused_walk, walk_of}
use Rattle.unbroken.proofs.Laws.{unbroken}
use Rattle.unbroken.proofs.Laws.Tests.{by_test, or_of}
use Rattle.unbroken.proofs.Laws.Says.{Says}
use Rattle.reaches.specs.Tally.{Tally}
use Rattle.reaches.specs.Reaches.{keys_of}
use Rattle.reaches.proofs.Counted.{room, tally_added, tally_unmet}
use Rattle.reaches.proofs.Keys.{none_met, same_or}
use Rattle.reaches.proofs.Laws.{Answer, refusing, answering, answer}
use Rattle.unbroken.specs.Lowest.{IsLowest}
use Rattle.reaches.specs.Applies.{Lookup, met, each_of, looked, lookups, Unfound, is_open, no_link, no_entry, Applies, is_broken, is_outside, is_unfound, WalkRefusals, KeysLookedUp}
use Rattle.unbroken.proofs.Laws.Lowest.{lowest, from_none, from_test}

met_more : (l : List Lookup) (x : Lookup) (i : ℕ) → met (l ++ (x ∷ [])) i ≡ met l i || eqb x.key i
unfolding met
met_more [] x i = search rules
met_more (y ∷ l) x i = search (rules, met_more l x i)

-- the two words of a list that has one more
or_none : (a b : Bool) → b ≡ false → a || b ≡ a
or_none true b e = refl
or_none false b e = e

abbrev at : ℕ → ℕ → Lookup
at k link = record { key = k; link = link }

module _ (m : State) where
  abbrev Found : Lookup → Type 0
  Found x = found_of m x.key x.link ≡ true

  abbrev Lacking : Lookup → Type 0
  Lacking x = found_of m x.key x.link ≡ false

  -- what a list has is still there when more is looked up
  each_grows : (look : ℕ → List Lookup → List Lookup) → ((j : ℕ) (l : List Lookup) (x : Lookup) → Memᴰ x l → Memᴰ x (look j l))
      → (causes n j : ℕ) (l : List Lookup) (x : Lookup) → Memᴰ x l → Memᴰ x (each_of look causes n j l)
  unfolding each_of
  each_grows look f causes zero j l x h = h
  each_grows look f causes (suc n) j l x h = each_grows look f causes n (j + 1) (pick (bit causes j) (look j l) l) x (go (bit causes j))
    where
      go : (b : Bool) → Memᴰ x (pick b (look j l) l)
      go true = f j l x h
      go false = h

  stay : (i : List Lookup) {i' : List Lookup} (b : Bool) {y : Lookup} → Memᴰ y i → Memᴰ y i' → Memᴰ y (pick b i i')
  stay i true g g' = g
  stay i false g g' = g'

  -- a cause as the list has it
  abbrev listed_cause : ℕ → ℕ → ℕ → ℕ → List Lookup → List Lookup
  listed_cause depth k link j l = pick (met l j) l (looked depth m j (hop_of m k link j) l)

  looked_grows : (depth k link : ℕ) (l : List Lookup) (x : Lookup) → Memᴰ x l → Memᴰ x (looked depth m k link l)
  unfolding looked
  looked_grows zero k link l x h = h
  looked_grows (suc depth) k link l x h =
      each_grows (listed_cause depth k link) (λ j i y g. stay i (met i j) g (looked_grows depth j (hop_of m k link j) i y g)) (causes_held m k link) k 0 (l ++ (at k link ∷ [])) x (Memᴰ.append_left (at k link ∷ []) h)

  -- the search, and the list of what it looked up
  record Beside (w : Met) (l : List Lookup) : Type 0 where
    tally : Tally w
    room : length w.keys ≡ 16
    same : w.fine ≡ true → (i : ℕ) → get_or w.met i false ≡ met l i
    good : w.fine ≡ true → (x : Lookup) → Memᴰ x l → Found x
    bad : w.fine ≡ false → (x : Lookup) × Memᴰ x l × Lacking x
    listed : w.fine ≡ true → take w.count w.keys ≡ map (λ (x : Lookup). x.key) l

  beside_start : Beside unmet []
  unfolding met
  beside_start = search (rules, tally_unmet, room, none_met)

  beside_bad : {w : Met} {l : List Lookup} → Tally w → length w.keys ≡ 16 → w.fine ≡ false → (x : Lookup) → Memᴰ x l → Lacking x → Beside w l
  beside_bad e f g x h i = search (rules, room, both_ways)

  -- a key that is found is met now
  beside_added : {w : Met} {l : List Lookup} (k link : ℕ) → k < 16 → w.fine ≡ true → get_or w.met k false ≡ false → Found (at k link) → Beside w l
      → Beside (added w k) (l ++ (at k link ∷ []))
  beside_added {w} {l} k link low fine new found b =
      let fits : w.count < length w.keys = omega (arith, b.room, room b.tally low new) in
      let more : take (w.count + 1) (set w.keys w.count k) ≡ take w.count w.keys ++ (k ∷ []) = rw add-one (take-suc-set w.keys w.count k fits) in
      record {
        tally = tally_added w k b.tally low new;
        room = length-set w.keys w.count k ∙ b.room;
        same = λ f i. same_or i k
            (λ q. (ap (λ (j : ℕ). get_or (set w.met k true) j false) q ∙ get_or-set_same w.met k true false (omega (arith, b.tally.long))) ∙ sym (met_more l (at k link) i ∙ or_of (met l i) (eqb k i) (λ z. eq-eqb k i (sym q))))
            (λ n. get_or-set_other w.met k i true false n ∙ b.same f i ∙ sym (met_more l (at k link) i ∙ or_none (met l i) (eqb k i) (ne_eqb k i (λ q. n (sym q)))));
        good = λ f x h. ⊎_elim (λ g. b.good f x g) (λ g. ⊎_elim (λ e. subst (λ (y : Lookup). Found y) (sym e) found) (λ n. absurd (Memᴰ.not-nil n)) (Memᴰ.cases_cons g)) (Memᴰ.append_cases l h);
        bad = λ f. absurd (both_ways w.fine f fine);
        listed = λ f. more ∙ ap (λ (i : List ℕ). i ++ (k ∷ [])) (b.listed f) ∙ sym (map-append (λ (x : Lookup). x.key) l (at k link ∷ []));
      }

  -- the loop over the causes, where each visit stays beside
  each_beside : (visit : ℕ → Met → Met) (look : ℕ → List Lookup → List Lookup) (top : ℕ) → ((j : ℕ) (w : Met) (l : List Lookup) → j < top → Beside w l → Beside (visit j w) (look j l))
      → (causes n j : ℕ) (w : Met) (l : List Lookup) → j + n ≤ top → Beside w l → Beside (each visit causes n j w) (each_of look causes n j l)
  unfolding each each_of
  each_beside visit look top f causes zero j w l h b = b
  each_beside visit look top f causes (suc n) j w l h b =
      each_beside visit look top f causes n (j + 1) (pick (bit causes j) (visit j w) w) (pick (bit causes j) (look j l) l) (omega arith) (go (bit causes j))
    where
      go : (t : Bool) → Beside (pick t (visit j w) w) (pick t (look j l) l)
      go true = f j w l (omega arith) b
      go false = b

  beside_looked : {w : Met} {l : List Lookup} → Beside w l → Beside (looked_up w) l
  beside_looked b =
      record { tally = record { long = b.tally.long; counted = b.tally.counted }; room = b.room; same = b.same; good = b.good; bad = b.bad; listed = b.listed }

  -- a cause, by the tests of the search and of the list
  module _ (depth k link j : ℕ) (w : Met) (l : List Lookup) (b : Beside w l)
      (visit : w.fine ≡ true → get_or w.met j false ≡ false → Beside (visit_of depth m j (hop_of m k link j) (looked_up w)) (looked depth m j (hop_of m k link j) l)) where
    turn : (fine seen listed : Bool) → w.fine ≡ fine → get_or w.met j false ≡ seen → met l j ≡ listed
        → Beside (pick (fine && not seen) (visit_of depth m j (hop_of m k link j) (looked_up w)) w) (pick listed l (looked depth m j (hop_of m k link j) l))
    turn fine seen listed e f g = search (rules, beside_bad, looked_grows, both_ways)

  visit_beside : (depth k link : ℕ) (w : Met) (l : List Lookup) → k < depth → k < 16 → w.fine ≡ true → get_or w.met k false ≡ false → Beside w l → Beside (visit_of depth m k link w) (looked depth m k link l)
  unfolding visit_of looked
  visit_beside zero k link w l deep low fine new b = let z : ⊥ = omega arith in absurd z
  visit_beside (suc depth) k link w l deep low fine new b =
      go (λ j v i h f n c. visit_beside depth j (hop_of m k link j) v i (omega arith) (omega arith) f n c) (found_of m k link) refl
    where
      go : ((j : ℕ) (v : Met) (i : List Lookup) → j < k → v.fine ≡ true → get_or v.met j false ≡ false → Beside v i → Beside (visit_of depth m j (hop_of m k link j) v) (looked depth m j (hop_of m k link j) i))
          → (found : Bool) → found_of m k link ≡ found
          → Beside (pick found (each (to_cause (visit_of depth m) m k link) (causes_held m k link) k 0 (added (looked_up w) k)) (spoiled w)) (each_of (listed_cause depth k link) (causes_held m k link) k 0 (l ++ (at k link ∷ [])))
      go visits true f =
          each_beside (to_cause (visit_of depth m) m k link) (listed_cause depth k link) k
          (λ j v i h c. turn depth k link j v i c (λ g n. visits j (looked_up v) i h g n (beside_looked c)) v.fine (get_or v.met j false) (met i j) refl refl refl)
          (causes_held m k link) k 0 (added (looked_up w) k) (l ++ (at k link ∷ [])) (omega arith) (beside_added k link low fine new f (beside_looked b))
      go visits false f =
          beside_bad (record { long = b.tally.long; counted = b.tally.counted }) b.room refl (at k link)
          (each_grows (listed_cause depth k link) (λ j i y g. stay i (met i j) g (looked_grows depth j (hop_of m k link j) i y g)) (causes_held m k link) k 0 (l ++ (at k link ∷ [])) (at k link) (Memᴰ.append_right l (Memᴰ.head refl))) f

  -- what isn't found, in words
  unfound : (x : Lookup) → Lacking x → Unfound m x
  unfolding found_of
  unfound x e = search (rules, by_test, eqb-true, and_from)

  module _ (x : Lookup) (f : Found x) where
    linked : not (eqb x.link 0) ≡ true
    unfolding found_of
    linked = (and_parts (not (eqb x.link 0)) (is_lasting m (x.link - 1) (number x.key 0)) (and_parts _ (closed_of m x.key) f).0).0

    lasting : is_lasting m (x.link - 1) (number x.key 0) ≡ true
    unfolding found_of
    lasting = (and_parts (not (eqb x.link 0)) (is_lasting m (x.link - 1) (number x.key 0)) (and_parts _ (closed_of m x.key) f).0).1

    closed : closed_of m x.key ≡ true
    unfolding found_of
    closed = (and_parts (not (eqb x.link 0) && is_lasting m (x.link - 1) (number x.key 0)) (closed_of m x.key) f).1

  not_found : (x : Lookup) → Unfound m x → Found x → ⊥
  not_found x (is_open e) f = absurd (both_ways (closed_of m x.key) e (closed x f))
  not_found x (no_link e) f = eqb-false x.link 0 (not-true (eqb x.link 0) (linked x f)) e
  not_found x (no_entry e) f = absurd (both_ways (is_lasting m (x.link - 1) (number x.key 0)) e (lasting x f))

  module _ (k : ℕ) where
    numbers : {n : ℕ} → Applies m k n → (n ≡ 1) ⊎ (n ≡ 2) ⊎ (n ≡ 13)
    numbers (is_broken e) = inl refl
    numbers (is_outside l) = inr (inl refl)
    numbers (is_unfound x h u) = inr (inr refl)

    told_broken : {n : ℕ} → Applies m k n → n ≡ 1 → broken_of m ≡ true
    told_broken (is_broken e) q = e
    told_broken (is_outside l) q = absurd (omega arith)
    told_broken (is_unfound x h u) q = absurd (omega arith)

    told_outside : {n : ℕ} → Applies m k n → n ≡ 2 → m.made ≤ k
    told_outside (is_broken e) q = absurd (omega arith)
    told_outside (is_outside l) q = l
    told_outside (is_unfound x h u) q = absurd (omega arith)

    told_unfound : {n : ℕ} → Applies m k n → n ≡ 13 → (x : Lookup) × Memᴰ x (lookups m k) × Unfound m x
    told_unfound (is_broken e) q = absurd (omega arith)
    told_unfound (is_outside l) q = absurd (omega arith)
    told_unfound (is_unfound x h u) q = (x, h, u)

    -- the search is spoiled exactly if it looked up what isn't found
    begun : broken_of m ≡ false → k < m.made → Beside (walked_from m k) (lookups m k)
    unfolding walked_from
    begun u l = let made = (unbroken m u).made16 in visit_beside 16 k ((view m (number k 0)).store + 1) unmet [] (omega arith) (omega arith) refl (none_met k) beside_start

    spoiled_says : broken_of m ≡ false → k < m.made → Says (not (walked_from m k).fine) (Applies m k 13)
    spoiled_says u l =
        let b : Beside (walked_from m k) (lookups m k) = begun u l in
        record {
          tells = λ e. (let x = b.bad (not-true (walked_from m k).fine e) in is_unfound x.0 x.1 (unfound x.0 x.2));
          told = λ a. let x = told_unfound a refl in by_test (walked_from m k).fine (λ f. absurd (not_found x.0 x.2 (b.good f x.0 x.1))) (λ f. not_from_false (walked_from m k).fine f);
        }

answer_is : (w : Met) (broken out fine : Bool) → pick broken 1 (pick out 2 (pick (not fine) 13 0)) ≡ (pick broken (refused_walk 1) (pick out (refused_walk 2) (pick fine (record { answer = 0; keys = w.keys; count = w.count; lookups = w.lookups }) (refused_walk 13)))).answer
answer_is w broken out fine = search rules

pub walk_refusals : WalkRefusals
unfolding walk_of
walk_refusals m k =
    let w : Met = walked_from m k in
    subst (IsLowest (Applies m k)) (answer_is w (broken_of m) (leb m.made k) w.fine)
    (lowest (λ a. ⊎_elim (λ e. omega arith) (λ r. ⊎_elim (λ e. omega arith) (λ e. omega arith) r) (numbers m k a))
    (from_test {test = broken_of m} (omega arith) (omega arith) (record { tells = λ e. is_broken e; told = λ a. told_broken m k a refl }) (λ i l u a. omega arith)
    (λ b. from_test {test = leb m.made k} (omega arith) (omega arith)
    (record { tells = λ e. is_outside (leb-true m.made k e); told = λ a. le-leb m.made k (told_outside m k a refl) }) (λ i l u a. omega arith)
    (λ o. from_test {test = not w.fine} (omega arith) (omega arith) (spoiled_says m k b (leb-false m.made k o))
    (λ i l u a. ⊎_elim (λ e. omega arith) (λ r. ⊎_elim (λ e. omega arith) (λ e. omega arith) r) (numbers m k a))
    (λ f. from_none (λ i l a. ⊎_elim (λ e. omega arith) (λ r. ⊎_elim (λ e. omega arith) (λ e. omega arith) r) (numbers m k a)))))))

pub keys_looked_up : KeysLookedUp
keys_looked_up m k z = go (answer m k)
  where
    go : Answer m k (walk_of m k) → keys_of (walk_of m k) ≡ map (λ (x : Lookup). x.key) (lookups m k)
    go (refusing n h e) = absurd (h (sym (ap (λ r. r.answer) e) ∙ z))
    go (answering b l f e) = ap keys_of e ∙ (begun m k b l).listed f
