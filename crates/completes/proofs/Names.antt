-- The activities held: each once, those of the messages taken, and so no more in another order. Assumes nothing.
use Prim.Native.Nat.{suc, ◌≤◌, ◌<◌}
use mathlib.Core.Path.{◌≡◌, refl, sym, ap, subst, ◌∙◌}
use mathlib.Core.Bool.{Bool, true, false, ◌||◌, cond, true≢false, false≢true}
use mathlib.Core.List.{List, [], ◌∷◌}
use native.Mathlib.Omega.{arith}
use lib.ListN.{length}
use Rattle.activities.specs.Activity.{same}
use Rattle.activities.specs.Store.{place}
use Rattle.activities.specs.declared.Activity.{Activity}
use Rattle.activities.specs.declared.Exchange.{Exchange}
use Rattle.activities.specs.declared.Message.{Message}
use Rattle.completes.specs.Order.{Reordered, gather}
use Rattle.completes.specs.Order.Reordered.{empty, keep, swap, join}
use Rattle.completes.proofs.Look.{same_itself, same_equal, put}

or_false : (a : Bool) → (a || false) ≡ a
or_false true = refl
or_false false = refl

or_assoc : (a b c : Bool) → (a || b || c) ≡ (a || (b || c))
or_assoc true b c = refl
or_assoc false b c = refl

or_swap : (a b c : Bool) → (a || (b || c)) ≡ (b || (a || c))
or_swap true true c = refl
or_swap true false c = refl
or_swap false b c = refl

unfoldable pub among : Activity → List Activity → Bool
among a [] = false
among a (x ∷ l) = same x a || among a l

pub among_reordered : (a : Activity) {l k : List Activity} → Reordered l k → among a l ≡ among a k
unfolding among
among_reordered a empty = refl
among_reordered a (keep {x = x} r) = ap (λ (t : Bool). same x a || t) (among_reordered a r)
among_reordered a (swap {x = x} {y = y} {l = l}) = or_swap (same x a) (same y a) (among a l)
among_reordered a (join r q) = among_reordered a r ∙ among_reordered a q

other_way : (a b : Activity) → same a b ≡ false → same b a ≡ false
other_way a b d = go (same b a) refl
  where
    go : (t : Bool) → same b a ≡ t → same b a ≡ false
    go true e = absurd (false≢true (sym d ∙ (ap (λ (c : Activity). same a c) (same_equal b a e) ∙ same_itself a)))
    go false e = e

-- one activity more, unless it is there
unfoldable pub named : List Activity → Activity → List Activity
named [] b = b ∷ []
named (x ∷ n) b = cond (same x b) (x ∷ n) (x ∷ named n b)

among_named : (a : Activity) (n : List Activity) (b : Activity) → among a (named n b) ≡ (among a n || same b a)
unfolding among named
among_named a [] b = or_false (same b a)
among_named a (x ∷ n) b = go (same x b) refl (among_named a n b)
  where
    there : (t u : Bool) → (t || u) ≡ (t || u || t)
    there true u = refl
    there false u = sym (or_false u)

    go : (t : Bool) → same x b ≡ t → among a (named n b) ≡ (among a n || same b a) → among a (cond t (x ∷ n) (x ∷ named n b)) ≡ (same x a || among a n || same b a)
    go true e ih = subst (λ (c : Activity). (same x a || among a n) ≡ (same x a || among a n || same c a)) (same_equal x b e) (there (same x a) (among a n))
    go false e ih = ap (λ (t : Bool). same x a || t) ih ∙ sym (or_assoc (same x a) (among a n) (same b a))

abbrev pub Distinct : List Activity → Type 0
Distinct [] = Unit {0}
Distinct (x ∷ l) = (among x l ≡ false) × Distinct l

distinct_named : (n : List Activity) (b : Activity) → Distinct n → Distinct (named n b)
unfolding among named
distinct_named [] b d = (refl, tt)
distinct_named (x ∷ n) b d = go (same x b) refl (distinct_named n b d.1)
  where
    go : (t : Bool) → same x b ≡ t → Distinct (named n b) → Distinct (cond t (x ∷ n) (x ∷ named n b))
    go true e ih = d
    go false e ih = (among_named x n b ∙ rw (d.0, other_way x b e) refl, ih)

-- the activities of messages, and those held after them
abbrev pub of_messages : List Message → List Activity
of_messages l = gather (λ m. m.activity ∷ []) l

unfoldable pub collected : List Activity → List Message → List Activity
collected n [] = n
collected n (m ∷ l) = collected (named n m.activity) l

pub among_collected : (a : Activity) (n : List Activity) (l : List Message) → among a (collected n l) ≡ (among a n || among a (of_messages l))
unfolding among collected gather
among_collected a n [] = sym (or_false (among a n))
among_collected a n (m ∷ l) =
    among_collected a (named n m.activity) l
    ∙ (ap (λ (t : Bool). t || among a (of_messages l)) (among_named a n m.activity) ∙ or_assoc (among a n) (same m.activity a) (among a (of_messages l)))

pub distinct_collected : (n : List Activity) (l : List Message) → Distinct n → Distinct (collected n l)
unfolding collected
distinct_collected n [] d = d
distinct_collected n (m ∷ l) d = distinct_collected (named n m.activity) l (distinct_named n m.activity d)

-- distinct activities that are all among others are no more than those
unfoldable without : Activity → List Activity → List Activity
without x [] = []
without x (y ∷ l) = cond (same y x) l (y ∷ without x l)

length_without : (x : Activity) (l : List Activity) → among x l ≡ true → length l ≡ suc (length (without x l))
unfolding among without
length_without x [] e = absurd (false≢true e)
length_without x (y ∷ l) e = go (same y x) e (length_without x l)
  where
    go : (t : Bool) → (t || among x l) ≡ true → (among x l ≡ true → length l ≡ suc (length (without x l))) → suc (length l) ≡ suc (length (cond t l (y ∷ without x l)))
    go true h ih = refl
    go false h ih = ap suc (ih h)

among_without : (x y : Activity) (l : List Activity) → same x y ≡ false → among y l ≡ true → among y (without x l) ≡ true
unfolding among without
among_without x y [] d e = e
among_without x y (z ∷ l) d e = go (same z x) refl (same z y) refl e (among_without x y l d)
  where
    go : (t : Bool) → same z x ≡ t → (u : Bool) → same z y ≡ u → (u || among y l) ≡ true → (among y l ≡ true → among y (without x l) ≡ true) → among y (cond t l (z ∷ without x l)) ≡ true
    go true p true q h ih = absurd (false≢true (sym d ∙ (ap (λ (c : Activity). same c y) (sym (same_equal z x p)) ∙ q)))
    go true p false q h ih = h
    go false p true q h ih = rw q refl
    go false p false q h ih = rw q (ih h)

pub no_more : (xs ys : List Activity) → Distinct xs → ((a : Activity) → among a xs ≡ true → among a ys ≡ true) → length xs ≤ length ys
unfolding among
no_more [] ys d h = omega arith
no_more (x ∷ xs) ys d h =
    let there : among x ys ≡ true = h x (rw (same_itself x) refl) in
    let fewer : length xs ≤ length (without x ys) = no_more xs (without x ys) d.1 (λ a e. among_without x a ys (apart a e) (h a (later a e))) in
    omega (arith, length_without x ys there, fewer)
  where
    later : (a : Activity) → among a xs ≡ true → (same x a || among a xs) ≡ true
    later a e = rw e (go (same x a))
      where
        go : (t : Bool) → (t || true) ≡ true
        go true = refl
        go false = refl

    apart : (a : Activity) → among a xs ≡ true → same x a ≡ false
    apart a e = go (same x a) refl
      where
        go : (t : Bool) → same x a ≡ t → same x a ≡ false
        go true q = absurd (false≢true (sym d.0 ∙ (ap (λ (c : Activity). among c xs) (same_equal x a q) ∙ e)))
        go false q = q

-- the activities of the exchanges held
unfoldable pub names : List Exchange → List Activity
names [] = []
names (x ∷ l) = x.activity ∷ names l

pub length_names : (l : List Exchange) → length (names l) ≡ length l
unfolding names
length_names [] = refl
length_names (x ∷ l) = ap suc (length_names l)

pub names_put : (l : List Exchange) (a : Activity) (e : Exchange) → e.activity ≡ a → names (put l a e) ≡ named (names l) a
unfolding names put named
names_put [] a e n = ap (λ (b : Activity). b ∷ []) n
names_put (x ∷ l) a e n = go (same x.activity a) refl (names_put l a e n)
  where
    go : (t : Bool) → same x.activity a ≡ t → names (put l a e) ≡ named (names l) a → names (cond t (e ∷ l) (x ∷ put l a e)) ≡ cond t (x.activity ∷ names l) (x.activity ∷ named (names l) a)
    go true q ih = ap (λ (b : Activity). b ∷ names l) (n ∙ sym (same_equal x.activity a q))
    go false q ih = ap (λ (k : List Activity). x.activity ∷ k) ih

pub place_found : (l : List Exchange) (a : Activity) → among a (names l) ≡ true → place l a < length l
unfolding names among place
place_found [] a e = absurd (false≢true e)
place_found (x ∷ l) a e = go (same x.activity a) e (place_found l a)
  where
    go : (t : Bool) → (t || among a (names l)) ≡ true → (among a (names l) ≡ true → place l a < length l) → cond t 0 (suc (place l a)) < suc (length l)
    go true h ih = omega arith
    go false h ih = omega (arith, ih h)

pub place_last : (l : List Exchange) (a : Activity) → place l a ≤ length l
unfolding place
place_last [] a = omega arith
place_last (x ∷ l) a = go (same x.activity a) (place_last l a)
  where
    go : (t : Bool) → place l a ≤ length l → cond t 0 (suc (place l a)) ≤ suc (length l)
    go true h = omega arith
    go false h = omega arith

-- a new one makes one more
pub length_named : (n : List Activity) (b : Activity) → among b n ≡ false → length (named n b) ≡ suc (length n)
unfolding among named
length_named [] b e = refl
length_named (x ∷ n) b e = go (same x b) e (length_named n b)
  where
    go : (t : Bool) → (t || among b n) ≡ false → (among b n ≡ false → length (named n b) ≡ suc (length n)) → length (cond t (x ∷ n) (x ∷ named n b)) ≡ suc (suc (length n))
    go true h ih = absurd (true≢false h)
    go false h ih = ap suc (ih h)
