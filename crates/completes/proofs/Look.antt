-- Looking an activity up, and putting its rows back, as recursion over the activities held: what was put is found, and all else stays.
-- Assumes nothing.
use Prim.Native.Nat.{ℕ, zero, suc, ◌+◌, ◌<◌, min}
use mathlib.Core.Path.{◌≡◌, refl, sym, ap, ◌∙◌}
use mathlib.Core.Bool.{Bool, true, false, ◌&&◌, cond}
use mathlib.Core.List.{List, [], ◌∷◌}
use native.Mathlib.Omega.{arith}
use borrow.Author.Tests.{lt-ltb, le-ltb, eq-eqb, eqb-true}
use native.Mathlib.Decide.{dec_lt}
use lib.Dec.{eqb, ltb}
use lib.ListN.{length, get_or, take, set, length-set}
use Rattle.activities.specs.Activity.{same}
use Rattle.activities.specs.Store.{fresh, holds, place, place_of, exchange_of, written}
use Rattle.activities.specs.declared.Activity.{Activity}
use Rattle.activities.specs.declared.Exchange.{Exchange}
use Rattle.activities.specs.declared.Store.{Store}
use Rattle.completes.specs.Promises.{Sized}
use Rattle.completes.proofs.Lists.{and_left, and_right}

pub same_itself : (a : Activity) → same a a ≡ true
unfolding same
same_itself a = simp (eq-eqb a.session a.session refl, eq-eqb a.nonce a.nonce refl, eq-eqb a.thread a.thread refl, eq-eqb a.client a.client refl, eq-eqb a.service a.service refl)

pub same_equal : (a b : Activity) → same a b ≡ true → a ≡ b
unfolding same
same_equal a b e =
    let s4 = and_left _ _ e in
    let s3 = and_left _ _ s4 in
    let s2 = and_left _ _ s3 in
    let x1 : a.session ≡ b.session = eqb-true _ _ (and_left _ _ s2) in
    let x2 : a.nonce ≡ b.nonce = eqb-true _ _ (and_right (eqb a.session b.session) _ s2) in
    let x3 : a.thread ≡ b.thread = eqb-true _ _ (and_right (eqb a.session b.session && eqb a.nonce b.nonce) _ s3) in
    let x4 : a.client ≡ b.client = eqb-true _ _ (and_right (eqb a.session b.session && eqb a.nonce b.nonce && eqb a.thread b.thread) _ s4) in
    let x5 : a.service ≡ b.service = eqb-true _ _ (and_right (eqb a.session b.session && eqb a.nonce b.nonce && eqb a.thread b.thread && eqb a.client b.client) _ e) in
    λ i. record { session = x1 i; nonce = x2 i; thread = x3 i; client = x4 i; service = x5 i }

unfoldable pub look : List Exchange → Activity → Exchange
look [] a = fresh a
look (x ∷ l) a = cond (same x.activity a) x (look l a)

unfoldable pub put : List Exchange → Activity → Exchange → List Exchange
put [] a e = e ∷ []
put (x ∷ l) a e = cond (same x.activity a) (e ∷ l) (x ∷ put l a e)

look_place : (l : List Exchange) (a : Activity) → get_or l (place l a) (fresh a) ≡ look l a
unfolding place look
look_place [] a = refl
look_place (x ∷ l) a = go (same x.activity a) (look_place l a)
  where
    go : (t : Bool) → get_or l (place l a) (fresh a) ≡ look l a → get_or (x ∷ l) (cond t 0 (suc (place l a))) (fresh a) ≡ cond t x (look l a)
    go true e = refl
    go false e = e

pub exchange_look : (s : Store) (a : Activity) → exchange_of s a ≡ look (holds s) a
unfolding exchange_of
exchange_look s a = look_place (holds s) a

-- the count after a write at a place
counted : ℕ → ℕ → ℕ
counted p n = cond (ltb p n) n (p + 1)

counted_suc : (p n : ℕ) → counted (suc p) (suc n) ≡ suc (counted p n)
unfolding counted
counted_suc p n = elim (dec_lt p n) [ yes h ↦ rw (lt-ltb (suc p) (suc n) (omega arith), lt-ltb p n h) refl | no h ↦ rw (le-ltb (suc p) (suc n) (omega arith), le-ltb p n (omega arith)) (omega arith) ]

put_take : (n : ℕ) (l : List Exchange) (a : Activity) (e : Exchange) → place (take n l) a < length l → take (counted (place (take n l) a) n) (set l (place (take n l) a) e) ≡ put (take n l) a e
unfolding place put counted
put_take n [] a e h = absurd (omega arith)
put_take zero (x ∷ l) a e h = refl
put_take (suc n) (x ∷ l) a e h = go (same x.activity a) h (put_take n l a e)
  where
    go : (t : Bool) → cond t 0 (suc (place (take n l) a)) < length (x ∷ l)
        → (place (take n l) a < length l → take (counted (place (take n l) a) n) (set l (place (take n l) a) e) ≡ put (take n l) a e)
        → take (counted (cond t 0 (suc (place (take n l) a))) (suc n)) (set (x ∷ l) (cond t 0 (suc (place (take n l) a))) e) ≡ cond t (e ∷ take n l) (x ∷ put (take n l) a e)
    go true b f = rw (lt-ltb 0 (suc n) (omega arith)) refl
    go false b f = rw (counted_suc (place (take n l) a) n) (ap (λ (k : List Exchange). x ∷ k) (f (omega arith)))

used_after : (u p : ℕ) → p < 16 → min (cond (ltb p u) u (p + 1)) 16 ≡ counted p (min u 16)
unfolding counted
used_after u p h = elim (dec_lt p u) [ yes b ↦ rw (lt-ltb p u b, lt-ltb p (min u 16) (omega arith)) refl | no b ↦ rw (le-ltb p u (omega arith), le-ltb p (min u 16) (omega arith)) (omega arith) ]

pub holds_written : (s : Store) (a : Activity) (e : Exchange) → Sized s → place_of s a < 16 → holds (written s (place_of s a) e) ≡ put (holds s) a e
unfolding written
holds_written s a e long h =
    rw (used_after s.used (place_of s a) h) (put_take (min s.used 16) s.exchanges a e (omega (arith, long)))

pub sized_written : (s : Store) (p : ℕ) (e : Exchange) → Sized s → Sized (written s p e)
unfolding written
sized_written s p e long = length-set s.exchanges p e ∙ long

look_own : (l : List Exchange) (a : Activity) (e : Exchange) → same e.activity a ≡ true → look (put l a e) a ≡ e
unfolding look put
look_own [] a e h = rw h
look_own (x ∷ l) a e h = go (same x.activity a) refl (look_own l a e h)
  where
    go : (t : Bool) → same x.activity a ≡ t → look (put l a e) a ≡ e → look (cond t (e ∷ l) (x ∷ put l a e)) a ≡ e
    go true q r = rw h
    go false q r = rw q r

look_other : (l : List Exchange) (a b : Activity) (e : Exchange) → same a b ≡ false → same e.activity b ≡ false → look (put l a e) b ≡ look l b
unfolding look put
look_other [] a b e d h = rw h
look_other (x ∷ l) a b e d h = go (same x.activity a) refl (look_other l a b e d h)
  where
    go : (t : Bool) → same x.activity a ≡ t → look (put l a e) b ≡ look l b → look (cond t (e ∷ l) (x ∷ put l a e)) b ≡ cond (same x.activity b) x (look l b)
    go true q r = rw (h, same_equal x.activity a q, d)
    go false q r = ap (cond (same x.activity b) x) r

-- an activity's rows have its name
look_name : (l : List Exchange) (a : Activity) → same (look l a).activity a ≡ true
unfolding look
look_name [] a = same_itself a
look_name (x ∷ l) a = go (same x.activity a) refl (look_name l a)
  where
    go : (t : Bool) → same x.activity a ≡ t → same (look l a).activity a ≡ true → same (cond t x (look l a)).activity a ≡ true
    go true q r = q
    go false q r = r

pub exchange_name : (s : Store) (a : Activity) → (exchange_of s a).activity ≡ a
exchange_name s a = ap (λ (e : Exchange). e.activity) (exchange_look s a) ∙ same_equal _ a (look_name (holds s) a)

pub own_written : (s : Store) (a : Activity) (e : Exchange) → Sized s → place_of s a < 16 → e.activity ≡ a → exchange_of (written s (place_of s a) e) a ≡ e
own_written s a e long h n =
    exchange_look _ a ∙ (ap (λ (l : List Exchange). look l a) (holds_written s a e long h) ∙ look_own (holds s) a e (ap (λ (b : Activity). same b a) n ∙ same_itself a))

pub other_written : (s : Store) (a b : Activity) (e : Exchange) → Sized s → place_of s a < 16 → e.activity ≡ a → same a b ≡ false → exchange_of (written s (place_of s a) e) b ≡ exchange_of s b
other_written s a b e long h n d =
    exchange_look _ b ∙ (ap (λ (l : List Exchange). look l b) (holds_written s a e long h) ∙ (look_other (holds s) a b e d (ap (λ (c : Activity). same c b) n ∙ d) ∙ sym (exchange_look s b)))
