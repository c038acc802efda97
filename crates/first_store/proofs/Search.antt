-- An activity's place is the first at which it stands, or that behind the last; its rows are those there, or new ones. Assumes nothing.
use Rattle.std.specs.Prelude.{◌≡◌, ℕ, suc, ◌+◌, ◌<◌, Bool, true, false, cond, List, Some, None, length, get_or, take, min}
use Rattle.std.specs.List.{position, position_or_len}
use Rattle.std.specs.Option.{is_some}
use Rattle.std.proofs.lemmas.List.{get_or_default, get_or_past}
use Rattle.std.proofs.lemmas.List.Quantifiers.{position-Some}
use Rattle.std.proofs.lemmas.List.Recursion.{is_position_or_len}
use Rattle.std.proofs.lemmas.List.Sums.{position_or_len_is, prefix_len-le-length}
use mathlib.Core.Bool.{not, false≢true}
use mathlib.Core.Path.{refl, sym, ap, ◌∙◌}
use native.Mathlib.Omega.{arith}
use lib.Dec.{ltb}
use borrow.Author.Tests.{ltb-false}
use Rattle.activities.specs.Activity.{same}
use Rattle.activities.specs.Store.{fresh, holds, place, place_of, exchange_of}
use Rattle.activities.specs.declared.Activity.{Activity}
use Rattle.activities.specs.declared.Exchange.{Exchange}
use Rattle.activities.specs.declared.Store.{Store}

abbrev is_of : Activity → Exchange → Bool
is_of a e = same e.activity a

one_more : (t : Bool) (n : ℕ) → cond t 0 (suc n) ≡ cond t 0 (1 + n)
one_more true n = refl
one_more false n = omega arith

place_first : (a : Activity) (l : List Exchange) → place l a ≡ position_or_len (is_of a) l
unfolding place
place_first a l = is_position_or_len (λ k. place k a) (is_of a) refl (λ x xs. one_more (is_of a x) (place xs a)) l

-- a place is behind the last where nothing passes
none_passes : {A : Type 0} (p : A → Bool) (l : List A) → position p l ≡ None → length l ≡ position_or_len p l
none_passes p l e = go (ltb (position_or_len p l) (length l)) refl e
  where
    go : (t : Bool) → ltb (position_or_len p l) (length l) ≡ t → cond t (Some (position_or_len p l)) None ≡ None → length l ≡ position_or_len p l
    go true b q = absurd (false≢true (sym (ap is_some q)))
    go false b q = omega (arith, ltb-false (position_or_len p l) (length l) b, prefix_len-le-length (λ x. not (p x)) l)

module _ (s : Store) (a : Activity) {n : ℕ} (held : n ≡ min s.used 16) where
  module _ {i : ℕ} (e : position (is_of a) (take n s.exchanges) ≡ Some i) where
    stands : (i < length (holds s)) × (is_of a (get_or (holds s) i (fresh a)) ≡ true) × ((k : ℕ) → k < i → is_of a (get_or (holds s) k (fresh a)) ≡ false)
    stands = position-Some (is_of a) (holds s) i (fresh a) (rw (sym held) e)

    pub found_place : i ≡ place_of s a
    found_place = sym (place_first a (holds s) ∙ position_or_len_is (is_of a) (holds s) i (fresh a) (omega (arith, stands.0)) stands.2 (λ _. stands.1))

    pub found_rows : (d : Exchange) → get_or (take n s.exchanges) i d ≡ exchange_of s a
    unfolding exchange_of
    found_rows d = rw held (get_or_default (holds s) i d (fresh a) stands.0 ∙ ap (λ k. get_or (holds s) k (fresh a)) found_place)

  module _ (e : position (is_of a) (take n s.exchanges) ≡ None) where
    pub new_place : length (take n s.exchanges) ≡ place_of s a
    new_place = rw held (none_passes (is_of a) (holds s) (rw (sym held) e) ∙ sym (place_first a (holds s)))

    pub new_rows : fresh a ≡ exchange_of s a
    unfolding exchange_of
    new_rows = sym (get_or_past (holds s) (place_of s a) (fresh a) (omega (arith, none_passes (is_of a) (holds s) (rw (sym held) e), place_first a (holds s))))
