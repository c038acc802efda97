-- What holds of each place of a list holds after one is written, if it holds of what was written: by index, by store and view, and where
-- all the places of one store are written. Assumes nothing.
use Prim.Native.Nat.{ℕ, ◌+◌, ◌*◌, ◌<◌}
use mathlib.Core.Path.{◌≡◌}
use mathlib.Core.Logic.{◌≢◌}
use mathlib.Core.List.{List}
use native.Mathlib.Omega.{arith}
use lib.ListN.{length, get_or, set}
use lib.Seq.{get_or-set_same}
use borrow.Author.Tests.{eq-eqb, ne_eqb}
use Rattle.std.proofs.Common.{rules}
use Rattle.protocol.specs.Slots.{place, links_place}
use Rattle.protocol.specs.Sweep.{on_places}
use Rattle.unbroken.proofs.Places.{places_at}

module _ {A : Type 0} (l : List A) (n j : ℕ) (x d : A) (long : length l ≡ n) (h : j < n) where
  pub same : get_or (set l j x) j d ≡ x
  same = get_or-set_same l j x d (omega arith)

  pub at_others : (P : ℕ → A → Type 0) → P j x → ((i : ℕ) → i < n → i ≢ j → P i (get_or l i d)) → (i : ℕ) → i < n → P i (get_or (set l j x) i d)
  at_others P e f i g = search rules

  pub at_index : (P : ℕ → A → Type 0) → P j x → ((i : ℕ) → i < n → P i (get_or l i d)) → (i : ℕ) → i < n → P i (get_or (set l j x) i d)
  at_index P px f = at_others P px (λ i hi q. f i hi)

-- two places are one only if their stores and views are
pub place_store : (p v q u : ℕ) → v < 32 → u < 32 → place q u ≡ place p v → q ≡ p
place_store p v q u hv hu e = omega arith

module _ {A : Type 0} (l : List A) (p v : ℕ) (x d : A) (long : length l ≡ 256) (hp : p < 8) (hv : v < 32) where
  pub place_same : get_or (set l (place p v) x) (place p v) d ≡ x
  place_same = get_or-set_same l (place p v) x d (omega arith)

  pub at_place : (P : ℕ → ℕ → A → Type 0) → P p v x → ((q u : ℕ) → q < 8 → u < 32 → P q u (get_or l (place q u) d)) → (q u : ℕ) → q < 8 → u < 32 → P q u (get_or (set l (place p v) x) (place q u) d)
  at_place P e f q u g h = search rules

module _ {A : Type 0} (l : List A) (p k : ℕ) (x d : A) (long : length l ≡ 128) (hp : p < 8) (hk : k < 16) where
  pub at_links_place : (P : ℕ → ℕ → A → Type 0) → P p k x → ((q j : ℕ) → q < 8 → j < 16 → (q ≡ p → j ≡ k → ⊥) → P q j (get_or l (links_place q j) d)) → (q j : ℕ) → q < 8 → j < 16 → P q j (get_or (set l (links_place p k) x) (links_place q j) d)
  at_links_place P e f q j g h = search rules

module _ {A : Type 0} (places p : ℕ) (f : ℕ → A → A) (none : A) (l : List A) where
  abbrev was : ℕ → ℕ → A
  was q v = get_or l (q * places + v) none

  pub at_places : (P : ℕ → ℕ → A → Type 0) → ((v : ℕ) → v < places → P p v (f v (was p v))) → ((q v : ℕ) → q < 8 → v < places → q ≢ p → P q v (was q v))
      → (q v : ℕ) → q < 8 → v < places → P q v (get_or (on_places places p f none l) (q * places + v) none)
  at_places P e f q v g h = search (rules, places_at, eq-eqb, ne_eqb)
