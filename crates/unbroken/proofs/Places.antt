-- What stands where once the places of one store are written together. Assumes nothing.
use Prim.Native.Nat.{ℕ, ◌+◌, ◌*◌, ◌/◌, ◌%◌, ◌<◌}
use mathlib.Core.Path.{◌≡◌}
use mathlib.Core.List.{List}
use native.Mathlib.Nat.{add-zero, suc-mul, mul-le-mul_right, mul-add-div_right, mul-add-mod_self_right, div-eq_of_lt, mod-eq_of_lt}
use lib.ListN.{length, get_or}
use lib.Dec.{eqb}
use Rattle.std.proofs.Common.{rules}
use Rattle.protocol.specs.Words.{pick}
use Rattle.protocol.specs.Sweep.{on_places}
use Rattle.unbroken.proofs.Laws.Every.{length_table, table_at}

module _ {A : Type 0} (places p : ℕ) (f : ℕ → A → A) (none : A) (l : List A) where
  pub places_length : length (on_places places p f none l) ≡ places * 8
  places_length = length_table (λ at. pick (eqb (at / places) p) (f (at % places) (get_or l at none)) (get_or l at none)) (places * 8)

  place_at : (at : ℕ) → at < places * 8 → get_or (on_places places p f none l) at none ≡ pick (eqb (at / places) p) (f (at % places) (get_or l at none)) (get_or l at none)
  place_at at h = table_at (λ at. pick (eqb (at / places) p) (f (at % places) (get_or l at none)) (get_or l at none)) (places * 8) none at h

  -- at the place v of the store q
  pub places_at : (q v : ℕ) → q < 8 → v < places
      → get_or (on_places places p f none l) (q * places + v) none ≡ pick (eqb q p) (f v (get_or l (q * places + v) none)) (get_or l (q * places + v) none)
  places_at q v e f = search (rules, mul-le-mul_right, mul-add-div_right, div-eq_of_lt, add-zero, mul-add-mod_self_right, mod-eq_of_lt, place_at, suc-mul)
