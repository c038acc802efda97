-- The notes of the stores, once one more is made. Assumes nothing.
use Prim.Native.Nat.{ℕ, ◌<◌}
use mathlib.Core.Path.{◌≡◌, refl, sym, ap, ◌∙◌}
use mathlib.Core.Logic.{◌≢◌}
use mathlib.Core.Bool.{Bool, true, ◌||◌}
use mathlib.Core.List.{List}
use lib.Dec.{eqb}
use lib.ListN.{length, get_or, set}
use borrow.Author.Tests.{eq-eqb, ne_eqb}
use Rattle.std.proofs.lemmas.Bool.{or_right}
use Rattle.std.proofs.Math.Bool.{or-false}
use Rattle.protocol.specs.Words.{bit, joined}
use Rattle.protocol.specs.Slots.{no_store}
use Rattle.protocol.specs.declared.Store.{Store}
use Rattle.unbroken.proofs.Laws.Bits.{joined_bit}
use Rattle.unbroken.proofs.Shelves.{in_set, shelf_left, shelf_same}

-- the store p is written as x, of whose notes f that of the view v is new
module _ (l : List Store) (p v : ℕ) (x : Store) (f : Store → ℕ) (e : f x ≡ joined (f (get_or l p no_store)) v) where
  joins : (u : ℕ) → bit (f x) u ≡ (in_set f l p u || eqb v u)
  joins u = ap (λ (w : ℕ). bit w u) e ∙ joined_bit (f (get_or l p no_store)) v u

  pub owing_now : length l ≡ 8 → p < 8 → in_set f (set l p x) p v ≡ true
  owing_now long hp = ap (λ (s : Store). bit (f s) v) (shelf_same l p x long hp) ∙ joins v ∙ or_right (in_set f l p v) (eqb v v) (eq-eqb v v refl)

  pub owing_far : (q u : ℕ) → u ≢ v → in_set f (set l p x) q u ≡ in_set f l q u
  owing_far q u n = shelf_left l p x (λ (s : Store). bit (f s) u) (joins u ∙ ap (λ (b : Bool). in_set f l p u || b) (ne_eqb v u (λ d. n (sym d))) ∙ or-false (in_set f l p u)) q
