-- What lasts in a store is one of eight's, and the view's record. Behind the eighth, by the length; assumes nothing.
use Prim.Native.Nat.{ℕ, ◌≤◌, ◌<◌}
use mathlib.Core.Path.{◌≡◌, ap, ◌∙◌}
use mathlib.Core.Bool.{true, false}
use native.Mathlib.Omega.{arith}
use native.Mathlib.Decide.{dec_lt}
use lib.ListN.{get_or-eq_default}
use Rattle.std.proofs.lemmas.Bool.{both_ways}
use Rattle.protocol.specs.Words.{bit}
use Rattle.protocol.specs.Slots.{no_store, view, contents, is_lasting}
use Rattle.protocol.specs.Sweep.{has_contents}
use Rattle.protocol.specs.declared.State.{State}
use Rattle.protocol.specs.declared.Store.{Store}
use Rattle.unbroken.specs.Unbroken.{Unbroken, ContentsSlot}
use Rattle.unbroken.proofs.Laws.Bits.{bit_none}

module _ (m : State) (u : Unbroken m) where
  pub nothing_lasts : (p v : ℕ) → 8 ≤ p → is_lasting m p v ≡ false
  nothing_lasts p v h = ap (λ (s : Store). bit s.kept v) (get_or-eq_default m.shelves no_store {n = p} (omega (arith, u.sized.shelves))) ∙ bit_none v

  pub lasting_slot : (p v : ℕ) → v < 32 → is_lasting m p v ≡ true → ContentsSlot m.stores p (has_contents m p v) (view m v) (contents m p v)
  lasting_slot p v b h =
      elim (dec_lt p 8) [
        | yes l ↦ u.contents_at p v l b
        | no l ↦ absurd (both_ways (is_lasting m p v) (nothing_lasts p v (omega arith)) h)
      ]
