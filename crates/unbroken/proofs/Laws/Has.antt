-- A store has contents of a view in its working state, its checkpointed one, or both. Assumes nothing.
use Prim.Native.Nat.{ℕ}
use mathlib.Core.Path.{◌≡◌}
use mathlib.Core.Bool.{true}
use Rattle.std.proofs.lemmas.Bool.{or_left, or_right}
use Rattle.protocol.specs.Slots.{is_held, is_kept}
use Rattle.protocol.specs.Sweep.{has_contents}
use Rattle.protocol.specs.declared.State.{State}

module _ (m : State) (p v : ℕ) where
  pub has_held : is_held m p v ≡ true → has_contents m p v ≡ true
  has_held e = or_left (is_held m p v) (is_kept m p v) e

  pub has_kept : is_kept m p v ≡ true → has_contents m p v ≡ true
  has_kept e = or_right (is_held m p v) (is_kept m p v) e
