-- What is known of a head when its rule is taken: it is a view of this machine, and its actor's. Assumes nothing.
use mathlib.Core.Path.{◌≡◌, refl}
use mathlib.Core.Bool.{Bool, true, false}
use Prim.Native.Nat.{ℕ, suc, ◌*◌, ◌/◌, ◌%◌, ◌<◌}
use native.Mathlib.Omega.{arith}
use Rattle.std.proofs.Common.{rules}
use Rattle.protocol.specs.Words.{pick}
use Rattle.protocol.specs.Slots.{queue}
use Rattle.unbroken.specs.Unbroken.{Unbroken}
use Rattle.protocol.specs.declared.State.{State}
use Rattle.protocol.specs.Rule.{head, head_view}
use Rattle.unbroken.proofs.Laws.Room.{actors8, made_view_holds}
use Rattle.keeps.specs.Taken.{HeadIn}

pub pick_zero : (b : Bool) (n x : ℕ) → pick b (suc n) x ≡ 0 → (b ≡ false) × (x ≡ 0)
pick_zero true n x e = let z : ⊥ = omega arith in absurd z
pick_zero false n x e = (refl, e)

-- a view's key and role
abbrev pub key_of : ℕ → ℕ
key_of v = v / 2

abbrev pub role_of : ℕ → ℕ
role_of v = v % 2

-- the head of a's queue is a view of this machine, in the phase n
pub record Headed (m : State) (a n : ℕ) : Type 0 where
  pub actor : a < m.actors
  pub some : 0 < (queue m a).len
  pub phase : (head_view m a).phase ≡ n
  pub made : head m a < m.made * 2
  pub owner : (head_view m a).actor ≡ a

pub headed : (m : State) → Unbroken m → (a n : ℕ) → HeadIn n m a → Headed m a n
headed m e a n f = search (rules, actors8, made_view_holds)
