-- A closed interaction has both viewlinks right, and stays closed. Assumes nothing.
use mathlib.Core.Path.{◌≡◌, refl}
use mathlib.Core.Logic.{◌≢◌}
use mathlib.Core.Bool.{true, false}
use Prim.Native.Nat.{ℕ, suc, ◌+◌, ◌-◌, ◌*◌, ◌<◌}
use native.Mathlib.Omega.{arith}
use Rattle.std.proofs.lemmas.Bool.{and_parts}
use Rattle.std.proofs.Common.{rules}
use Rattle.protocol.specs.Slots.{number, status_number, view, repair, entry, lasting_viewlink}
use Rattle.protocol.specs.Closed.{rests_of, closed_of}
use Rattle.unbroken.specs.Unbroken.{Unbroken}
use Rattle.protocol.specs.declared.State.{State}
use Rattle.unbroken.proofs.Laws.Room.{stores8, made_view_holds}
use Rattle.guarantees.proofs.Local.{Job, Cell, Good}
use Rattle.guarantees.proofs.Whole.{Everywhere}

-- a view that has nothing left to do
pub record Rests (m : State) (v : ℕ) : Type 0 where
  pub phase : (view m v).phase ≡ 5
  pub landed : (repair m v).flying ≡ false
  pub sent : status_number (entry m v).status ≢ 1
  pub answered : status_number (entry m v).status ≢ 2

pub rests_of_holds : (m : State) (v : ℕ) → rests_of m v ≡ true → Rests m v
rests_of_holds m v e = search rules

pub closed_of_holds : (m : State) (k : ℕ) → closed_of m k ≡ true → Rests m (number k 0) × Rests m (number k 1)
unfolding closed_of
closed_of_holds m k e = let a = and_parts (rests_of m (number k 0)) (rests_of m (number k 1)) e in (rests_of_holds m (number k 0) a.0, rests_of_holds m (number k 1) a.1)

-- at the store of the view `me`: its checkpointed link names the store of the other
local : {me ot : Job} {mc oc : Cell} {sent : ℕ} → Good me mc ot oc sent me.store → Good ot oc me mc sent me.store
    → me.phase ≡ 5 → ot.phase ≡ 5 → me.flying ≡ 0 → ot.flying ≡ 0 → (0 < ot.status → ot.status ≡ 3) → mc.saved ≡ suc ot.store
local e f g h i j k = search rules

pub accurate : (m : State) → Unbroken m → Everywhere m → (k r : ℕ) → r < 2 → Rests m (number k r) → Rests m (number k (1 - r)) → lasting_viewlink m (view m (number k r)).store (number k r) ≡ (view m (number k (1 - r))).store + 1
unfolding Everywhere
accurate m u inv k r hr a b =
    let hv : number k r < m.made * 2 = made_view_holds m u (number k r) (omega (arith, a.phase)) in
    let hk : k < m.made = omega arith in
    let hp : (view m (number k r)).store < 8 = omega (arith, stores8 m u, (u.view_at (number k r) (omega (arith, u.made16))).store_in (omega (arith, a.phase))) in
    let e : 1 - (1 - r) ≡ r = omega arith in
    let x = inv k r (view m (number k r)).store hk hr hp in
    let y = rw e at (inv k (1 - r) (view m (number k r)).store hk (omega arith) hp) in
    let l = local x y a.phase b.phase (rw a.landed refl) (rw b.landed refl) (λ n. omega (arith, y.status_in, b.sent, b.answered)) in
    omega arith
