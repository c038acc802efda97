-- From the rules to steps, refused ones too: the invariant, the turn of a view, and what a store holds. Assumes nothing.
use mathlib.Core.Path.{◌≡◌, ap}
use mathlib.Core.Bool.{false}
use Prim.Native.Nat.{ℕ, ◌*◌, ◌/◌, ◌%◌, ◌≤◌, ◌<◌}
use native.Mathlib.Omega.{arith}
use native.Mathlib.Decide.{ℕ_discrete, dec_lt}
use borrow.Author.Tests.{eqb-true}
use Rattle.std.proofs.Common.{rules}
use Rattle.protocol.specs.Slots.{number, view}
use Rattle.protocol.specs.Broken.{broken_of}
use Rattle.unbroken.specs.Unbroken.{Unbroken}
use Rattle.protocol.specs.declared.State.{State}
use Rattle.protocol.specs.declared.View.{View}
use Rattle.unbroken.proofs.Laws.{unbroken}
use Rattle.unbroken.proofs.Laws.Room.{unmade_view}
use Rattle.protocol.specs.declared.Step.TheVariants.{Send}
use Rattle.keeps.proofs.Conditions.{taken_when}
use Rattle.keeps.proofs.Keeps.{keeps}
use Rattle.protocol.specs.Step.{number_of, after_of, rule_of, step_of}
use Rattle.protocol.specs.declared.Step.{Step}
use Rattle.guarantees.proofs.Turns.{Turn, stays, turns}
use Rattle.guarantees.proofs.Reached.{Reached, backed_kept, both_kept, causes_kept, Key, old, new, key, new_sender, new_receiver}

-- what holds of a machine and of what a rule gives when it is taken holds after a step
pub by_step : (P : State → Type 0) (m : State) (s : Step) → broken_of m ≡ false → P m → (number_of m s ≡ 0 → P (after_of m s)) → P (step_of m s).state
unfolding step_of rule_of
by_step P m s e f g = search (rules, eqb-true)

-- a view that isn't made is in phase 0, and a step makes it at most queued
pub record Unmade (m n : State) (v : ℕ) : Type 0 where
  pub before : (view m v).phase ≡ 0
  pub behind : (view n v).phase ≤ 1

pub data Move (m : State) (s : Step) (n : State) (v : ℕ) : Type 0 where
  turns_to : Turn m s v (view n v) → Move m s n v
  unmade : Unmade m n v → Move m s n v

pub step_reached : (m : State) → Reached m → (s : Step) → Reached (step_of m s).state
step_reached m c s =
    by_step Reached m s c.fine c
    (λ e. record { fine = keeps m s c.fine e; everywhere = (both_kept m c s e).0; homes = (both_kept m c s e).1; causes = causes_kept m c s e; backed = backed_kept m c s e })

-- what a new view is
made_view_holds : (m : State) → Reached m → (s : Step) → number_of m s ≡ 0 → (v : ℕ) → m.made * 2 ≤ v → (view (after_of m s) v).phase ≤ 1
made_view_holds m c s e v h = go (dec_lt v ((after_of m s).made * 2))
  where
    fresh : Key m s (v / 2) → (view (after_of m s) v).phase ≤ 1
    fresh (old l) = absurd (let z : ⊥ = omega arith in z)
    fresh (new from to own word causes x y) = role (ℕ_discrete (v % 2) 0)
      where
        t : m.made < 16
        t = (taken_when m (Send from to own word causes) (rw x at e)).room

        role : Dec (v % 2 ≡ 0) → (view (after_of m s) v).phase ≤ 1
        role (yes z) =
            let i : v ≡ number m.made 0 = omega arith in
            rw (x, i, ap (λ (w : View). w.phase) (new_sender m c from to own word causes t)) (omega arith)
        role (no z) =
            let i : v ≡ number m.made 1 = omega arith in
            rw (x, i, ap (λ (w : View). w.phase) (new_receiver m c from to own word causes t)) (omega arith)

    go : Dec (v < (after_of m s).made * 2) → (view (after_of m s) v).phase ≤ 1
    go (yes l) = fresh (key m s (v / 2) (omega arith))
    go (no n) = let b = unmade_view (after_of m s) (unbroken (after_of m s) (keeps m s c.fine e)) v (omega arith) in omega arith

pub moves : (m : State) → Reached m → (s : Step) (v : ℕ) → Move m s (step_of m s).state v
moves m c s v = go (dec_lt v (m.made * 2))
  where
    u : Unbroken m
    u = unbroken m c.fine

    go : Dec (v < m.made * 2) → Move m s (step_of m s).state v
    go (yes l) = turns_to (by_step (λ n. Turn m s v (view n v)) m s c.fine stays (λ e. turns m u v l s e))
    go (no n) =
        let b = unmade_view m u v (omega arith) in
        unmade (record { before = b; behind = by_step (λ k. (view k v).phase ≤ 1) m s c.fine (omega arith) (λ e. made_view_holds m c s e v (omega arith)) })
