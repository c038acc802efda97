-- In a run a view is acknowledged at most once, and exactly by the store that its record names from then on. Assumes nothing.
use mathlib.Core.Path.{◌≡◌, refl, sym, ap, ◌∙◌, subst}
use mathlib.Core.Logic.{◌≢◌}
use mathlib.Core.List.{List, [], ◌∷◌}
use Prim.Native.Nat.{ℕ, ◌≤◌, ◌<◌}
use native.Mathlib.Omega.{arith}
use borrow.Author.Tests.{eq-eqb, ne_eqb}
use Rattle.std.proofs.Common.{rules}
use Rattle.protocol.specs.Slots.{number, view}
use Rattle.protocol.specs.declared.State.{State}
use Rattle.protocol.specs.declared.View.{View}
use Rattle.protocol.specs.Step.{step_of}
use Rattle.protocol.specs.declared.Step.{Step}
use Rattle.protocol.specs.declared.Step.TheVariants.{TakeAck}
use Rattle.protocol.specs.Run.{ran}
use Rattle.guarantees.specs.Acknowledged.{accepted_into, accepted, acknowledged}
use Rattle.guarantees.proofs.Turns.{Turn, stays, received, checked, sends, timed, acked, settled}
use Rattle.guarantees.proofs.Reached.{Reached}
use Rattle.guarantees.proofs.Steps.{Move, turns_to, unmade, step_reached, moves}

-- a step that leaves the view out of phase 4, or found it there, doesn't accept
not_accepted : (m : State) (s : Step) (v : ℕ) → ((view m v).phase ≢ 4 → (view (step_of m s).state v).phase ≢ 4) → accepted m s v ≡ []
unfolding accepted_into
not_accepted m s v e = search (rules, eq-eqb, ne_eqb)

is_accepted : (m : State) (p k r v : ℕ) → v ≡ number k r → (view m v).phase ≢ 4 → (view (step_of m (TakeAck p k r)).state v).phase ≡ 4 → accepted m (TakeAck p k r) v ≡ p ∷ []
unfolding accepted_into
is_accepted m p k r v e n h = rw (eq-eqb (number k r) v (sym e), ne_eqb (view m v).phase 4 n, eq-eqb (view (step_of m (TakeAck p k r)).state v).phase 4 h)

-- one step: the view is past its ack, or accepts, or stays before it
pub data Ack (m : State) (s : Step) (v : ℕ) : Type 0 where
  past : accepted m s v ≡ [] → 4 ≤ (view m v).phase → 4 ≤ (view (step_of m s).state v).phase → (view (step_of m s).state v).store ≡ (view m v).store → Ack m s v
  now : (p k r : ℕ) → s ≡ TakeAck p k r → v ≡ number k r → accepted m s v ≡ p ∷ [] → (view m v).phase ≡ 3 → (view m v).store ≡ p → (view (step_of m s).state v).phase ≡ 4 → (view (step_of m s).state v).store ≡ p → Ack m s v
  yet : accepted m s v ≡ [] → (view m v).phase < 4 → (view (step_of m s).state v).phase < 4 → Ack m s v

module _ (m : State) (s : Step) (v : ℕ) where
  by_turn : (w : View) → Turn m s v w → view (step_of m s).state v ≡ w → Ack m s v
  by_turn w stays e = search (rules, not_accepted)
  by_turn w (received k f h) e = let g : (view (step_of m s).state v).phase ≡ 1 = ap (λ (x : View). x.phase) e in yet (not_accepted m s v (λ n z. omega arith)) (omega arith) (omega arith)
  by_turn w (checked h f) e = let g : (view (step_of m s).state v).phase ≡ 2 = ap (λ (x : View). x.phase) e in yet (not_accepted m s v (λ n z. omega arith)) (omega arith) (omega arith)
  by_turn w (sends h) e = let g : (view (step_of m s).state v).phase ≡ 3 = ap (λ (x : View). x.phase) e in yet (not_accepted m s v (λ n z. omega arith)) (omega arith) (omega arith)
  by_turn w (timed p h) e = let g : (view (step_of m s).state v).phase ≡ 2 = ap (λ (x : View). x.phase) e in yet (not_accepted m s v (λ n z. omega arith)) (omega arith) (omega arith)
  by_turn w (acked p k r f i h o) e =
      let g : (view (step_of m s).state v).phase ≡ 4 = ap (λ (x : View). x.phase) e in
      now p k r f i (subst (λ (x : Step). (view (step_of m x).state v).phase ≡ 4 → accepted m x v ≡ p ∷ []) (sym f) (λ z. is_accepted m p k r v i (λ y. omega arith) z) g) h o g (ap (λ (x : View). x.store) e ∙ o)
  by_turn w (settled h f) e = search (rules, not_accepted)

  by_move : Move m s (step_of m s).state v → Ack m s v
  by_move (turns_to t) = by_turn (view (step_of m s).state v) t refl
  by_move (unmade h) = let a = h.before in let b = h.behind in yet (not_accepted m s v (λ n z. omega arith)) (omega arith) (omega arith)

pub ack : (m : State) → Reached m → (s : Step) (v : ℕ) → Ack m s v
ack m c s v = by_move m s v (moves m c s v)

pub run_reached : (m : State) → Reached m → (ss : List Step) → Reached (ran m ss)
unfolding ran
run_reached m c [] = c
run_reached m c (s ∷ ss) = run_reached (step_of m s).state (step_reached m c s) ss

-- past its ack a view stays so, at its store, and is not acknowledged again
pub record Past (m : State) (ss : List Step) (v : ℕ) : Type 0 where
  pub none : acknowledged m ss v ≡ []
  pub phase : 4 ≤ (view (ran m ss) v).phase
  pub store : (view (ran m ss) v).store ≡ (view m v).store

pub stays_past : (m : State) → Reached m → (ss : List Step) (v : ℕ) → 4 ≤ (view m v).phase → Past m ss v
unfolding acknowledged ran
stays_past m c [] v h = record { none = refl; phase = h; store = refl }
stays_past m c (s ∷ ss) v h = go (ack m c s v) (λ g. stays_past (step_of m s).state (step_reached m c s) ss v g)
  where
    go : Ack m s v → (4 ≤ (view (step_of m s).state v).phase → Past (step_of m s).state ss v) → Past m (s ∷ ss) v
    go (past a b d e) f = let r = f d in record { none = rw a r.none; phase = r.phase; store = r.store ∙ e }
    go (now p k r x y a b d e g) f = absurd (let z : ⊥ = omega arith in z)
    go (yet a b d) f = absurd (let z : ⊥ = omega arith in z)

-- before its ack: none so far, or exactly the store that its record names
pub record Soon (m : State) (ss : List Step) (v : ℕ) : Type 0 where
  pub none : (view (ran m ss) v).phase < 4 → acknowledged m ss v ≡ []
  pub one : 4 ≤ (view (ran m ss) v).phase → acknowledged m ss v ≡ (view (ran m ss) v).store ∷ []

pub comes_to : (m : State) → Reached m → (ss : List Step) (v : ℕ) → (view m v).phase < 4 → Soon m ss v
unfolding acknowledged ran
comes_to m c [] v h = record { none = λ g. refl; one = λ g. absurd (let z : ⊥ = omega arith in z) }
comes_to m c (s ∷ ss) v h = go (ack m c s v) (λ g. comes_to (step_of m s).state (step_reached m c s) ss v g)
  where
    go : Ack m s v → ((view (step_of m s).state v).phase < 4 → Soon (step_of m s).state ss v) → Soon m (s ∷ ss) v
    go (past a b d e) f = absurd (let z : ⊥ = omega arith in z)
    go (now p k r x y a b d e g) f =
        let t = stays_past (step_of m s).state (step_reached m c s) ss v (omega arith) in
        record { none = λ i. absurd (omega (arith, t.phase)); one = λ i. rw (a, t.none, t.store ∙ g) }
    go (yet a b d) f = let r = f d in record { none = λ i. rw a (r.none i); one = λ i. rw a (r.one i) }
