-- The invariant of every machine that a run reaches: not broken, the local record everywhere, the homes, the causes, and that the
-- working states have what the checkpointed ones have.
-- Kept by every step, and true of a fresh machine. Assumes nothing.
use mathlib.Core.Path.{◌≡◌, refl, sym, ap, ◌∙◌, subst}
use mathlib.Core.Logic.{◌≢◌}
use mathlib.Core.Bool.{true, false}
use mathlib.Core.List.{List, [], ◌∷◌, ◌++◌}
use Prim.Native.Nat.{ℕ, ◌+◌, ◌≤◌, ◌<◌}
use native.Mathlib.Omega.{arith}
use native.Mathlib.Decide.{dec_lt}
use lib.ListN.{get_or, set, length-set}
use lib.Seq.{get_or-set_same, get_or-set_other}
use Rattle.std.proofs.Common.{rules}
use Rattle.protocol.specs.Words.{bit, times}
use Rattle.protocol.specs.Slots.{number, queue, standing, view, home, no_view, no_queue}
use Rattle.protocol.specs.Broken.{broken_of}
use Rattle.unbroken.specs.Unbroken.{Unbroken}
use Rattle.protocol.specs.declared.State.{State}
use Rattle.protocol.specs.Outcome.{Outcome}
use Rattle.unbroken.proofs.Laws.{unbroken, bounds}
use Rattle.unbroken.proofs.Laws.Every.{table_at}
use Rattle.unbroken.proofs.Laws.Room.{actors8, sender_made_holds}
use Rattle.protocol.specs.Send.{send_no, sent, sent_view, awaited_view, joined, home_link}
use Rattle.protocol.specs.Step.{number_of, after_of}
use Rattle.protocol.specs.declared.Step.{Step}
use Rattle.protocol.specs.declared.Step.TheVariants.{Send}
use Rattle.keeps.specs.Laws.{made_by}
use Rattle.keeps.specs.Lasting.{Backed}
use Rattle.keeps.proofs.Conditions.{taken_when}
use Rattle.keeps.proofs.Laws.{taken_gives, made_counts}
use Rattle.keeps.proofs.Onward.{step_onward}
use Rattle.keeps.proofs.Lasting.{step_backed}
use Rattle.keeps.proofs.Which.{Kind, a_send, another, kinds}
use Rattle.guarantees.proofs.Whole.{Everywhere}
use Rattle.guarantees.proofs.Rules.{Homes, here, taken_keeps}
use Rattle.guarantees.proofs.Turns.{turns}
use Rattle.guarantees.proofs.Queues.{joined_stands, stays_ahead}
use Rattle.guarantees.proofs.Causes.{Cause, ahead_last, times_in_holds, turn_actor, turn_causes, keep}

unfoldable pub Causes : State → Type 0
Causes m =
    (k j : ℕ) → k < m.made → j < 16 → bit (view m (number k 0)).causes j ≡ true
    → Cause (home m (view m (number k 0)).actor) (standing (queue m (view m (number k 0)).actor)) (number j 1) (number k 0) j (view m (number k 0)) (view m (number j 1))

pub record Reached (m : State) : Type 0 where
  pub fine : broken_of m ≡ false
  pub everywhere : Everywhere m
  pub homes : Homes m
  pub causes : Causes m
  pub backed : Backed m

-- an interaction after a step is one from before it, or the one that the step sent
pub data Key (m : State) (s : Step) (k : ℕ) : Type 0 where
  old : k < m.made → Key m s k
  new : (from to own word causes : ℕ) → s ≡ Send from to own word causes → k ≡ m.made → Key m s k

pub key : (m : State) (s : Step) (k : ℕ) → k < (after_of m s).made → Key m s k
key m s k h = go (kinds s)
  where
    go : Kind s → Key m s k
    go (a_send from to own word causes x) =
        let g : (after_of m s).made ≡ m.made + 1 = made_counts m s ∙ ap (made_by m) x in
        elim (dec_lt k m.made) [ yes l ↦ old l | no n ↦ new from to own word causes x (omega arith) ]
    go (another o) = let g = o.made m in old (omega arith)

module _ (m : State) (c : Reached m) where
  u : Unbroken m
  u = unbroken m c.fine

  pub backed_kept : (s : Step) → number_of m s ≡ 0 → Backed (after_of m s)
  backed_kept s e = subst Backed (ap (λ (o : Outcome). o.state) (taken_gives m s c.fine (taken_when m s e))) (step_backed m s c.backed)

  pub both_kept : (s : Step) → number_of m s ≡ 0 → Everywhere (after_of m s) × Homes (after_of m s)
  both_kept s e = taken_keeps m s c.fine e (c.everywhere, c.homes)

  -- a home is read where it was
  home_same : (s : Step) → number_of m s ≡ 0 → (a : ℕ) → home (after_of m s) a ≡ home m a
  home_same s e a =
      ap (λ (l : List ℕ). get_or l a 0) (ap (λ (o : Outcome). o.state.homes) (sym (taken_gives m s c.fine (taken_when m s e))) ∙ (step_onward m s).homes)

  -- the two views of a new interaction
  pub new_sender : (from to own word causes : ℕ) → m.made < 16 → view (sent m from to own word causes) (number m.made 0) ≡ sent_view m from to own word causes
  unfolding sent
  new_sender from to own word causes h =
      get_or-set_other (set m.views (number m.made 0) (sent_view m from to own word causes)) (number m.made 1) (number m.made 0) (awaited_view to) no_view (λ e. let z : ⊥ = omega arith in z)
      ∙ get_or-set_same m.views (number m.made 0) (sent_view m from to own word causes) no_view (omega (arith, u.sized.views))

  pub new_receiver : (from to own word causes : ℕ) → m.made < 16 → view (sent m from to own word causes) (number m.made 1) ≡ awaited_view to
  unfolding sent
  new_receiver from to own word causes h =
      get_or-set_same (set m.views (number m.made 0) (sent_view m from to own word causes)) (number m.made 1) (awaited_view to) no_view (rw length-set (omega (arith, u.sized.views)))

  -- a receipt that has not moved is at its actor's home
  unmoved : (j : ℕ) → j < m.made → 1 ≤ (view m (number j 1)).phase → (view m (number j 1)).changed ≡ false → (view m (number j 1)).store ≡ home m (view m (number j 1)).actor
  unfolding Homes
  unmoved j h f g =
      let a = here m u.sized u.made16 c.everywhere j 1 0 h (omega arith) (omega arith) in
      a.first (rw g refl) f (sender_made_holds m u j h) ∙ homes_at j h
    where
      homes_at : (i : ℕ) → i < m.made → (view m (number i 0)).viewlink ≡ home m (view m (number i 1)).actor
      homes_at = c.homes

  other_view : (from to own word causes j : ℕ) → j < m.made → view (sent m from to own word causes) (number j 1) ≡ view m (number j 1)
  unfolding sent
  other_view from to own word causes j h =
      get_or-set_other (set m.views (number m.made 0) (sent_view m from to own word causes)) (number m.made 1) (number j 1) (awaited_view to) no_view (λ e. let z : ⊥ = omega arith in z)
      ∙ get_or-set_other m.views (number m.made 0) (number j 1) (sent_view m from to own word causes) no_view (λ e. let z : ⊥ = omega arith in z)

  new_queue : (from to own word causes : ℕ) → from < m.actors → m.made < 16 → standing (queue (sent m from to own word causes) from) ≡ standing (queue m from) ++ (number m.made 0 ∷ [])
  unfolding sent
  new_queue from to own word causes h g =
      let f : from < 8 = omega (arith, actors8 m u) in
      ap standing (get_or-set_same m.queues from (joined (queue m from) (number m.made 0)) no_queue (omega (arith, u.sized.queues)))
      ∙ joined_stands (queue m from) (number m.made 0) (u.queue_at from f).long ((bounds m c.fine).send_room from f g)

  queued : (from j : ℕ) → j < m.made → 1 ≤ (view m (number j 1)).phase → (view m (number j 1)).phase ≢ 5 → (view m (number j 1)).actor ≡ from → 1 ≤ times (number j 1) (standing (queue m from))
  queued from j e f g h = search (rules, u)

  -- the causes of a send: its job received each, and what isn't settled stands in its queue
  new_cause : (from to own word causes : ℕ) → send_no m from to own causes ≡ 0 → (k : ℕ) → k ≡ m.made → (j : ℕ) → j < 16 → bit (view (sent m from to own word causes) (number k 0)).causes j ≡ true
      → Cause (home (sent m from to own word causes) (view (sent m from to own word causes) (number k 0)).actor) (standing (queue (sent m from to own word causes) (view (sent m from to own word causes) (number k 0)).actor)) (number j 1) (number k 0) j
      (view (sent m from to own word causes) (number k 0)) (view (sent m from to own word causes) (number j 1))
  new_cause from to own word causes e k y j hj b =
      let t = taken_when m (Send from to own word causes) e in
      let w = new_sender from to own word causes t.room in
      let g : bit causes j ≡ true = rw (y, w) at b in
      let r = t.known j hj g in
      let o = other_view from to own word causes j r.key_in in
      let q = new_queue from to own word causes t.from_in t.room in
      rw (y, w, o, home_same (Send from to own word causes) e from, q)
      (record {
        actor = r.by_actor;
        made = r.received;
        early = λ h n. ahead_last (number j 1) (number m.made 0) (standing (queue m from)) (times_in_holds (number j 1) (standing (queue m from)) (queued from j r.key_in r.received n r.by_actor));
        fresh = λ h. table_at (home_link causes (home m from)) 16 0 j hj ∙ rw g;
        late = λ h. absurd (let z : ⊥ = omega arith in z);
        right = λ h. absurd (let z : ⊥ = omega arith in z);
      })

  pub causes_kept : (s : Step) → number_of m s ≡ 0 → Causes (after_of m s)
  unfolding Causes
  causes_kept s e k j h hj b = go (key m s k h)
    where
      n : State
      n = after_of m s

      causes_at_holds : (i : ℕ) → i < m.made → bit (view m (number i 0)).causes j ≡ true
          → Cause (home m (view m (number i 0)).actor) (standing (queue m (view m (number i 0)).actor)) (number j 1) (number i 0) j (view m (number i 0)) (view m (number j 1))
      causes_at_holds i hi g = c.causes i j hi hj g

      go : Key m s k
          → Cause (home (after_of m s) (view (after_of m s) (number k 0)).actor) (standing (queue (after_of m s) (view (after_of m s) (number k 0)).actor)) (number j 1) (number k 0) j (view (after_of m s) (number k 0)) (view (after_of m s) (number j 1))
      go (old l) =
          let a = turns m u (number k 0) (omega arith) s e in
          let d = turn_actor a in
          let g : bit (view m (number k 0)).causes j ≡ true = rw (sym (turn_causes a (sender_made_holds m u k l))) b in
          let i : j < k = omega (arith, (u.view_at (number k 0) (omega (arith, u.made16))).causes.below j hj g) in
          let q : (view m (number k 0)).actor < 8 = omega (arith, actors8 m u, (u.view_at (number k 0) (omega (arith, u.made16))).actor_in (omega arith)) in
          rw (home_same s e (view (after_of m s) (number k 0)).actor, d)
          (keep m u s j k hj l a (turns m u (number j 1) (omega arith) s e) g (unmoved j (omega arith))
          (stays_ahead m c.fine s e (view m (number k 0)).actor (number j 1) (number k 0) q) (causes_at_holds k l g))
      go (new from to own word causes x y) =
          subst (λ (z : Step). Cause (home (after_of m z) (view (after_of m z) (number k 0)).actor) (standing (queue (after_of m z) (view (after_of m z) (number k 0)).actor)) (number j 1) (number k 0) j (view (after_of m z) (number k 0)) (view (after_of m z) (number j 1))) (sym x)
          (new_cause from to own word causes (rw x at e) k y j hj (rw x at b))
