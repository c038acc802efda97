-- In a closed interaction each link leads to a store that holds what it is for: by the guarantees 3 and 5, and because the store
-- that acknowledged a view holds it. Assumes nothing.
use mathlib.Core.Path.{◌≡◌, sym, ◌∙◌, subst}
use mathlib.Core.Bool.{true}
use mathlib.Core.List.{◌++◌}
use Prim.Native.Nat.{ℕ, ◌+◌, ◌-◌, ◌≤◌, ◌<◌}
use native.Mathlib.Omega.{arith}
use lib.ListN.{get_or}
use Rattle.protocol.specs.Words.{bit}
use Rattle.protocol.specs.Slots.{home, queue, standing, number, view, lasting_cause_links as cause_links, lasting_viewlink as viewlink}
use Rattle.protocol.specs.declared.State.{State}
use Rattle.unbroken.proofs.Laws.{unbroken}
use Rattle.unbroken.proofs.Laws.Has.{has_kept}
use Rattle.guarantees.specs.Acknowledged.{after, AckedBy}
use Rattle.guarantees.specs.Guarantees.{Lookup}
use Rattle.guarantees.proofs.Causes.{Cause}
use Rattle.guarantees.proofs.Reached.{Reached, Causes}
use Rattle.guarantees.proofs.Demand.{there, reached, soon, acked_on, one_acknowledgement, view_links_holds}

cause_at : (m : State) → Reached m → (k j : ℕ) → k < m.made → j < 16 → bit (view m (number k 0)).causes j ≡ true
    → Cause (home m (view m (number k 0)).actor) (standing (queue m (view m (number k 0)).actor)) (number j 1) (number k 0) j (view m (number k 0)) (view m (number j 1))
unfolding Causes
cause_at m c = c.causes

pub lookup : Lookup
lookup =
    record {
      other = λ u l steps further k r p hr e a.
          let n = after u (steps ++ further) in
          let b = one_acknowledgement.both_views u l steps k (1 - r) (omega arith) e in
          let q = b.0 in
          let x : 1 - (1 - r) ≡ r = omega arith in
          let f : viewlink n p (number k r) ≡ q + 1 = view_links_holds u l steps further k r p q hr e a b.1 in
          let g : viewlink n q (number k (1 - r)) ≡ p + 1 = view_links_holds u l steps further k (1 - r) q p (omega arith) e b.1 (subst (λ (i : ℕ). AckedBy u steps (number k i) p) (sym x) a) in
          let z : viewlink n p (number k r) - 1 ≡ q = omega arith in
          record { linked = omega arith; held = rw z (acked_on u l steps further k (1 - r) q (omega arith) b.1).held; back = rw z g };
      cause = λ u l steps further k p a j hj h.
          let n = after u (steps ++ further) in
          let c = reached u l (steps ++ further) in
          let y = unbroken n c.fine in
          let t = acked_on u l steps further k 0 p (omega arith) a in
          let hk : k < 16 = omega (arith, t.made, y.made16) in
          let g : bit (view n (number k 0)).causes j ≡ true = subst (λ (i : ℕ). bit i j ≡ true) ((y.contents_at p (number k 0) t.low (omega arith)).same_causes (has_kept n p (number k 0) t.held)) h in
          let x = cause_at n c k j t.made hj g in
          let past : 2 ≤ (view n (number k 0)).phase = omega (arith, t.past) in
          let e : get_or (cause_links n p k) j 0 ≡ (view n (number j 1)).store = (y.links_at p k t.low hk).same_links j hj (has_kept n p (number k 0) t.held) ∙ x.right past in
          let late : 4 ≤ (view n (number j 1)).phase = omega (arith, x.late past) in
          rw e ((there n c j 1 (omega arith) late).held, soon u l (steps ++ further) (number j 1) late);
    }
