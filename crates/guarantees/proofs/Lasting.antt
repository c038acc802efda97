-- The guarantee 2 is about the checkpointed states: an ack in flight speaks of one, a crash loses nothing of it, and what it has stays.
-- Assumes nothing.
use mathlib.Core.Path.{◌≡◌, refl, sym, ap, ◌∙◌, subst}
use mathlib.Core.Bool.{true}
use mathlib.Core.List.{[], ◌∷◌, ◌++◌}
use Prim.Native.Nat.{ℕ, ◌*◌, ◌<◌}
use native.Mathlib.Omega.{arith}
use lib.ListN.{get_or}
use Rattle.protocol.specs.Slots.{number, view, shelf, is_lasting, kept_viewlink}
use Rattle.protocol.specs.Stores.{thrown_back}
use Rattle.protocol.specs.Sweep.{swept}
use Rattle.unbroken.specs.Unbroken.{Unbroken}
use Rattle.protocol.specs.declared.State.{State}
use Rattle.protocol.specs.declared.Store.{Store}
use Rattle.unbroken.proofs.Laws.{unbroken}
use Rattle.unbroken.proofs.Laws.Has.{has_kept}
use Rattle.unbroken.proofs.Laws.Room.{made_view_holds}
use Rattle.unbroken.proofs.Shelves.{shelf_left}
use Rattle.protocol.specs.Crash.{crashed}
use Rattle.protocol.specs.Step.{step_of}
use Rattle.protocol.specs.declared.Step.TheVariants.{Crash}
use Rattle.protocol.specs.Run.{ran, fresh_of}
use Rattle.keeps.specs.Lasting.{Lasts}
use Rattle.keeps.proofs.Cases.{step_case}
use Rattle.reads.proofs.Some.{ran_append}
use Rattle.guarantees.specs.Acknowledged.{after}
use Rattle.guarantees.specs.Guarantees.{Holds, AckInFlight, UackInFlight, CrashLosesNothing, LastsForEver}
use Rattle.guarantees.proofs.Rules.{here}
use Rattle.guarantees.proofs.Demand.{lasts_run, accepts, flag, reached, kept_for_ever_holds}

-- contents in a checkpointed state are the record's
holds : (m : State) → Unbroken m → (k r p : ℕ) → k < 16 → r < 2 → p < 8 → is_lasting m p (number k r) ≡ true → Holds m p k r (view m (number k r))
holds m u k r p hk hr hp e =
    let c = u.contents_at p (number k r) hp (omega arith) in
    let has = has_kept m p (number k r) e in
    record {
      held = e;
      asserter = c.same_actor has;
      word = c.same_word has;
      causes = c.same_causes has;
      links = λ z j hj.
          (u.links_at p k hp hk).same_links j hj (has_kept m p (number k 0) (ap (λ (i : ℕ). is_lasting m p (number k i)) (sym z) ∙ e))
          ∙ ap (λ (i : ℕ). get_or (view m (number k i)).links j 0) (sym z);
    }

pub ack_in_flight : AckInFlight
ack_in_flight u l steps k r p hk hr hp h =
    let m = after u steps in
    let c = reached u l steps in
    let y = unbroken m c.fine in
    let ready = (y.ack_at p (number k r) hp (omega arith)).at_view h in
    let made : number k r < m.made * 2 = made_view_holds m y (number k r) (omega arith) in
    let g = here m y.sized y.made16 c.everywhere k r p (omega arith) hr hp in
    (holds m y k r p hk hr hp (flag (is_lasting m p (number k r)) (g.ack_held h)), g.ack_linked h)

pub uack_in_flight : UackInFlight
uack_in_flight u l steps k r p hk hr hp h =
    let m = after u steps in
    let c = reached u l steps in
    let y = unbroken m c.fine in
    let hv : number k r < 32 = omega arith in
    let five = (y.entry_at (number k r) hv).settled ((y.uack_at p (number k r) hp hv).at_view h) in
    let made : number k r < m.made * 2 = made_view_holds m y (number k r) (omega arith) in
    let g = here m y.sized y.made16 c.everywhere k r p (omega arith) hr hp in
    omega (arith, g.wrote h, g.entry_own (g.uack_entry h))

-- a crash leaves the viewlinks of the checkpoint, taken or refused
crash_link : (m : State) (p v : ℕ) → kept_viewlink (step_of m (Crash p)).state p v ≡ kept_viewlink m p v
unfolding crashed swept
crash_link m p v =
    step_case m (Crash p) (λ x. kept_viewlink x.state p v ≡ kept_viewlink m p v) (λ e. refl)
    (λ e z. shelf_left m.shelves p (thrown_back (shelf m p)) (λ (s : Store). get_or s.keptlinks v 0) refl p) (λ e n. refl)

pub crash_loses_nothing : CrashLosesNothing
unfolding ran
crash_loses_nothing u l steps step k r p hr e further =
    let m = after u steps in
    let a = accepts m (reached u l steps) step (number k r) p e in
    let crash = Crash p ∷ [] in
    let held = kept_for_ever_holds u l steps step k r p hr e (further ++ crash) in
    let before : after u (steps ++ (step ∷ further)) ≡ ran (step_of m step).state further = ran_append (fresh_of u) steps (step ∷ further) in
    let behind : after u (steps ++ (step ∷ (further ++ crash))) ≡ ran (ran (step_of m step).state further) crash = ran_append (fresh_of u) steps (step ∷ (further ++ crash)) ∙ ran_append (step_of m step).state further crash in
    record {
      checkpointed = held;
      working = (reached u l (steps ++ (step ∷ (further ++ crash)))).backed.held p (number k r) a.low a.fits held.held;
      link = ap (λ (n : State). kept_viewlink n p (number k r)) behind ∙ crash_link (ran (step_of m step).state further) p (number k r) ∙ sym (ap (λ (n : State). kept_viewlink n p (number k r)) before);
    }

pub lasts_for_ever : LastsForEver
lasts_for_ever =
    record {
      backed = λ u l steps. (reached u l steps).backed;
      lasts = λ u l steps further. subst (Lasts (after u steps)) (sym (ran_append (fresh_of u) steps further)) (lasts_run (after u steps) (reached u l steps) further);
    }
