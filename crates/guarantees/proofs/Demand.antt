-- The guarantees 1 to 5, from the invariant that every run keeps. Assumes nothing.
use mathlib.Core.Path.{◌≡◌, refl, sym, ap, ◌∙◌, subst}
use mathlib.Core.Bool.{Bool, true, false}
use mathlib.Core.List.{List, [], ◌∷◌, ◌++◌}
use Prim.Native.Nat.{ℕ, ◌-◌, ◌*◌, ◌≤◌, ◌<◌}
use native.Mathlib.Omega.{arith}
use native.Mathlib.Decide.{ℕ_discrete, dec_lt}
use lib.ListN.{length, get_or}
use Rattle.protocol.specs.Words.{bit, one}
use Rattle.protocol.specs.Slots.{home, queue, standing, number, view, cause_links, is_lasting}
use Rattle.protocol.specs.Setup.{fresh_with}
use Rattle.protocol.specs.Closed.{closed_of}
use Rattle.unbroken.specs.Unbroken.{Unbroken}
use Rattle.protocol.specs.declared.State.{State}
use Rattle.protocol.specs.declared.Contents.{Contents}
use Rattle.protocol.specs.declared.Setup.{Setup}
use Rattle.unbroken.proofs.Laws.{unbroken, fresh_unbroken, fresh_blank}
use Rattle.unbroken.proofs.Laws.Has.{has_kept}
use Rattle.unbroken.proofs.Laws.Room.{stores8, made_view_holds}
use Rattle.keeps.specs.Lasting.{Lasts}
use Rattle.keeps.proofs.Onward.{closed_stays}
use Rattle.keeps.proofs.Lasting.{blank_backed, step_lasts, lasts_still, lasts_after}
use Rattle.protocol.specs.Step.{step_of}
use Rattle.protocol.specs.declared.Step.{Step}
use Rattle.protocol.specs.Run.{ran, fresh_of}
use Rattle.reads.proofs.Some.{ran_append}
use Rattle.guarantees.specs.Acknowledged.{Legal, after, accepted, acknowledged, AckedBy}
use Rattle.guarantees.specs.Guarantees.{OneAcknowledgement, Holds, KeptForEver, CauseLinks, StaysClosed, ViewLinks}
use Rattle.guarantees.proofs.Whole.{Everywhere}
use Rattle.guarantees.proofs.Turns.{Turn}
use Rattle.guarantees.proofs.Causes.{Cause, turn_actor, turn_word, turn_causes, turn_links}
use Rattle.guarantees.proofs.Rules.{Homes, here}
use Rattle.guarantees.proofs.Reached.{Reached, Causes}
use Rattle.guarantees.proofs.Steps.{Move, turns_to, unmade, step_reached, moves}
use Rattle.guarantees.proofs.Acks.{Ack, past, now, yet, ack, run_reached, stays_past, comes_to}
use Rattle.guarantees.proofs.Closing.{Rests, closed_of_holds, accurate}

-- a fresh machine has nothing that could be wrong
pub fresh_reached : (u : Setup) → Legal u → Reached (fresh_of u)
unfolding Everywhere Homes Causes fresh_with
fresh_reached u l =
    record {
      fine = fresh_unbroken u.stores u.actors u.homes u.lists l.legal l.homes8 l.lists8;
      everywhere = λ k r p hk hr hp. absurd (let z : ⊥ = omega arith in z);
      homes = λ k hk. absurd (let z : ⊥ = omega arith in z);
      causes = λ k j hk hj b. absurd (let z : ⊥ = omega arith in z);
      backed = blank_backed (fresh_of u) (fresh_blank u.stores u.actors u.homes u.lists);
    }

fresh_phase : (u : Setup) → Legal u → (v : ℕ) → (view (fresh_of u) v).phase ≡ 0
unfolding fresh_with
fresh_phase u l v = go (ℕ_discrete (view (fresh_of u) v).phase 0)
  where
    go : Dec ((view (fresh_of u) v).phase ≡ 0) → (view (fresh_of u) v).phase ≡ 0
    go (yes e) = e
    go (no n) = absurd (omega (arith, made_view_holds (fresh_of u) (unbroken (fresh_of u) (fresh_reached u l).fine) v (omega arith)))

same_head : (a b : ℕ) → ◌≡◌ {A = List ℕ} (a ∷ []) (b ∷ []) → a ≡ b
same_head a b e = cc

-- what a run keeps of what lasts in the stores
pub lasts_run : (m : State) → Reached m → (ss : List Step) → Lasts m (ran m ss)
unfolding ran
lasts_run m c [] = lasts_still m
lasts_run m c (s ∷ ss) = lasts_after m (step_of m s).state (ran (step_of m s).state ss) (step_lasts m s c.backed) (lasts_run (step_of m s).state (step_reached m c s) ss)

closed_run : (m : State) → Reached m → (ss : List Step) (k : ℕ) → closed_of m k ≡ true → closed_of (ran m ss) k ≡ true
unfolding ran
closed_run m c [] k h = h
closed_run m c (s ∷ ss) k h = closed_run (step_of m s).state (step_reached m c s) ss k (closed_stays m s k h)

-- an accepting step, as the turn that it is
pub record Accepting (m : State) (s : Step) (v p : ℕ) : Type 0 where
  pub made : v < m.made * 2
  pub fits : v < 32
  pub low : p < 8
  pub phase : (view m v).phase ≡ 3
  pub store : (view m v).store ≡ p
  pub turn : Turn m s v (view (step_of m s).state v)
  pub next : (view (step_of m s).state v).phase ≡ 4
  pub there : (view (step_of m s).state v).store ≡ p

pub accepts : (m : State) → Reached m → (s : Step) (v p : ℕ) → accepted m s v ≡ p ∷ [] → Accepting m s v p
accepts m c s v p e = go (ack m c s v) (moves m c s v)
  where
    u : Unbroken m
    u = unbroken m c.fine

    nothing : accepted m s v ≡ [] → Accepting m s v p
    nothing f = absurd (let z : ◌≡◌ {A = ℕ} 1 0 = sym (ap length e) ∙ ap length f in let y : ⊥ = omega arith in y)

    go : Ack m s v → Move m s (step_of m s).state v → Accepting m s v p
    go (past a b d f) t = nothing a
    go (yet a b d) t = nothing a
    go (now q k r x y a b d f g) (unmade z) = absurd (omega (arith, z.before))
    go (now q k r x y a b d f g) (turns_to t) =
        let h : q ≡ p = same_head q p (sym a ∙ e) in
        let made : v < m.made * 2 = made_view_holds m u v (omega arith) in
        let fits : v < 32 = omega (arith, u.made16) in
        record { made = made; fits = fits; low = omega (arith, stores8 m u, (u.view_at v fits).store_in (omega arith)); phase = b; store = d ∙ h; turn = t; next = f; there = g ∙ h }

pub flag : (b : Bool) → one b ≡ 1 → b ≡ true
flag true e = refl
flag false e = absurd (let z : ⊥ = omega arith in z)

-- a view past its ack: the checkpointed state of its store holds what its record says
pub record There (m : State) (k r p : ℕ) : Type 0 where
  pub made : k < m.made
  pub past : 4 ≤ (view m (number k r)).phase
  pub store : (view m (number k r)).store ≡ p
  pub low : p < 8
  pub held : is_lasting m p (number k r) ≡ true

pub there : (m : State) → Reached m → (k r : ℕ) → r < 2 → 4 ≤ (view m (number k r)).phase → There m k r (view m (number k r)).store
there m c k r hr h =
    let x = unbroken m c.fine in
    let hv : number k r < m.made * 2 = made_view_holds m x (number k r) (omega arith) in
    let hp : (view m (number k r)).store < 8 = omega (arith, stores8 m x, (x.view_at (number k r) (omega (arith, x.made16))).store_in (omega arith)) in
    record {
      made = omega arith;
      past = h;
      store = refl;
      low = hp;
      held = flag (is_lasting m (view m (number k r)).store (number k r)) ((here m x.sized x.made16 c.everywhere k r (view m (number k r)).store (omega arith) hr hp).kept_held h refl);
    }

module _ (u : Setup) (l : Legal u) where
  pub reached : (steps : List Step) → Reached (after u steps)
  reached steps = run_reached (fresh_of u) (fresh_reached u l) steps

  pub soon : (steps : List Step) (v : ℕ) → 4 ≤ (view (after u steps) v).phase → AckedBy u steps v (view (after u steps) v).store
  soon steps v h = (comes_to (fresh_of u) (fresh_reached u l) steps v (rw (fresh_phase u l v) (omega arith))).one h

  -- the store that acknowledged a view is its own, now and after any further steps
  pub acked_at : (steps : List Step) (k r p : ℕ) → r < 2 → AckedBy u steps (number k r) p → There (after u steps) k r p
  acked_at steps k r p hr a = go (dec_lt (view (after u steps) (number k r)).phase 4)
    where
      go : Dec ((view (after u steps) (number k r)).phase < 4) → There (after u steps) k r p
      go (yes h) =
          let e = (comes_to (fresh_of u) (fresh_reached u l) steps (number k r) (rw (fresh_phase u l (number k r)) (omega arith))).none h in
          absurd (let z : ◌≡◌ {A = ℕ} 1 0 = sym (ap length a) ∙ ap length e in let y : ⊥ = omega arith in y)
      go (no h) =
          let g : 4 ≤ (view (after u steps) (number k r)).phase = omega arith in
          subst (There (after u steps) k r) (same_head (view (after u steps) (number k r)).store p (sym (soon steps (number k r) g) ∙ a)) (there (after u steps) (reached steps) k r hr g)

  pub acked_on : (steps further : List Step) (k r p : ℕ) → r < 2 → AckedBy u steps (number k r) p → There (after u (steps ++ further)) k r p
  acked_on steps further k r p hr a =
      let t = acked_at steps k r p hr a in
      let x = stays_past (after u steps) (reached steps) further (number k r) t.past in
      rw (ran_append (fresh_of u) steps further)
      (subst (There (ran (after u steps) further) k r) (x.store ∙ t.store) (there (ran (after u steps) further) (run_reached (after u steps) (reached steps) further) k r hr x.phase))

  at_most_one_holds : (steps : List Step) (v : ℕ) → length (acknowledged (fresh_of u) steps v) ≤ 1
  at_most_one_holds steps v = go (dec_lt (view (after u steps) v).phase 4)
    where
      go : Dec ((view (after u steps) v).phase < 4) → length (acknowledged (fresh_of u) steps v) ≤ 1
      go (yes h) = rw ((comes_to (fresh_of u) (fresh_reached u l) steps v (rw (fresh_phase u l v) (omega arith))).none h) (omega arith)
      go (no h) = rw (soon steps v (omega arith)) (omega arith)

  rests_at : (steps : List Step) (k r : ℕ) → r < 2 → closed_of (after u steps) k ≡ true → Rests (after u steps) (number k r)
  rests_at steps k r h e = go (ℕ_discrete r 0)
    where
      go : Dec (r ≡ 0) → Rests (after u steps) (number k r)
      go (yes x) = subst (λ (y : ℕ). Rests (after u steps) (number k y)) (sym x) (closed_of_holds (after u steps) k e).0
      go (no n) = let x : r ≡ 1 = omega arith in subst (λ (y : ℕ). Rests (after u steps) (number k y)) (sym x) (closed_of_holds (after u steps) k e).1

  cause_acked : (steps : List Step) (step : Step) (k p : ℕ) → accepted (after u steps) step (number k 0) ≡ p ∷ [] → (j : ℕ) → j < 16 → bit (view (after u steps) (number k 0)).causes j ≡ true
      → ((view (after u steps) (number j 1)).actor ≡ (view (after u steps) (number k 0)).actor) × AckedBy u steps (number j 1) (get_or (view (after u steps) (number k 0)).links j 0)
  unfolding Causes
  cause_acked steps step k p e j hj b =
      let m = after u steps in
      let a = accepts m (reached steps) step (number k 0) p e in
      let hk : k < m.made = omega (arith, a.made) in
      let c = causes_at_holds steps k j hk hj b in
      let h : 2 ≤ (view m (number k 0)).phase = omega (arith, a.phase) in
      (c.actor, rw (c.right h) (soon steps (number j 1) (omega (arith, c.late h))))
    where
      causes_at_holds : (steps : List Step) (i j : ℕ) → i < (after u steps).made → j < 16 → bit (view (after u steps) (number i 0)).causes j ≡ true
          → Cause (home (after u steps) (view (after u steps) (number i 0)).actor) (standing (queue (after u steps) (view (after u steps) (number i 0)).actor)) (number j 1) (number i 0) j (view (after u steps) (number i 0)) (view (after u steps) (number j 1))
      causes_at_holds steps = (reached steps).causes

  kept : (steps : List Step) (step : Step) (k r p : ℕ) → r < 2 → accepted (after u steps) step (number k r) ≡ p ∷ [] → (further : List Step) → Holds (ran (step_of (after u steps) step).state further) p k r (view (after u steps) (number k r))
  kept steps step k r p hr e further =
      let m = after u steps in
      let n = (step_of m step).state in
      let c = reached steps in
      let d = step_reached m c step in
      let y = unbroken n d.fine in
      let x = unbroken m c.fine in
      let a = accepts m c step (number k r) p e in
      let hk : k < m.made = omega (arith, a.made) in
      let hv = a.fits in
      let hp = a.low in
      let hn : number k r < n.made * 2 = made_view_holds n y (number k r) (omega (arith, a.next)) in
      let g = here n y.sized y.made16 d.everywhere k r p (omega arith) hr hp in
      let h : is_lasting n p (number k r) ≡ true = flag (is_lasting n p (number k r)) (g.kept_held (omega (arith, a.next)) a.there) in
      let has = has_kept n p (number k r) h in
      let on = lasts_run n d further in
      let q = on.contents p (number k r) hp hv h in
      let f : 2 ≤ (view m (number k r)).phase = omega (arith, a.phase) in
      record {
        held = on.lasting p (number k r) hp hv h;
        asserter = ap (λ (w : Contents). w.asserter) q ∙ (y.contents_at p (number k r) hp hv).same_actor has ∙ turn_actor a.turn;
        word = ap (λ (w : Contents). w.word) q ∙ (y.contents_at p (number k r) hp hv).same_word has ∙ turn_word a.turn (omega arith);
        causes = ap (λ (w : Contents). w.causes) q ∙ (y.contents_at p (number k r) hp hv).same_causes has ∙ turn_causes a.turn (omega arith);
        links = λ z j hj.
            let i : is_lasting n p (number k 0) ≡ true = rw z at h in
            let s : get_or (cause_links n p k) j 0 ≡ get_or (view n (number k 0)).links j 0 = (y.links_at p k hp (omega (arith, x.made16))).same_links j hj (has_kept n p (number k 0) i) in
            ap (λ (w : List ℕ). get_or w j 0) (on.links p k hp (omega (arith, x.made16)) i) ∙ s
            ∙ ap (λ (w : List ℕ). get_or w j 0) (subst (λ (o : ℕ). (view n (number k o)).links ≡ (view m (number k r)).links) z (turn_links a.turn f));
      }

pub one_acknowledgement : OneAcknowledgement
one_acknowledgement =
    record {
      at_most_one = at_most_one_holds;
      exactly_one = λ u l steps v h. ((view (after u steps) v).store, soon u l steps v h);
      both_views = λ u l steps k r hr e. ((view (after u steps) (number k r)).store, soon u l steps (number k r) (omega (arith, (rests_at u l steps k r hr e).phase)));
      causes_first = λ u l steps step k j p e hj b. (get_or (view (after u steps) (number k 0)).links j 0, (cause_acked u l steps step k p e j hj b).1);
    }

pub kept_for_ever_holds : KeptForEver
unfolding ran
kept_for_ever_holds u l steps step k r p hr e further = rw (ran_append (fresh_of u) steps (step ∷ further)) (kept u l steps step k r p hr e further)

pub cause_links_holds : CauseLinks
cause_links_holds = cause_acked

pub stays_closed_for_ever : StaysClosed
stays_closed_for_ever u l steps further k e = rw (ran_append (fresh_of u) steps further) (closed_run (after u steps) (reached u l steps) further k e)

pub view_links_holds : ViewLinks
view_links_holds u l steps further k r p q hr e a b =
    let m = after u steps in
    let n = ran m further in
    let c = reached u l steps in
    let d = run_reached m c further in
    let y = unbroken n d.fine in
    let x = rests_at u l steps k r hr e in
    let z = rests_at u l steps k (1 - r) (omega arith) e in
    let g : p ≡ (view m (number k r)).store = same_head p (view m (number k r)).store (sym a ∙ soon u l steps (number k r) (omega (arith, x.phase))) in
    let h : q ≡ (view m (number k (1 - r))).store = same_head q (view m (number k (1 - r))).store (sym b ∙ soon u l steps (number k (1 - r)) (omega (arith, z.phase))) in
    let v = stays_past m c further (number k r) (omega (arith, x.phase)) in
    let w = stays_past m c further (number k (1 - r)) (omega (arith, z.phase)) in
    let o = rests_in_holds n k r hr (closed_run m c further k e) in
    let f = rests_in_holds n k (1 - r) (omega arith) (closed_run m c further k e) in
    rw (ran_append (fresh_of u) steps further, g ∙ sym v.store, h ∙ sym w.store) (accurate n y d.everywhere k r hr o f)
  where
    rests_in_holds : (n : State) (k r : ℕ) → r < 2 → closed_of n k ≡ true → Rests n (number k r)
    rests_in_holds n k r h e = go (ℕ_discrete r 0)
      where
        go : Dec (r ≡ 0) → Rests n (number k r)
        go (yes x) = subst (λ (y : ℕ). Rests n (number k y)) (sym x) (closed_of_holds n k e).0
        go (no i) = let x : r ≡ 1 = omega arith in subst (λ (y : ℕ). Rests n (number k y)) (sym x) (closed_of_holds n k e).1
