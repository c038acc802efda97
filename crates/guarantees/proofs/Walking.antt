-- The guarantee 7: where a key and all that is reached from it are closed, every link of its walk leads to the record that it is
-- meant for, so the walk is answered; what a walk meets is closed; and the causes that the records hold are those that were sent.
-- Assumes nothing.
use mathlib.Core.Path.{◌≡◌, refl, sym, ap, ◌∙◌, subst}
use mathlib.Core.Logic.{◌≢◌}
use mathlib.Core.Bool.{Bool, true, false, ◌&&◌, not}
use mathlib.Core.List.{List, ◌++◌}
use Prim.Native.Nat.{ℕ, zero, suc, ◌+◌, ◌-◌, ◌<◌}
use native.Mathlib.Omega.{arith}
use borrow.Author.Tests.{ne_eqb, lt-leb}
use lib.Dec.{eqb}
use lib.ListN.{get_or, take}
use lib.Seq.{get_or-set_other}
use Rattle.std.proofs.lemmas.Bool.{and_parts, both_ways}
use Rattle.std.proofs.Common.{rules}
use Rattle.protocol.specs.Words.{pick, bit, one, times}
use Rattle.protocol.specs.Slots.{number, view, is_lasting, lasting_contents, lasting_cause_links, home, queue, standing}
use Rattle.protocol.specs.Closed.{closed_of}
use Rattle.unbroken.specs.Unbroken.{Unbroken}
use Rattle.protocol.specs.declared.State.{State}
use Rattle.protocol.specs.declared.Setup.{Setup}
use Rattle.unbroken.proofs.Laws.{unbroken}
use Rattle.unbroken.proofs.Laws.Has.{has_kept}
use Rattle.protocol.specs.declared.Step.{Step}
use Rattle.protocol.specs.Run.{fresh_of}
use Rattle.guarantees.specs.Acknowledged.{Legal, after}
use Rattle.guarantees.specs.Guarantees.{SentCause, SentReach, TheWalk, EveryWalk}
use Rattle.guarantees.specs.Sent.{sent_as}
use Rattle.drains.specs.Drains.{steps_of}
use Rattle.reaches.specs.Reaches.{Reach, Cause as Cause', keys_of}
use Rattle.reaches.proofs.Keys.{IsMet, none_met, sound_unmet}
use Rattle.reaches.proofs.Visited.{visited}
use Rattle.reaches.proofs.Laws.{answered_reaches}
use Rattle.protocol.specs.Walk.{Met, added, spoiled, looked_up, found_of, causes_held, receipt_of, hop_of, each, is_due, to_cause, visit_of, unmet, walked_from, walk_of}
use Rattle.guarantees.proofs.Causes.{Cause}
use Rattle.guarantees.proofs.Reached.{Reached, Causes}
use Rattle.guarantees.proofs.Demand.{There, there, flag, reached}
use Rattle.reads.proofs.Some.{ran_append}
use Rattle.guarantees.proofs.Sent.{sent_run, told, told_on}
use Rattle.guarantees.proofs.Drained.{the_drain}
use Rattle.guarantees.proofs.Closing.{Rests, closed_of_holds, accurate}

-- what is picked of two that are fine is fine
both_fine : (b : Bool) (x y : Met) → x.fine ≡ true → y.fine ≡ true → (pick b x y).fine ≡ true
both_fine true x y f g = f
both_fine false x y f g = g

-- what a walk from a key needs: Q holds of that key and, with a key, of its causes; and every key in Q is there and closed
record Closing (m : State) (Q : ℕ → Type 0) : Type 0 where
  made : (k : ℕ) → Q k → k < m.made
  closed : (k : ℕ) → Q k → closed_of m k ≡ true
  causes : (k j : ℕ) → Q k → Cause' m k j → Q j

module _ (m : State) (c : Reached m) (Q : ℕ → Type 0) (z : Closing m Q) where
  u : Unbroken m
  u = unbroken m c.fine

  causes_at_holds : (k j : ℕ) → k < m.made → j < 16 → bit (view m (number k 0)).causes j ≡ true
      → Cause (home m (view m (number k 0)).actor) (standing (queue m (view m (number k 0)).actor)) (number j 1) (number k 0) j (view m (number k 0)) (view m (number j 1))
  unfolding Causes
  causes_at_holds = c.causes

  -- a link that names the store of a settled sender finds its record and its causes
  module _ (k : ℕ) (q : Q k) where
    hk : k < m.made
    hk = z.made k q

    hv : number k 0 < 32
    hv = omega (arith, hk, u.made16)

    rests : Rests m (number k 0) × Rests m (number k 1)
    rests = closed_of_holds m k (z.closed k q)

    sender : There m k 0 (view m (number k 0)).store
    sender = there m c k 0 (omega arith) (omega (arith, rests.0.phase))

    at_store_holds : ((view m (number k 0)).store + 1) - 1 ≡ (view m (number k 0)).store
    at_store_holds = omega arith

    found : found_of m k ((view m (number k 0)).store + 1) ≡ true
    unfolding found_of
    found = rw (ne_eqb ((view m (number k 0)).store + 1) 0 (λ e. let y : ⊥ = omega arith in y), at_store_holds, sender.held, z.closed k q)

    causes_held_holds : causes_held m k ((view m (number k 0)).store + 1) ≡ (view m (number k 0)).causes
    causes_held_holds =
        ap (λ (p : ℕ). (lasting_contents m p (number k 0)).causes) at_store_holds
        ∙ ((u.contents_at (view m (number k 0)).store (number k 0) sender.low hv).same_causes (has_kept m (view m (number k 0)).store (number k 0) sender.held))

    cause_in : (j : ℕ) → j < 16 → bit (view m (number k 0)).causes j ≡ true → Q j
    cause_in j hj b = z.causes k j q (record { low = hj; set = b })

    -- by the cause link to the receipt, by its viewlink to the opposite sender's record
    hop : (j : ℕ) → j < 16 → bit (view m (number k 0)).causes j ≡ true → hop_of m k ((view m (number k 0)).store + 1) j ≡ (view m (number j 0)).store + 1
    unfolding hop_of receipt_of
    hop j hj b =
        let p = (view m (number k 0)).store in
        let r = closed_of_holds m j (z.closed j (cause_in j hj b)) in
        let a : get_or (lasting_cause_links m p k) j 0 ≡ (view m (number j 1)).store = (u.links_at p k sender.low (omega (arith, hk, u.made16))).same_links j hj (has_kept m p (number k 0) sender.held) ∙ (causes_at_holds k j hk hj b).right (omega (arith, rests.0.phase)) in
        rw (at_store_holds, a, (there m c j 1 (omega arith) (omega (arith, r.1.phase))).held) (accurate m u c.everywhere j 1 (omega arith) r.1 r.0)

  each_fine : (visit : ℕ → Met → Met) (causes n j : ℕ) (w : Met) → ((i : ℕ) (x : Met) → i < j + n → bit causes i ≡ true → x.fine ≡ true → (visit i x).fine ≡ true) → w.fine ≡ true → (each visit causes n j w).fine ≡ true
  unfolding each
  each_fine visit causes zero j w f h = h
  each_fine visit causes (suc n) j w f h = each_fine visit causes n (j + 1) (pick (bit causes j) (visit j w) w) (λ i x l b g. f i x (omega arith) b g) (go (bit causes j) refl)
    where
      go : (b : Bool) → bit causes j ≡ b → (pick b (visit j w) w).fine ≡ true
      go true e = f j w (omega arith) e h
      go false e = h

  visit_fine : (depth k : ℕ) (w : Met) → Q k → w.fine ≡ true → (visit_of depth m k ((view m (number k 0)).store + 1) w).fine ≡ true
  unfolding visit_of
  visit_fine zero k w q h = h
  visit_fine (suc depth) k w q h = rw (found k q) (onward (λ i x l g. visit_fine depth i x l g))
    where
      onward : ((i : ℕ) (x : Met) → Q i → x.fine ≡ true → (visit_of depth m i ((view m (number i 0)).store + 1) x).fine ≡ true)
          → (each (to_cause (visit_of depth m) m k ((view m (number k 0)).store + 1)) (causes_held m k ((view m (number k 0)).store + 1)) k 0 (added (looked_up w) k)).fine ≡ true
      onward f =
          each_fine (to_cause (visit_of depth m) m k ((view m (number k 0)).store + 1)) (causes_held m k ((view m (number k 0)).store + 1)) k 0 (added (looked_up w) k)
          (λ i x l b g.
          let li : i < 16 = omega (arith, hk k q, u.made16) in
          let e : bit (view m (number k 0)).causes i ≡ true = subst (λ (s : ℕ). bit s i ≡ true) (causes_held_holds k q) b in
          both_fine (is_due x i) (visit_of depth m i (hop_of m k ((view m (number k 0)).store + 1) i) (looked_up x)) x
          (subst (λ (y : ℕ). (visit_of depth m i y (looked_up x)).fine ≡ true) (sym (hop k q i li e)) (f i (looked_up x) (cause_in k q i li e) g)) g) h

  walk_answered : (k : ℕ) → Q k → (walk_of m k).answer ≡ 0
  unfolding walk_of walked_from
  walk_answered k q = rw (c.fine, lt-leb m.made k (hk k q), visit_fine 16 k unmet q refl)

-- the other way: what a walk meets is closed
module _ (m : State) where
  unfoldable MetClosed : Met → Type 0
  MetClosed w = (i : ℕ) → IsMet w i → closed_of m i ≡ true

  each_closed : (visit : ℕ → Met → Met) (causes n j : ℕ) (w : Met) → ((i : ℕ) (x : Met) → MetClosed x → MetClosed (visit i x)) → MetClosed w → MetClosed (each visit causes n j w)
  unfolding each
  each_closed visit causes zero j w f h = h
  each_closed visit causes (suc n) j w f h = each_closed visit causes n (j + 1) (pick (bit causes j) (visit j w) w) f (go (bit causes j))
    where
      go : (b : Bool) → MetClosed (pick b (visit j w) w)
      go true = f j w h
      go false = h

  added_closed : (k : ℕ) (w : Met) → closed_of m k ≡ true → MetClosed w → MetClosed (added w k)
  unfolding MetClosed
  added_closed k w e f = search (rules, get_or-set_other)

  spoiled_closed : (w : Met) → MetClosed w → MetClosed (spoiled w)
  unfolding MetClosed
  spoiled_closed w h = h

  looked_closed : (w : Met) → MetClosed w → MetClosed (looked_up w)
  unfolding MetClosed
  looked_closed w h = h

  both_closed : (b : Bool) (x y : Met) → MetClosed x → MetClosed y → MetClosed (pick b x y)
  both_closed true x y f g = f
  both_closed false x y f g = g

  visit_closed : (depth k link : ℕ) (w : Met) → MetClosed w → MetClosed (visit_of depth m k link w)
  unfolding visit_of found_of
  visit_closed zero k link w h = h
  visit_closed (suc depth) k link w h = go (found_of m k link) refl (λ i x g. visit_closed depth i (hop_of m k link i) x g)
    where
      go : (d : Bool) → found_of m k link ≡ d → ((i : ℕ) (x : Met) → MetClosed x → MetClosed (visit_of depth m i (hop_of m k link i) x))
          → MetClosed (pick d (each (to_cause (visit_of depth m) m k link) (causes_held m k link) k 0 (added (looked_up w) k)) (spoiled w))
      go true e f =
          each_closed (to_cause (visit_of depth m) m k link) (causes_held m k link) k 0 (added (looked_up w) k)
          (λ i x g. both_closed (is_due x i) (visit_of depth m i (hop_of m k link i) (looked_up x)) x (f i (looked_up x) (looked_closed x g)) g)
          (added_closed k (looked_up w) (and_parts (not (eqb link 0) && is_lasting m (link - 1) (number k 0)) (closed_of m k) e).1 (looked_closed w h))
      go false e f = spoiled_closed w h

  none_closed : MetClosed unmet
  unfolding MetClosed
  none_closed i h = absurd (both_ways _ (none_met i) h)

  -- a key that an answered walk lists is closed
  walked_closed : Reached m → (k i : ℕ) → k < m.made → (walk_of m k).answer ≡ 0 → times i (keys_of (walk_of m k)) ≡ 1 → closed_of m i ≡ true
  unfolding MetClosed walk_of walked_from
  walked_closed c k i hk e t = visit_closed 16 k ((view m (number k 0)).store + 1) unmet none_closed i (met (walked_from m k).fine refl)
    where
      u : Unbroken m
      u = unbroken m c.fine

      low : k < 16
      low = omega (arith, u.made16)

      listed : times i (take (walked_from m k).count (walked_from m k).keys) ≡ one (get_or (walked_from m k).met i false)
      listed = (visited m u 16 k ((view m (number k 0)).store + 1) unmet low low sound_unmet (none_met k)).after.sound.listed i

      met : (f : Bool) → (walked_from m k).fine ≡ f → IsMet (walked_from m k) i
      met true f = flag (get_or (walked_from m k).met i false) (sym listed ∙ rw (c.fine, lt-leb m.made k hk, f) at t)
      met false f = absurd (let y : ◌≡◌ {A = ℕ} 13 0 = rw (c.fine, lt-leb m.made k hk, f) at e in let x : ⊥ = omega arith in x)

  walk_13 : Reached m → (k : ℕ) → k < m.made → (walk_of m k).answer ≢ 0 → (walk_of m k).answer ≡ 13
  unfolding walk_of
  walk_13 e k f g = search (rules, hk, lt-leb)

-- what is reached over the records' causes is what is reached over those that were sent
module _ (u : Setup) (l : Legal u) (steps : List Step) where
  x : Unbroken (after u steps)
  x = unbroken (after u steps) (reached u l steps).fine

  sent_set : (k j : ℕ) → k < (after u steps).made → SentCause u steps k j → Cause' (after u steps) k j
  sent_set k j h s = record { low = s.low; set = rw (told u l steps k h).causes s.set }

  set_sent : (k j : ℕ) → k < (after u steps).made → Cause' (after u steps) k j → SentCause u steps k j
  set_sent k j h s = record { low = s.low; set = rw (← (told u l steps k h).causes) s.set }

  lower : (k j : ℕ) → k < (after u steps).made → Cause' (after u steps) k j → j < (after u steps).made
  lower k j h s = omega (arith, (x.view_at (number k 0) (omega (arith, x.made16))).causes.below j s.low s.set)

  to_sent : (k i : ℕ) → k < (after u steps).made → Reach (after u steps) k i → SentReach u steps k i
  to_sent k i h Reach.here = SentReach.here
  to_sent k i h (Reach.by {j = j} s r) = SentReach.by (set_sent k j h s) (to_sent j i (lower k j h s) r)

  pub of_sent : (k i : ℕ) → k < (after u steps).made → SentReach u steps k i → Reach (after u steps) k i
  of_sent k i h SentReach.here = Reach.here
  of_sent k i h (SentReach.by {j = j} s r) = let d = sent_set k j h s in Reach.by d (of_sent j i (lower k j h d) r)

  pub reach_made : (k i : ℕ) → k < (after u steps).made → Reach (after u steps) k i → i < (after u steps).made
  reach_made k i h Reach.here = h
  reach_made k i h (Reach.by {j = j} s r) = reach_made j i (lower k j h s) r

reach_more : (m : State) (k i j : ℕ) → Reach m k i → Cause' m i j → Reach m k j
reach_more m k i j Reach.here s = Reach.by s Reach.here
reach_more m k i j (Reach.by {j = n} t r) s = Reach.by t (reach_more m n i j r s)

pub every_walk : EveryWalk
every_walk u l steps k h =
    let m = after u steps in
    let c = reached u l steps in
    record {
      answered = λ f. walk_answered m c (Reach m k)
          (record { made = λ i r. reach_made u l steps k i h r; closed = λ i r. f i (to_sent u l steps k i h r); causes = λ i j r s. reach_more m k i j r s }) k Reach.here;
      closed = λ e i r. walked_closed m c k i h e ((answered_reaches m k (walk_of m k) refl e).once i (of_sent u l steps k i h r));
      refused = walk_13 m c k h;
      once = λ e i r. (answered_reaches m k (walk_of m k) refl e).once i (of_sent u l steps k i h r);
      only = λ e i t. to_sent u l steps k i h ((answered_reaches m k (walk_of m k) refl e).only i t);
    }

-- more steps send nothing anew of the interactions that are there
module _ (u : Setup) (l : Legal u) (steps further : List Step) where
  same_causes_holds : (k : ℕ) → k < (after u steps).made → (sent_as u (steps ++ further) k).causes ≡ (sent_as u steps k).causes
  same_causes_holds k h = sym (told u l (steps ++ further) k (grown k h)).causes ∙ (told_on u l steps further k h).causes
    where
      grown : (k : ℕ) → k < (after u steps).made → k < (after u (steps ++ further)).made
      grown k h = rw (ran_append (fresh_of u) steps further) (omega (arith, (sent_run further (after u steps) (reached u l steps)).grown))

  below : (k j : ℕ) → k < (after u steps).made → SentCause u steps k j → j < (after u steps).made
  below k j h s = lower u l steps k j h (sent_set u l steps k j h s)

  pub reach_on : (k i : ℕ) → k < (after u steps).made → SentReach u steps k i → SentReach u (steps ++ further) k i
  reach_on k i h SentReach.here = SentReach.here
  reach_on k i h (SentReach.by {j = j} s r) =
      let d : SentCause u (steps ++ further) k j = record { low = s.low; set = rw (same_causes_holds k h) s.set } in
      SentReach.by d (reach_on j i (below k j h s) r)

  pub reach_off : (k i : ℕ) → k < (after u steps).made → SentReach u (steps ++ further) k i → SentReach u steps k i
  reach_off k i h SentReach.here = SentReach.here
  reach_off k i h (SentReach.by {j = j} s r) =
      let d : SentCause u steps k j = record { low = s.low; set = rw (← same_causes_holds k h) s.set } in
      SentReach.by d (reach_off j i (below k j h d) r)

pub the_walk : TheWalk
the_walk u l steps up k h =
    let d = the_drain u l steps up in
    let more = steps_of (after u steps) in
    let made : (after u (steps ++ more)).made ≡ (after u steps).made = ap (λ (m : State). m.made) (sym d.run) ∙ d.made in
    let w = every_walk u l (steps ++ more) k (omega arith) in
    let a = w.answered (λ i r. ap (λ (m : State). closed_of m i) (sym d.run) ∙ d.closes i (reach_made u l steps k i h (of_sent u l steps k i h (reach_off u l steps more k i h r)))) in
    search (rules, u, the_drain, every_walk, reach_made, of_sent, reach_off, reach_on)
