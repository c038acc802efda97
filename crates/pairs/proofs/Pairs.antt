-- The laws of the pair rule: the refusals by its tests; what it says of the sends by the guarantees, since an answered walk meets
-- what leads to its key over the causes as sent, all of it closed, and closed records say what was sent. Assumes nothing.
use Prim.Native.Nat.{ℕ, ◌≤◌, ◌<◌}
use mathlib.Core.Path.{◌≡◌, refl, sym, ap, subst, ◌∙◌}
use mathlib.Core.Logic.{◌≢◌}
use mathlib.Core.Bool.{Bool, true, false, ◌&&◌}
use mathlib.Core.List.{List, [], ◌++◌, append-nil}
use native.Mathlib.Omega.{arith}
use lib.Dec.{eqb}
use borrow.Author.Tests.{eqb-true, eqb-false, eq-eqb, ne_eqb}
use Rattle.std.proofs.lemmas.Bool.{and_parts, or_from}
use Rattle.protocol.specs.Words.{pick, times}
use Rattle.reaches.specs.Reaches.{keys_of}
use Rattle.protocol.specs.Slots.{number, view}
use Rattle.protocol.specs.Closed.{closed_of}
use Rattle.protocol.specs.declared.State.{State}
use Rattle.protocol.specs.declared.Setup.{Setup}
use Rattle.protocol.specs.declared.Step.{Step}
use Rattle.protocol.specs.Run.{fresh_of}
use Rattle.protocol.specs.Walk.{walk_of}
use Rattle.unbroken.proofs.Laws.{unbroken}
use Rattle.unbroken.proofs.Laws.Has.{has_kept}
use Rattle.reads.proofs.Some.{ran_append}
use Rattle.drains.specs.Drains.{steps_of}
use Rattle.guarantees.specs.Acknowledged.{Legal, after}
use Rattle.guarantees.specs.Sent.{sent_as}
use Rattle.guarantees.specs.Guarantees.{SentReach}
use Rattle.guarantees.proofs.Closing.{closed_of_holds}
use Rattle.guarantees.proofs.Demand.{there, reached, stays_closed_for_ever}
use Rattle.guarantees.proofs.Sent.{sent_run, told_on}
use Rattle.guarantees.proofs.Drained.{the_drain}
use Rattle.guarantees.proofs.Walking.{of_sent, reach_made, reach_on, reach_off, every_walk, the_walk}
use Rattle.pairing.specs.Pair.{Checked, kind_of, bundle_of, record_of, met_of, is_a, is_rule, rule_one, two_adds, rule_two, passes_of, refused_check, answered_check, checked_of, check_of}
use Rattle.pairs.specs.Pairs.{Rule, old, new, TwoThenOne, Refuses, Speaks, AsSent, Lasts, AfterDrain, ThePairRule}
use Rattle.pairs.proofs.Passing.{walked, rule_tells, rule_told}

-- the check's shape: a rule or none, the walk's number, a forecast or none
abbrev shape : Bool → ℕ → Bool → Bool → Checked
shape known n forecast passes = pick known (pick (eqb n 0) (pick forecast (answered_check passes) (refused_check 20)) (refused_check n)) (refused_check 19)

record Zero (n : ℕ) (f : Bool) : Type 0 where
  walk : n ≡ 0
  forecast : f ≡ true

zero_shape : (known : Bool) (n : ℕ) (forecast passes : Bool) → (shape known n forecast passes).answer ≡ 0 → Zero n forecast
zero_shape true n forecast passes e = go (eqb n 0) refl forecast e
  where
    go : (t : Bool) → eqb n 0 ≡ t → (f : Bool) → (pick t (pick f (answered_check passes) (refused_check 20)) (refused_check n)).answer ≡ 0 → Zero n f
    go true q true h = record { walk = eqb-true n 0 q; forecast = refl }
    go true q false h = absurd (omega arith)
    go false q f h = absurd (eqb-false n 0 q h)
zero_shape false n forecast passes e = absurd (omega arith)

shape_zero : (known : Bool) (n : ℕ) (forecast passes : Bool) → known ≡ true → n ≡ 0 → forecast ≡ true → shape known n forecast passes ≡ answered_check passes
shape_zero known n forecast passes a b c = rw (a, eq-eqb n 0 b, c)

no_pass_holds : (known : Bool) (n : ℕ) (forecast passes : Bool) → (shape known n forecast passes).answer ≢ 0 → (shape known n forecast passes).passes ≡ false
no_pass_holds true n forecast passes h = go (eqb n 0) forecast h
  where
    go : (t f : Bool) → (pick t (pick f (answered_check passes) (refused_check 20)) (refused_check n)).answer ≢ 0 → (pick t (pick f (answered_check passes) (refused_check 20)) (refused_check n)).passes ≡ false
    go true true g = absurd (g refl)
    go true false g = refl
    go false f g = refl
no_pass_holds false n forecast passes h = refl

narrower : (known : Bool) (n : ℕ) (forecast two one : Bool) → (two ≡ true → one ≡ true) → (shape known n forecast two).passes ≡ true → (shape known n forecast one).passes ≡ true
narrower true n forecast two one f h = go (eqb n 0) forecast h
  where
    go : (t g : Bool) → (pick t (pick g (answered_check two) (refused_check 20)) (refused_check n)).passes ≡ true → (pick t (pick g (answered_check one) (refused_check 20)) (refused_check n)).passes ≡ true
    go true true q = f q
    go true false q = q
    go false g q = q
narrower false n forecast two one f h = h

known : {rule : ℕ} → Rule rule → is_rule rule ≡ true
known old = refl
known new = refl

-- rule two is rule one and what it adds
two_then_one_holds : TwoThenOne check_of
unfolding check_of checked_of passes_of rule_two
two_then_one_holds m k h =
    let met = met_of m (walk_of m k) in
    let f = record_of m k in
    narrower true (walk_of m k).answer (is_a 3 f) (rule_one met (bundle_of f.word) && two_adds met (walk_of m k).keys f.causes) (rule_one met (bundle_of f.word))
    (λ e. (and_parts (rule_one met (bundle_of f.word)) (two_adds met (walk_of m k).keys f.causes) e).0) h

refuses : Refuses check_of
unfolding check_of checked_of
refuses =
    record {
      no_rule = λ m rule k a b. rw (or_from (eqb rule 1) (eqb rule 2) (ne_eqb rule 1 a) (ne_eqb rule 2 b));
      walk_first = λ m rule k r n. rw (known r, ne_eqb (walk_of m k).answer 0 n);
      no_forecast = λ m rule k r z n. rw (known r, eq-eqb (walk_of m k).answer 0 z, ne_eqb (kind_of (record_of m k).word) 3 n);
      answered = λ m rule k r z e. rw (known r, eq-eqb (walk_of m k).answer 0 z, eq-eqb (kind_of (record_of m k).word) 3 e);
      no_pass = λ m rule k h. no_pass_holds (is_rule rule) (walk_of m k).answer (is_a 3 (record_of m k)) (passes_of rule (met_of m (walk_of m k)) (walk_of m k).keys (record_of m k)) h;
    }

zero : (m : State) (rule k : ℕ) → (check_of m rule k).answer ≡ 0 → Zero (walk_of m k).answer (is_a 3 (record_of m k))
unfolding check_of checked_of
zero m rule k e = zero_shape (is_rule rule) (walk_of m k).answer (is_a 3 (record_of m k)) (passes_of rule (met_of m (walk_of m k)) (walk_of m k).keys (record_of m k)) e

by_one_holds : (m : State) (k : ℕ) → (check_of m 1 k).answer ≡ 0 → (check_of m 1 k).passes ≡ rule_one (met_of m (walk_of m k)) (bundle_of (record_of m k).word)
unfolding check_of checked_of passes_of
by_one_holds m k e =
    let z = zero m 1 k e in
    ap (λ (c : Checked). c.passes) (shape_zero true (walk_of m k).answer (is_a 3 (record_of m k)) (rule_one (met_of m (walk_of m k)) (bundle_of (record_of m k).word)) refl z.walk z.forecast)

-- a run, and the machine after further steps: the record of a closed interaction says what was sent
said : (u : Setup) → Legal u → (steps further : List Step) (i : ℕ) → i < (after u steps).made → closed_of (after u (steps ++ further)) i ≡ true
    → (record_of (after u (steps ++ further)) i).word ≡ (sent_as u steps i).word
said u l steps further i h e =
    let m = after u (steps ++ further) in
    let c = reached u l (steps ++ further) in
    let x = unbroken m c.fine in
    let t = there m c i 0 (omega arith) (omega (arith, (closed_of_holds m i e).0.phase)) in
    let p = (view m (number i 0)).store in
    (x.contents_at p (number i 0) t.low (omega (arith, t.made, x.made16))).same_word (has_kept m p (number i 0) t.held) ∙ (told_on u l steps further i h).word

module _ (u : Setup) (l : Legal u) (steps further : List Step) where
  abbrev later : State
  later = after u (steps ++ further)

  grown : (k : ℕ) → k < (after u steps).made → k < later.made
  grown k h = rw (ran_append (fresh_of u) steps further) (omega (arith, (sent_run further (after u steps) (reached u l steps)).grown))

  speaks : (k : ℕ) → k < (after u steps).made → (check_of later 1 k).answer ≡ 0 → Speaks (check_of later 1 k) u steps k
  speaks k h e =
      let z = (zero later 1 k e).walk in
      let a = every_walk u l (steps ++ further) k (grown k h) in
      let closed : (i : ℕ) → SentReach u steps k i → closed_of later i ≡ true = λ i r. a.closed z i (reach_on u l steps further k i h r) in
      let made : (i : ℕ) → SentReach u steps k i → i < (after u steps).made = λ i r. reach_made u l steps k i h (of_sent u l steps k i h r) in
      let once : (i : ℕ) → SentReach u steps k i → times i (keys_of (walk_of later k)) ≡ 1 = λ i r. a.once z i (reach_on u l steps further k i h r) in
      let only : (i : ℕ) → 1 ≤ times i (keys_of (walk_of later k)) → SentReach u steps k i = λ i t. reach_off u l steps further k i h (a.only z i t) in
      let same : (i : ℕ) → SentReach u steps k i → (record_of later i).word ≡ (sent_as u steps i).word = λ i r. said u l steps further i (made i r) (closed i r) in
      let bundle = ap bundle_of (same k SentReach.here) in
      record {
        tells = λ p. rule_tells u steps later k z once only same (bundle_of (record_of later k).word) bundle (sym (by_one_holds later k e) ∙ p);
        told = λ r. by_one_holds later k e ∙ rule_told u steps later k z once only same (bundle_of (record_of later k).word) bundle r;
      }

  -- what was answered is answered
  still : (rule k : ℕ) → Rule rule → (check_of (after u steps) rule k).answer ≡ 0 → (check_of later rule k).answer ≡ 0
  still rule k r e =
      let z = zero (after u steps) rule k e in
      let h = (walked (after u steps) k z.walk).made in
      let closed = (every_walk u l steps k h).closed z.walk in
      let stays : (i : ℕ) → SentReach u steps k i → closed_of later i ≡ true = λ i q. stays_closed_for_ever u l steps further i (closed i q) in
      refuses.answered later rule k r
      ((every_walk u l (steps ++ further) k (grown k h)).answered (λ i q. stays i (reach_off u l steps further k i h q)))
      (ap kind_of (said u l steps further k h (stays k SentReach.here) ∙ sym (rw (append-nil steps) at (said u l steps [] k h (rw (append-nil steps) (closed k SentReach.here))))) ∙ eqb-true (kind_of (record_of (after u steps) k).word) 3 z.forecast)

as_sent_holds : AsSent check_of
as_sent_holds u l steps k e =
    let h = (walked (after u steps) k (zero (after u steps) 1 k e).walk).made in
    rw (append-nil steps) at (speaks u l steps [] k h (rw (append-nil steps) e))

both_ways : (a b : Bool) → (a ≡ true → b ≡ true) → (b ≡ true → a ≡ true) → a ≡ b
both_ways true b f g = sym (f refl)
both_ways false true f g = g refl
both_ways false false f g = refl

by_any : (m : State) (rule k : ℕ) → (check_of m rule k).answer ≡ 0 → (check_of m 1 k).answer ≡ 0
by_any m rule k e = let z = zero m rule k e in refuses.answered m 1 k old z.walk (eqb-true (kind_of (record_of m k).word) 3 z.forecast)

lasts : Lasts check_of
lasts u l steps further rule k r e =
    let h = (walked (after u steps) k (zero (after u steps) rule k e).walk).made in
    let e' = by_any (after u steps) rule k e in
    let now = as_sent_holds u l steps k e' in
    let then = speaks u l steps further k h (still u l steps further 1 k old e') in
    (still u l steps further rule k r e, both_ways (check_of (after u (steps ++ further)) 1 k).passes (check_of (after u steps) 1 k).passes (λ p. now.told (then.tells p)) (λ p. then.told (now.tells p)))

after_drain_holds : AfterDrain check_of
after_drain_holds u l steps up k h forecast rule r =
    let d = the_drain u l steps up in
    let more = steps_of (after u steps) in
    let run = d.run in
    let z : (walk_of (after u (steps ++ more)) k).answer ≡ 0 = subst (λ (m : State). (walk_of m k).answer ≡ 0) run (the_walk u l steps up k h).answered in
    let c : closed_of (after u (steps ++ more)) k ≡ true = subst (λ (m : State). closed_of m k ≡ true) run (d.closes k h) in
    let kind : kind_of (record_of (after u (steps ++ more)) k).word ≡ 3 = ap kind_of (said u l steps more k h c) ∙ forecast in
    subst (λ (m : State). ((check_of m rule k).answer ≡ 0) × Speaks (check_of m 1 k) u steps k) (sym run)
    (refuses.answered (after u (steps ++ more)) rule k r z kind, speaks u l steps more k h (refuses.answered (after u (steps ++ more)) 1 k old z kind))

-- all of it
pub the_pair_rule : ThePairRule
the_pair_rule = record { two_then_one = two_then_one_holds; refuses = refuses; as_sent = as_sent_holds; lasts = lasts; after_drain = after_drain_holds }
