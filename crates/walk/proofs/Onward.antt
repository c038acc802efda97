-- The walk goes on as it is defined, at every depth that suffices: the two ways of a visit, and the loop over the causes, where what
-- is left to visit from here gives what all gives from the start. Assumes nothing.
use Rattle.std.proofs.Common.{ℕ, zero, suc, ◌≡◌, ◌+◌, ◌-◌, ◌*◌, ◌≤◌, ◌<◌, ◌&&◌, Bool, true, false, not, length, get_or, refl, sym, ap, subst, ◌∙◌, arith}
use Rattle.std.proofs.Math.Numerals.{sub-one}
use mathlib.Core.Bool.{true≢false}
use Rattle.reaches.specs.Tally.{Tally}
use Rattle.std.proofs.lemmas.Bool.{and_parts}
use Rattle.protocol.specs.Words.{pick, bit}
use Rattle.std.specs.Prelude.{Result, Ok, Err, []}
use borrow.Author.Tests.{lt-leb}
use Rattle.protocol.specs.Broken.{broken_of}
use Rattle.protocol.specs.Slots.{number, place, no_contents, no_view}
use Rattle.protocol.specs.declared.State.{State}
use Rattle.protocol.specs.declared.refusal.Refusal.{Refusal}
use Rattle.protocol.specs.declared.refusal.Refusal.TheVariants.{OpenInteraction}
use Rattle.protocol.specs.Walk.{Met, added, looked_up, found_of, causes_held, hop_of, each, is_due, to_cause, visit_of, unmet, walked_from, walk_of}
use Rattle.reaches.proofs.Counted.{few, room, tally_added, tally_unmet}
use Rattle.reaches.proofs.Keys.{none_met}
use Rattle.walk.specs.declared.met.Walk.{Walk}
use Rattle.walk.specs.Told.{told_met, told_walk, marked}
use Rattle.walk.specs.Going.{Comes, Kept, Ready}

each_one : (g : ℕ → Met → Met) (s n j : ℕ) (w : Met) → 0 < n → each g s n j w ≡ each g s (n - 1) (j + 1) (pick (bit s j) (g j w) w)
unfolding each
each_one g s zero j w h = let z : ⊥ = omega arith in absurd z
each_one g s (suc n) j w h = rw sub-one

each_none : (g : ℕ → Met → Met) (s n j : ℕ) (w : Met) → n ≤ 0 → each g s n j w ≡ w
unfolding each
each_none g s zero j w h = refl
each_none g s (suc n) j w h = let z : ⊥ = omega arith in absurd z

-- room for one lookup more, and for a key that was not met
pub look_kept : {w : Walk} → Kept w → w.lookups < 255
look_kept h = omega (arith, h.looked, few h.tally)

pub look_ready : {w : Walk} {k : ℕ} → Ready w k → w.lookups < 255
look_ready h = omega (arith, h.looked, few h.tally)

module _ (w looked : Walk) (k : ℕ) (l : told_met looked ≡ looked_up (told_met w)) where
  pub add_room : Ready w k → k < 16 → length looked.keys.items < 16
  add_room h b = omega (arith, ap (λ (x : Met). x.count) l, room h.tally b h.unmet)

  pub kept : (met : Walk) → Ready w k → k < 16 → told_met met ≡ added (told_met looked) k → Kept met
  kept met h b a =
      let e : told_met met ≡ added (looked_up (told_met w)) k = a ∙ ap (λ x. added x k) l in
      record {
        tally = subst Tally (sym e) (tally_added (looked_up (told_met w)) k (record { long = h.tally.long; counted = h.tally.counted }) b h.unmet);
        looked = omega (arith, ap (λ (x : Met). x.lookups) e, ap (λ (x : Met). x.count) e, h.looked);
      }

missed : (b f c : Bool) (x w : Met) → f ≡ false → pick b (pick (f && c) x w) w ≡ w
missed true true c x w e = absurd (true≢false e)
missed true false c x w e = refl
missed false f c x w e = refl

passed : (a b : Bool) (x y : Met) → a && b ≡ false → pick a (pick b x y) y ≡ y
passed true true x y e = absurd (true≢false e)
passed true false x y e = refl
passed false b x y e = refl

module _ (m : State) (k link : ℕ) where
  -- what the loop over the causes comes to at a depth, from w on, of the n causes from j
  abbrev onward : ℕ → ℕ → ℕ → ℕ → Met → Met
  onward depth s n j w = each (to_cause (visit_of depth m) m k link) s n j w

  -- the two ways of a visit
  pub visit_found : (w looked met out : Walk) (r : Result Unit Refusal) → found_of m k link ≡ true → told_met looked ≡ looked_up (told_met w)
      → told_met met ≡ added (told_met looked) k → ((depth : ℕ) → k ≤ depth → Comes r out (onward depth (causes_held m k link) k 0 (told_met met)))
      → (depth : ℕ) → k < depth → Comes r out (visit_of depth m k link (told_met w))
  unfolding visit_of
  visit_found w looked met out r t l a v zero h = let z : ⊥ = omega arith in absurd z
  visit_found w looked met out r t l a v (suc depth) h =
      let e : told_met met ≡ added (looked_up (told_met w)) k = a ∙ ap (λ x. added x k) l in
      simp t (subst (λ x. Comes r out (onward depth (causes_held m k link) k 0 x)) e (v depth (omega arith)))

  pub visit_missing : (w : Met) → found_of m k link ≡ false → (depth : ℕ) → k < depth → (visit_of depth m k link w).fine ≡ false
  unfolding visit_of
  visit_missing w t zero h = let z : ⊥ = omega arith in absurd z
  visit_missing w t (suc depth) h = simp t refl

  -- with something missing, nothing more is looked up
  each_missing : (depth s n j : ℕ) (w : Met) → w.fine ≡ false → onward depth s n j w ≡ w
  unfolding each
  each_missing depth s zero j w e = refl
  each_missing depth s (suc n) j w e =
      rw (missed (bit s j) w.fine (not (get_or w.met j false)) (visit_of depth m j (hop_of m k link j) (looked_up w)) w e) (each_missing depth s n (j + 1) w e)

-- the causes of a sender record, by its place
pub held : (m : State) (k link : ℕ) → (get_or m.contents ((link - 1) * 32 + k * 2) no_contents).causes ≡ causes_held m k link
held m k link =
    let at : (link - 1) * 32 + k * 2 ≡ place (link - 1) (number k 0) = omega arith in
    ap (λ i. (get_or m.contents i no_contents).causes) at

-- the loop has come to j: what is left gives what all gives
pub record Onward (m : State) (k link : ℕ) (start walk : Walk) (j : ℕ) : Type 0 where
  pub kept : Kept walk
  pub same : (depth : ℕ) → k ≤ depth → onward m k link depth (causes_held m k link) (k - j) j (told_met walk) ≡ onward m k link depth (causes_held m k link) k 0 (told_met start)

module _ {m : State} {k link : ℕ} {start walk : Walk} {j : ℕ} (h : Onward m k link start walk j) (b : j < k) where
  -- one turn of the definition
  turn : (depth : ℕ) → k ≤ depth → (w : Met) → pick (bit (causes_held m k link) j) (to_cause (visit_of depth m) m k link j (told_met walk)) (told_met walk) ≡ w
      → onward m k link depth (causes_held m k link) (k - (j + 1)) (j + 1) w ≡ onward m k link depth (causes_held m k link) k 0 (told_met start)
  turn depth d w q =
      let n : k - (j + 1) ≡ k - j - 1 = omega arith in
      let one = each_one (to_cause (visit_of depth m) m k link) (causes_held m k link) (k - j) j (told_met walk) (omega arith) in
      rw (n, sym q) (sym one ∙ h.same depth d)

  pub not_due : bit (causes_held m k link) j && is_due (told_met walk) j ≡ false → Onward m k link start walk (j + 1)
  not_due e = record { kept = h.kept; same = λ depth d. turn depth d _ (passed (bit (causes_held m k link) j) (is_due (told_met walk) j) _ _ e) }

  module _ (looked : Walk) (hopped : ℕ) (e : bit (causes_held m k link) j && is_due (told_met walk) j ≡ true)
      (l : told_met looked ≡ looked_up (told_met walk)) (o : hopped ≡ hop_of m k link j) where
    due : (depth : ℕ) → pick (bit (causes_held m k link) j) (to_cause (visit_of depth m) m k link j (told_met walk)) (told_met walk) ≡ visit_of depth m j hopped (told_met looked)
    due depth = rw ((and_parts (bit (causes_held m k link) j) (is_due (told_met walk) j) e).0, (and_parts (bit (causes_held m k link) j) (is_due (told_met walk) j) e).1, o, l) refl

    pub visited : (next : Walk) → Kept next → ((depth : ℕ) → j < depth → told_met next ≡ visit_of depth m j hopped (told_met looked)) → Onward m k link start next (j + 1)
    visited next t v = record { kept = t; same = λ depth d. turn depth d (told_met next) (due depth ∙ sym (v depth (omega arith))) }

    pub missing : ((depth : ℕ) → j < depth → (visit_of depth m j hopped (told_met looked)).fine ≡ false) → (depth : ℕ) → k ≤ depth
        → (onward m k link depth (causes_held m k link) k 0 (told_met start)).fine ≡ false
    missing v depth d =
        let f = v depth (omega arith) in
        let last = visit_of depth m j hopped (told_met looked) in
        ap (λ (w : Met). w.fine) (sym (turn depth d last (due depth)) ∙ each_missing m k link depth (causes_held m k link) (k - (j + 1)) (j + 1) last f) ∙ f

pub ended : {m : State} {k link : ℕ} {start walk : Walk} {j : ℕ} → Onward m k link start walk j → k ≤ j → (depth : ℕ) → k ≤ depth
    → told_met walk ≡ onward m k link depth (causes_held m k link) k 0 (told_met start)
ended {m} {k} {link} {start} {walk} {j} h b depth d =
    sym (each_none (to_cause (visit_of depth m) m k link) (causes_held m k link) (k - j) j (told_met walk) (omega arith)) ∙ h.same depth d

-- nothing is met at first
pub at_first : (w : Walk) → w.keys.items ≡ [] → w.lookups ≡ 0 → told_met w ≡ unmet
unfolding marked
at_first w e l = rw (e, l) refl

pub first_ready : (w : Walk) (k : ℕ) → w.keys.items ≡ [] → w.lookups ≡ 0 → Ready w k
first_ready w k e l =
    let none = at_first w e l in
    record {
      tally = subst Tally (sym none) tally_unmet;
      looked = rw (e, l) refl;
      unmet = ap (λ (x : Met). get_or x.met k false) none ∙ none_met k;
    }

-- an unbroken machine has sixteen interactions at most, so depth 16 suffices
module _ (m : State) (k : ℕ) (whole : broken_of m ≡ false) (made : k < m.made) (low : k < 16) (first w : Walk) (none : told_met first ≡ unmet) where
  walked : (r : Result Unit Refusal) → ((depth : ℕ) → k < depth → Comes r w (visit_of depth m k ((get_or m.views (k * 2) no_view).store + 1) (told_met first))) → Comes r w (walked_from m k)
  unfolding walked_from
  walked r v =
      let at : k * 2 ≡ number k 0 = omega arith in
      subst (λ i. Comes r w (visit_of 16 m k ((get_or m.views i no_view).store + 1) unmet)) at (subst (λ x. Comes r w (visit_of 16 m k ((get_or m.views (k * 2) no_view).store + 1) x)) none (v 16 low))

  pub walk_ok : ((depth : ℕ) → k < depth → told_met w ≡ visit_of depth m k ((get_or m.views (k * 2) no_view).store + 1) (told_met first)) → told_walk (Ok w) ≡ walk_of m k
  unfolding walk_of
  walk_ok v = simp (whole, lt-leb m.made k made, sym (walked (Ok tt) v)) refl

  pub walk_err : (r : Refusal)
      → ((depth : ℕ) → k < depth → (r ≡ OpenInteraction) × ((visit_of depth m k ((get_or m.views (k * 2) no_view).store + 1) (told_met first)).fine ≡ false)) → told_walk (Err r) ≡ walk_of m k
  unfolding walk_of
  walk_err r v = let e = walked (Err r) v in rw e.0 (simp (whole, lt-leb m.made k made, e.1) refl)
