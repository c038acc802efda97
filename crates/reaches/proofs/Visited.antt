-- A visit that stays fine meets its key, all it newly meets is reached, and the causes of what it newly meets are met.
-- The records' causes are those that the stores hold, because the machine is not broken. By induction on the depth; assumes nothing.
use Prim.Native.Nat.{ℕ, zero, suc, ◌+◌, ◌-◌, ◌/◌, ◌≤◌, ◌<◌}
use mathlib.Core.Path.{◌≡◌, refl, sym, subst}
use mathlib.Core.Logic.{◌⊎◌, inl, inr, ⊎_elim}
use mathlib.Core.Bool.{Bool, true, false, not, ◌&&◌, false≢true}
use native.Mathlib.Omega.{arith}
use native.Mathlib.Decide.{dec_lt}
use lib.Dec.{eqb}
use lib.ListN.{get_or}
use borrow.Author.Tests.{not-true}
use Rattle.std.proofs.lemmas.Bool.{and_parts}
use Rattle.std.proofs.Common.{rules}
use Rattle.protocol.specs.Words.{pick, bit}
use Rattle.protocol.specs.Slots.{number, view, is_lasting}
use Rattle.protocol.specs.Closed.{closed_of}
use Rattle.unbroken.specs.Unbroken.{Unbroken}
use Rattle.protocol.specs.declared.State.{State}
use Rattle.unbroken.proofs.Laws.Has.{has_kept}
use Rattle.protocol.specs.Walk.{Met, added, spoiled, looked_up, found_of, causes_held, hop_of, each, is_due, to_cause, visit_of}
use Rattle.reaches.proofs.Behind.{lasting_slot}
use Rattle.reaches.specs.Reaches.{Cause, Reach, here, by}
use Rattle.reaches.proofs.Keys.{IsMet, Sound, Added, adds}

-- from w to w': nothing is lost, what is new is in Q, and, where all is fine, the causes of what is new are met
pub record After (m : State) (Q : ℕ → Type 0) (w w' : Met) : Type 0 where
  pub sound : Sound w'
  pub kept : w'.fine ≡ true → w.fine ≡ true
  pub grows : (i : ℕ) → IsMet w i → IsMet w' i
  pub from : (i : ℕ) → IsMet w' i → IsMet w i ⊎ Q i
  pub causes : w'.fine ≡ true → (i : ℕ) → IsMet w' i → IsMet w i ⊎ ((c : ℕ) → Cause m i c → IsMet w' c)

module _ {m : State} {Q : ℕ → Type 0} where
  after_none : {w : Met} → Sound w → After m Q w w
  after_none s = record { sound = s; kept = λ f. f; grows = λ i h. h; from = λ i h. inl h; causes = λ f i h. inl h }

  after_both : {a b d : Met} → After m Q a b → After m Q b d → After m Q a d
  after_both e f = search rules

  after_wider : {R : ℕ → Type 0} {w w' : Met} → ((i : ℕ) → R i → Q i) → After m R w w' → After m Q w w'
  after_wider g p = record { sound = p.sound; kept = p.kept; grows = p.grows; from = λ i h. ⊎_elim (λ n. inl n) (λ n. inr (g i n)) (p.from i h); causes = p.causes }

by_pick : (P : Met → Type 0) (b : Bool) {x y : Met} → (b ≡ true → P x) → (b ≡ false → P y) → P (pick b x y)
by_pick P true p q = p refl
by_pick P false p q = q refl

pub record Visited (m : State) (k : ℕ) (w w' : Met) : Type 0 where
  pub after : After m (Reach m k) w w'
  pub this : w'.fine ≡ true → IsMet w' k

-- a lookup meets nothing
looked : {w : Met} → Sound w → Sound (looked_up w)
looked s = record { tally = record { long = s.tally.long; counted = s.tally.counted }; long = s.long; listed = s.listed }

looking : {m : State} {k : ℕ} {w w' : Met} → Visited m k (looked_up w) w' → Visited m k w w'
looking v = record {
  after = record { sound = v.after.sound; kept = v.after.kept; grows = v.after.grows; from = v.after.from; causes = v.after.causes };
  this = v.this;
}

adds_looked : (k : ℕ) (w : Met) → Sound w → k < 16 → get_or w.met k false ≡ false → Added k w (added (looked_up w) k)
adds_looked k w s d e =
    let a : Added k (looked_up w) (added (looked_up w) k) = adds k (looked_up w) (looked s) d e in
    record { sound = a.sound; grows = a.grows; this = a.this; from = a.from }

not_due : (a b : Bool) → a ≡ true → a && not b ≡ false → b ≡ true
not_due true true f e = refl
not_due true false f e = absurd (false≢true (sym e))
not_due false b f e = absurd (false≢true f)

record Swept (m : State) (Q : ℕ → Type 0) (s j n : ℕ) (w w' : Met) : Type 0 where
  after : After m Q w w'
  all : w'.fine ≡ true → (c : ℕ) → j ≤ c → c < j + n → bit s c ≡ true → IsMet w' c

-- the loop over the causes, where each visit does as it should
module _ (m : State) (top : ℕ) (g : ℕ → Met → Met) (visits : (j : ℕ) (w : Met) → j < top → Sound w → Visited m j w (g j w)) (s : ℕ) (Q : ℕ → Type 0) where
  swept : (n j : ℕ) (w : Met) → Sound w → j + n ≤ top → ((c : ℕ) → c < j + n → bit s c ≡ true → (i : ℕ) → Reach m c i → Q i) → Swept m Q s j n w (each g s n j w)
  unfolding each
  swept zero j w h b q = record { after = after_none h; all = λ f c l o e. let z : ⊥ = omega arith in absurd z }
  swept (suc n) j w h b q =
      let turn : Met = pick (bit s j) (g j w) w in
      let one : After m Q w turn = by_pick (After m Q w) (bit s j) (λ e. after_wider (λ i r. q j (omega arith) e i r) (visits j w (omega arith) h).after) (λ e. after_none h) in
      let this : bit s j ≡ true → turn.fine ≡ true → IsMet turn j = λ e. rw e (visits j w (omega arith) h).this in
      let rest : Swept m Q s (j + 1) n turn (each g s n (j + 1) turn) = swept n (j + 1) turn one.sound (omega arith) (λ c l. q c (omega arith)) in
      record {
        after = after_both one rest.after;
        all = λ f c l o e. elim (dec_lt j c) [
          | yes x ↦ rest.all f c (omega arith) (omega arith) e
          | no x ↦ (let y : j ≡ c = omega arith in subst (λ (z : ℕ). IsMet (each g s n (j + 1) turn) z) y (rest.after.grows j (this (rw y e) (rest.after.kept f))))
        ];
      }

module _ (m : State) (u : Unbroken m) where
  -- what is found lasts, so its causes are the record's
  found_causes : (k link : ℕ) → k < 16 → found_of m k link ≡ true → causes_held m k link ≡ (view m (number k 0)).causes
  unfolding found_of
  found_causes k link b e =
      let lasts : is_lasting m (link - 1) (number k 0) ≡ true = (and_parts (not (eqb link 0)) (is_lasting m (link - 1) (number k 0)) (and_parts _ (closed_of m k) e).0).1 in
      (lasting_slot m u (link - 1) (number k 0) (omega arith) lasts).same_causes (has_kept m (link - 1) (number k 0) lasts)

  below : (k c : ℕ) → k < 16 → Cause m k c → c < k
  below k c b h = let l : c < number k 0 / 2 = (u.view_at (number k 0) (omega arith)).causes.below c h.low h.set in omega arith

  -- what the loop does with a cause: it is visited where it is due; else it is met, or something was missing before
  module _ (top : ℕ) (g : ℕ → ℕ → Met → Met) (visits : (j link : ℕ) (w : Met) → j < top → Sound w → get_or w.met j false ≡ false → Visited m j w (g j link w)) where
    to_cause_holds : (k link j : ℕ) (w : Met) → j < top → Sound w → Visited m j w (to_cause g m k link j w)
    to_cause_holds k link j w b s =
        by_pick (Visited m j w) (is_due w j)
        (λ t. looking (visits j (hop_of m k link j) (looked_up w) b (looked s) (not-true _ (and_parts w.fine (not (get_or w.met j false)) t).1)))
        (λ t. record { after = after_none s; this = λ f. not_due w.fine (get_or w.met j false) f t })

  -- a visit of a key that isn't met
  pub visited : (depth k link : ℕ) (w : Met) → k < depth → k < 16 → Sound w → get_or w.met k false ≡ false → Visited m k w (visit_of depth m k link w)
  unfolding visit_of
  visited zero k link w b d s e = let z : ⊥ = omega arith in absurd z
  visited (suc depth) k link w b d s e =
      let missing : Visited m k w (spoiled w) = record {
        after = record {
          sound = record { tally = record { long = s.tally.long; counted = s.tally.counted }; long = s.long; listed = s.listed };
          kept = λ f. absurd (false≢true f);
          grows = λ i h. h;
          from = λ i h. inl h;
          causes = λ f. absurd (false≢true f);
        };
        this = λ f. absurd (false≢true f);
      } in
      let set : ℕ = causes_held m k link in
      let cause : ℕ → Met → Met = to_cause (visit_of depth m) m k link in
      let onward : Met = each cause set k 0 (added (looked_up w) k) in
      let new : set ≡ (view m (number k 0)).causes → Visited m k w onward = λ q.
      let a : Added k w (added (looked_up w) k) = adds_looked k w s d e in
      let r : Swept m (Reach m k) set 0 k (added (looked_up w) k) onward =
      swept m k cause (to_cause_holds k (visit_of depth m) (λ j hop v l t n. visited depth j hop v (omega arith) (omega arith) t n) k link) set (Reach m k) k 0 (added (looked_up w) k) a.sound (omega arith)
      (λ c l h i t. by (record { low = omega arith; set = rw q at h }) t) in
      record {
        after = record {
          sound = r.after.sound;
          kept = r.after.kept;
          grows = λ i h. r.after.grows i (a.grows i h);
          from = λ i h. ⊎_elim (λ n. ⊎_elim (λ o. inl o) (λ o. inr (subst (λ (x : ℕ). Reach m k x) o here)) (a.from i n)) (λ n. inr n) (r.after.from i h);
          causes = λ f i h. ⊎_elim
              (λ n. ⊎_elim (λ o. inl o) (λ o. inr (λ c t. let t' : Cause m k c = subst (λ (x : ℕ). Cause m x c) (sym o) t in r.all f c (omega arith) (omega (arith, below k c d t')) (rw q t'.set))) (a.from i n))
              (λ n. inr n)
              (r.after.causes f i h);
        };
        this = λ f. r.after.grows k a.this;
      } in
      by_pick (Visited m k w) (found_of m k link) (λ t. new (found_causes k link d t)) (λ t. missing)
