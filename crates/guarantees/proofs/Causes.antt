-- The causes of a record: its job received each before it sent, and from the pre-check on the cause link is the store of that
-- receipt, which is settled. Kept by every rule. Assumes nothing.
use mathlib.Core.Path.{◌≡◌, refl, sym, ap, ◌∙◌, subst}
use mathlib.Core.Logic.{◌≢◌}
use mathlib.Core.Bool.{Bool, true, false}
use mathlib.Core.List.{List, [], ◌∷◌, ◌++◌}
use Prim.Native.Nat.{ℕ, zero, suc, ◌+◌, ◌≤◌, ◌<◌}
use native.Mathlib.Omega.{arith}
use native.Mathlib.Decide.{ℕ_discrete}
use borrow.Author.Tests.{eq-eqb, eqb-true}
use lib.Dec.{eqb}
use lib.ListN.{length, get_or, take}
use Rattle.std.proofs.Common.{rules}
use Rattle.protocol.specs.Words.{bit, one, times}
use Rattle.protocol.specs.Slots.{number, queue, standing, view, home}
use Rattle.unbroken.specs.Unbroken.{Unbroken}
use Rattle.protocol.specs.declared.State.{State}
use Rattle.protocol.specs.declared.View.{View}
use Rattle.protocol.specs.declared.Queue.{Queue}
use Rattle.protocol.specs.Rule.{head}
use Rattle.protocol.specs.PreCheck.{checked_link}
use Rattle.protocol.specs.declared.Step.{Step}
use Rattle.unbroken.proofs.Laws.Every.{table_at}
use Rattle.unbroken.proofs.Laws.Room.{actors8, sender_made_holds}
use Rattle.guarantees.proofs.Turns.{Turn, stays, received, checked, sends, timed, acked, settled}

-- y stands in a list; x stands before y
pub data In (y : ℕ) : List ℕ → Type 0 where
  first : {l : List ℕ} → In y (y ∷ l)
  later : {z : ℕ} {l : List ℕ} → In y l → In y (z ∷ l)

pub data Ahead (x y : ℕ) : List ℕ → Type 0 where
  here : {l : List ℕ} → In y l → Ahead x y (x ∷ l)
  there : {z : ℕ} {l : List ℕ} → Ahead x y l → Ahead x y (z ∷ l)

in_longer : (y z : ℕ) (l : List ℕ) → In y l → In y (l ++ (z ∷ []))
in_longer y z [] x' = elim x' [ ]
in_longer y z (x ∷ l) first = first
in_longer y z (x ∷ l) (later i) = later (in_longer y z l i)

pub ahead_longer : (x y z : ℕ) (l : List ℕ) → Ahead x y l → Ahead x y (l ++ (z ∷ []))
ahead_longer x y z [] x'' = elim x'' [ ]
ahead_longer x y z (w ∷ l) (here i) = here (in_longer y z l i)
ahead_longer x y z (w ∷ l) (there i) = there (ahead_longer x y z l i)

in_last : (z : ℕ) (l : List ℕ) → In z (l ++ (z ∷ []))
in_last z [] = first
in_last z (x ∷ l) = later (in_last z l)

-- whoever stands in a queue stands ahead of who joins it
pub ahead_last : (x z : ℕ) (l : List ℕ) → In x l → Ahead x z (l ++ (z ∷ []))
ahead_last x z [] x'' = elim x'' [ ]
ahead_last x z (w ∷ l) first = here (in_last z l)
ahead_last x z (w ∷ l) (later i) = there (ahead_last x z l i)

pub ahead_shorter : (x y z : ℕ) (l : List ℕ) → x ≢ z → Ahead x y (z ∷ l) → Ahead x y l
ahead_shorter x y z l n (here i) = absurd (n refl)
ahead_shorter x y z l n (there i) = i

-- how often it stands there
in_times : (y : ℕ) (l : List ℕ) → In y l → 1 ≤ times y l
unfolding times
in_times y [] x' = elim x' [ ]
in_times y (z ∷ l) first = rw (eq-eqb y y refl) (omega arith)
in_times y (z ∷ l) (later i) = let h = in_times y l i in omega arith

pub times_in_holds : (y : ℕ) (l : List ℕ) → 1 ≤ times y l → In y l
unfolding times
times_in_holds y [] h = absurd (let z : ⊥ = omega arith in z)
times_in_holds y (z ∷ l) h = go (eqb z y) refl (λ g. times_in_holds y l g)
  where
    go : (b : Bool) → eqb z y ≡ b → (1 ≤ times y l → In y l) → In y (z ∷ l)
    go true e f = subst (λ (x : ℕ). In y (x ∷ l)) (sym (eqb-true z y e)) first
    go false e f = later (f (let g : 1 ≤ one false + times y l = rw e at h in omega arith))

ahead_in : (x y : ℕ) (l : List ℕ) → Ahead x y l → In y l
ahead_in x y [] x'' = elim x'' [ ]
ahead_in x y (z ∷ l) (here i) = later i
ahead_in x y (z ∷ l) (there i) = later (ahead_in x y l i)

-- nobody else stands ahead of a head that stands once
pub head_first : (x y : ℕ) (l : List ℕ) → x ≢ y → times y (y ∷ l) ≡ 1 → Ahead x y (y ∷ l) → ⊥
unfolding times
head_first x y l n e (here i) = n refl
head_first x y l n e (there i) = omega (arith, in_times y l (ahead_in x y l i), rw (eq-eqb y y refl) at e)

-- a cause j of an effect: `x` is the number of its receipt, `y` that of the effect, `line` their actor's queue
pub record Cause (home : ℕ) (line : List ℕ) (x y j : ℕ) (effect receipt : View) : Type 0 where
  pub actor : receipt.actor ≡ effect.actor
  pub made : 1 ≤ receipt.phase
  -- until the pre-check the link is home, and the receipt is settled or ahead in the queue
  pub early : effect.phase ≡ 1 → receipt.phase ≢ 5 → Ahead x y line
  pub fresh : effect.phase ≡ 1 → get_or effect.links j 0 ≡ home
  -- from then on the receipt is settled, and the link is its store
  pub late : 2 ≤ effect.phase → receipt.phase ≡ 5
  pub right : 2 ≤ effect.phase → get_or effect.links j 0 ≡ receipt.store

-- what a turn leaves alone
module _ {m : State} {s : Step} {v : ℕ} where
  pub turn_actor : {w : View} → Turn m s v w → w.actor ≡ (view m v).actor
  turn_actor e = search rules

  pub turn_causes : {w : View} → Turn m s v w → 1 ≤ (view m v).phase → w.causes ≡ (view m v).causes
  turn_causes e f = search rules

  pub turn_word : {w : View} → Turn m s v w → 1 ≤ (view m v).phase → w.word ≡ (view m v).word
  turn_word e f = search rules

  pub turn_links : {w : View} → Turn m s v w → 2 ≤ (view m v).phase → w.links ≡ (view m v).links
  turn_links e f = search rules

  pub turn_made : {w : View} → Turn m s v w → 1 ≤ (view m v).phase → 1 ≤ w.phase
  turn_made e f = search rules

  -- a settled view stays as it is
  pub turn_settled : {w : View} → Turn m s v w → (view m v).phase ≡ 5 → w ≡ view m v
  turn_settled e f = search rules

-- a queue that has somebody begins with its head
stands_head : (l : List ℕ) (n : ℕ) → 0 < n → 0 < length l → (t : List ℕ) × (take n l ≡ get_or l 0 0 ∷ t)
stands_head [] n h g = absurd (let z : ⊥ = omega arith in z)
stands_head (x ∷ xs) zero h g = absurd (let z : ⊥ = omega arith in z)
stands_head (x ∷ xs) (suc n) h g = (take n xs, refl)

none_stands : (q : Queue) (v : ℕ) → q.len ≡ 0 → times v (standing q) ≡ 1 → ⊥
unfolding times
none_stands q v e h = let z : ◌≡◌ {A = ℕ} 0 1 = sym (ap (λ (n : ℕ). times v (take n q.views)) e) ∙ h in omega arith

module _ (m : State) (u : Unbroken m) (s : Step) (j k : ℕ) (hj : j < 16) (hk : k < m.made) where
  abbrev x : ℕ
  x = number j 1

  abbrev y : ℕ
  y = number k 0

  differ : number j 1 ≢ number k 0
  differ e = let z : ⊥ = omega arith in z

  abbrev Of : View → View → List ℕ → Type 0
  Of effect receipt line = Cause (home m (view m (number k 0)).actor) line (number j 1) (number k 0) j effect receipt

  -- the pre-check finds every receipt settled
  all_settled : Of (view m (number k 0)) (view m (number j 1)) (standing (queue m (view m (number k 0)).actor)) → (view m (number k 0)).phase ≡ 1 → number k 0 ≡ head m (view m (number k 0)).actor → (view m (number j 1)).phase ≡ 5
  all_settled c h e = go (ℕ_discrete (view m (number j 1)).phase 5)
    where
      hy : number k 0 < 32
      hy = omega (arith, u.made16)

      once : times (number k 0) (standing (queue m (view m (number k 0)).actor)) ≡ 1
      once = u.queued_once (number k 0) hy (omega arith) (omega arith)

      a8 : (view m (number k 0)).actor < 8
      a8 = omega (arith, actors8 m u, (u.view_at (number k 0) hy).actor_in (omega arith))

      some : Dec ((queue m (view m (number k 0)).actor).len ≡ 0) → 0 < (queue m (view m (number k 0)).actor).len
      some (yes d) = absurd (none_stands (queue m (view m (number k 0)).actor) (number k 0) d once)
      some (no d) = omega arith

      front : (t : List ℕ) × (standing (queue m (view m (number k 0)).actor) ≡ number k 0 ∷ t)
      front =
          let f = stands_head (queue m (view m (number k 0)).actor).views (queue m (view m (number k 0)).actor).len (some (ℕ_discrete (queue m (view m (number k 0)).actor).len 0)) (omega (arith, (u.queue_at (view m (number k 0)).actor a8).long)) in
          (f.0, f.1 ∙ ap (λ (z : ℕ). z ∷ f.0) (sym e))

      go : Dec ((view m (number j 1)).phase ≡ 5) → (view m (number j 1)).phase ≡ 5
      go (yes d) = d
      go (no n) = absurd (head_first (number j 1) (number k 0) front.0 differ (rw front.1 at once) (rw front.1 at (c.early h n)))

  -- the effect is past its pre-check: its links and the receipt stay
  onward : (effect receipt : View) (line : List ℕ) → Turn m s (number j 1) receipt → effect.actor ≡ (view m (number k 0)).actor → effect.links ≡ (view m (number k 0)).links
      → 2 ≤ (view m (number k 0)).phase → 2 ≤ effect.phase → Of (view m (number k 0)) (view m (number j 1)) (standing (queue m (view m (number k 0)).actor)) → Of effect receipt line
  onward effect receipt line t a l h g c =
      let e = turn_settled t (c.late h) in
      record {
        actor = turn_actor t ∙ c.actor ∙ sym a;
        made = turn_made t c.made;
        early = λ f n. absurd (let z : ⊥ = omega arith in z);
        fresh = λ f. absurd (let z : ⊥ = omega arith in z);
        late = λ f. ap (λ (w : View). w.phase) e ∙ c.late h;
        right = λ f. ap (λ (x : List ℕ). get_or x j 0) l ∙ c.right h ∙ sym (ap (λ (w : View). w.store) e);
      }

  -- what the pre-check makes of the link
  checks : Of (view m (number k 0)) (view m (number j 1)) (standing (queue m (view m (number k 0)).actor)) → (view m (number k 0)).phase ≡ 1 → bit (view m (number k 0)).causes j ≡ true
      → (1 ≤ (view m (number j 1)).phase → (view m (number j 1)).changed ≡ false → (view m (number j 1)).store ≡ home m (view m (number j 1)).actor)
      → checked_link m (view m (number k 0)) j ≡ (view m (number j 1)).store
  checks c h b f = go (view m (number j 1)).changed refl
    where
      go : (z : Bool) → (view m (number j 1)).changed ≡ z → checked_link m (view m (number k 0)) j ≡ (view m (number j 1)).store
      go true e = rw (b, e)
      go false e = rw (b, e) (c.fresh h ∙ sym (f c.made e ∙ ap (home m) c.actor))

  pub keep : {effect receipt : View} {line : List ℕ} → Turn m s (number k 0) effect → Turn m s (number j 1) receipt → bit (view m (number k 0)).causes j ≡ true
      → (1 ≤ (view m (number j 1)).phase → (view m (number j 1)).changed ≡ false → (view m (number j 1)).store ≡ home m (view m (number j 1)).actor)
      → (Ahead (number j 1) (number k 0) (standing (queue m (view m (number k 0)).actor)) → receipt.phase ≢ 5 → Ahead (number j 1) (number k 0) line)
      → Of (view m (number k 0)) (view m (number j 1)) (standing (queue m (view m (number k 0)).actor))
      → Of effect receipt line
  keep {effect} {receipt} {line} stays t b f g c =
      record {
        actor = turn_actor t ∙ c.actor;
        made = turn_made t c.made;
        early = λ h n. g (c.early h (λ d. n (ap (λ (w : View). w.phase) (turn_settled t d) ∙ d))) n;
        fresh = c.fresh;
        late = λ h. ap (λ (w : View). w.phase) (turn_settled t (c.late h)) ∙ c.late h;
        right = λ h. c.right h ∙ sym (ap (λ (w : View). w.store) (turn_settled t (c.late h)));
      }
  keep (received i e h) t b f g c = absurd (omega (arith, sender_made_holds m u k hk))
  keep (checked h e) t b f g c =
      let d = all_settled c h e in
      let w = turn_settled t d in
      record {
        actor = turn_actor t ∙ c.actor;
        made = turn_made t c.made;
        early = λ i n. absurd (let z : ⊥ = omega arith in z);
        fresh = λ i. absurd (let z : ⊥ = omega arith in z);
        late = λ i. ap (λ (v : View). v.phase) w ∙ d;
        right = λ i. table_at (checked_link m (view m (number k 0))) 16 0 j hj ∙ checks c h b f ∙ sym (ap (λ (v : View). v.store) w);
      }
  keep {receipt = r} {line = l} (sends h) t b f g c = onward _ r l t refl refl (omega arith) (omega arith) c
  keep {receipt = r} {line = l} (timed p h) t b f g c = onward _ r l t refl refl (omega arith) (omega arith) c
  keep {receipt = r} {line = l} (acked p i q e d h o) t b f g c = onward _ r l t refl refl (omega arith) (omega arith) c
  keep {receipt = r} {line = l} (settled h e) t b f g c = onward _ r l t refl refl (omega arith) (omega arith) c
