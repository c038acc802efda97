-- The chain of a walk: its keys are distinct and below sixteen, its senders are actors of the machine, its causes are below
-- their effects, and in whatever store the walk finds a record, the record is the view's own. A walk is answered only on a
-- machine that is not broken. Assumes nothing.
use Prim.Native.Nat.{ℕ, ◌-◌, ◌≤◌, ◌<◌}
use mathlib.Core.Path.{◌≡◌, refl}
use mathlib.Core.Bool.{◌&&◌, not}
use mathlib.Core.List.{List, [], ◌∷◌, map}
use native.Mathlib.Omega.{arith}
use native.Mathlib.Decide.{dec_lt}
use lib.Dec.{leb, eqb}
use borrow.Author.Tests.{leb-false, eq-eqb}
use Rattle.std.proofs.lemmas.Bool.{and_parts}
use Rattle.protocol.specs.Words.{times}
use Rattle.protocol.specs.Slots.{number, is_lasting}
use Rattle.protocol.specs.Broken.{broken_of}
use Rattle.protocol.specs.Closed.{closed_of}
use Rattle.protocol.specs.Walk.{found_of, walk_of}
use Rattle.protocol.specs.Chain.{stated, keys_of, chain_of}
use Rattle.protocol.specs.declared.State.{State}
use Rattle.unbroken.specs.Unbroken.{Unbroken}
use Rattle.unbroken.proofs.Laws.{unbroken}
use Rattle.unbroken.proofs.Laws.Room.{actors8}
use Rattle.unbroken.proofs.Laws.Tests.{by_test}
use Rattle.unbroken.proofs.Laws.Has.{has_kept}
use Rattle.reaches.specs.Reaches.{Reach, here, by}
use Rattle.reaches.proofs.Behind.{lasting_slot}
use Rattle.reaches.proofs.Laws.{answered_reaches, refused_empty}
use Rattle.chains.specs.Chains.{Each, none, more, Lawful, LookedUp}

-- an answered walk is one on a machine that is not broken, of a key in it
pub record Answered (m : State) (k : ℕ) : Type 0 where
  pub whole : Unbroken m
  pub low : k < m.made

pub answered : (m : State) (k : ℕ) → (walk_of m k).answer ≡ 0 → Answered m k
unfolding walk_of
answered m k e =
    by_test (broken_of m)
    (λ b. let z : 1 ≡ 0 = simp b at e in absurd (omega arith))
    (λ b. by_test (leb m.made k)
    (λ o. let z : 2 ≡ 0 = simp (b, o) at e in absurd (omega arith))
    (λ o. record { whole = unbroken m b; low = leb-false m.made k o }))

each_of_holds : {P : ℕ → Type 0} (l : List ℕ) → ((i : ℕ) → 1 ≤ times i l → P i) → Each P l
unfolding times
each_of_holds [] f = none
each_of_holds (x ∷ l) f =
    more (f x (rw (eq-eqb x x refl) (omega arith))) (each_of_holds l (λ i h. f i (omega (arith, h))))

each_map : {A B : Type 0} {P : A → Type 0} {Q : B → Type 0} (f : A → B) → ((x : A) → P x → Q (f x)) → {l : List A} → Each P l → Each Q (map f l)
each_map f g none = none
each_map f g (more p ps) = more (g _ p) (each_map f g ps)

module _ {m : State} (u : Unbroken m) where
  -- what is reached is made
  reach_made : {k i : ℕ} → Reach m k i → k < m.made → i < m.made
  reach_made here h = h
  reach_made {k} (by {j = j} c r) h =
      reach_made r (omega (arith, (u.view_at (number k 0) (omega (arith, u.made16))).causes.below j c.low c.set))

  stated_lawful : (i : ℕ) → i < m.made → Lawful (stated m i)
  stated_lawful i h =
      record {
        key16 = omega (arith, u.made16);
        sender8 = omega (arith, (u.view_at (number i 0) (omega (arith, u.made16))).actor_in (omega arith), actors8 m u);
        below = λ j b t. omega (arith, (u.view_at (number i 0) (omega (arith, u.made16))).causes.below j b t);
      }

module _ (m : State) (k : ℕ) (e : (walk_of m k).answer ≡ 0) where
  keys_made : Each (λ i. i < m.made) (keys_of (walk_of m k))
  keys_made =
      let a = answered m k e in
      each_of_holds _ (λ i h. reach_made a.whole ((answered_reaches m k (walk_of m k) refl e).only i h) a.low)

  pub chain_lawful : Each Lawful (chain_of m k)
  unfolding chain_of
  chain_lawful = each_map (stated m) (stated_lawful (answered m k e).whole) keys_made

  pub keys_once : (i : ℕ) → times i (keys_of (walk_of m k)) ≤ 1
  keys_once i =
      let x = answered_reaches m k (walk_of m k) refl e in
      elim (dec_lt 0 (times i (keys_of (walk_of m k)))) [
        | yes q ↦ omega (arith, x.once i (x.only i (omega (arith, q))))
        | no q ↦ omega (arith, q)
      ]

-- a refused walk has no chain
pub no_chain : (m : State) (k : ℕ) → ((walk_of m k).answer ≡ 0 → ⊥) → chain_of m k ≡ []
unfolding chain_of
no_chain m k h = rw (refused_empty m k (walk_of m k) refl h).1 refl

pub looked_up_holds : LookedUp
unfolding found_of
looked_up_holds m k i link e b f =
    let u = (answered m k e).whole in
    let p = link - 1 in
    let v = number i 0 in
    let both = (and_parts (not (eqb link 0) && is_lasting m p v) (closed_of m i) f).0 in
    let lasts = (and_parts (not (eqb link 0)) (is_lasting m p v) both).1 in
    let slot = lasting_slot m u p v (omega arith) lasts in
    (slot.same_actor (has_kept m p v lasts), slot.same_causes (has_kept m p v lasts))
