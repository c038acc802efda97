-- The guarantee 6 where stores are down: each restart is taken and leaves the other stores, so all are up. Assumes nothing.
use mathlib.Core.Path.{◌≡◌, refl, ap, ◌∙◌}
use mathlib.Core.Bool.{Bool, true, false, ◌||◌}
use mathlib.Core.List.{List, [], ◌∷◌, ◌++◌}
use Prim.Native.Nat.{ℕ, zero, suc, ◌≤◌, ◌<◌}
use native.Mathlib.Numerals.{add-one}
use native.Mathlib.Omega.{arith}
use native.Mathlib.Decide.{ℕ_discrete, dec_lt}
use borrow.Author.Tests.{le-leb}
use lib.Dec.{leb}
use lib.ListN.{length, replicate, length-append}
use lib.Seq.{get_or-set_same, get_or-set_other}
use Rattle.std.proofs.Common.{rules}
use Rattle.protocol.specs.Words.{pick}
use Rattle.protocol.specs.Slots.{no_store, shelf, is_up}
use Rattle.protocol.specs.Stores.{turned}
use Rattle.protocol.specs.declared.Store.{Store}
use Rattle.protocol.specs.declared.State.{State}
use Rattle.protocol.specs.Outcome.{Outcome}
use Rattle.unbroken.proofs.Laws.{unbroken}
use Rattle.unbroken.proofs.Laws.Every.{all_each}
use Rattle.unbroken.proofs.Laws.Room.{stores8}
use Rattle.protocol.specs.Restart.{restarted}
use Rattle.protocol.specs.Step.{after_of, step_of}
use Rattle.protocol.specs.declared.Step.{Step}
use Rattle.protocol.specs.declared.Step.TheVariants.{Restart}
use Rattle.protocol.specs.Run.{ran, answers, fresh_of}
use Rattle.protocol.specs.Drain.{up_in, all_up}
use Rattle.keeps.proofs.Laws.{taken_gives}
use Rattle.reads.proofs.Some.{ran_append, answers_append}
use Rattle.guarantees.specs.Acknowledged.{after}
use Rattle.guarantees.specs.Guarantees.{restarts_below, restarts, Recovery}
use Rattle.guarantees.proofs.Reached.{Reached}
use Rattle.guarantees.proofs.Acks.{run_reached}
use Rattle.guarantees.proofs.Demand.{reached}
use Rattle.guarantees.proofs.Drained.{the_drain}

abbrev store_is_up : Store → Bool
store_is_up s = s.up

replicate_more : (n z : ℕ) → replicate n z ++ (z ∷ []) ≡ replicate (suc n) z
replicate_more zero z = refl
replicate_more (suc n) z = ap (λ (l : List ℕ). z ∷ l) (replicate_more n z)

-- after the restarts of the stores below n: those are up, the others as they were, and nothing else is asked
record Restarted (m : State) (n : ℕ) (ss : List Step) : Type 0 where
  stores : (ran m ss).stores ≡ m.stores
  made : (ran m ss).made ≡ m.made
  up : (p : ℕ) → p < n → is_up (ran m ss) p ≡ true
  rest : (p : ℕ) → n ≤ p → is_up (ran m ss) p ≡ is_up m p
  few : length ss ≤ n
  zeros : answers m ss ≡ replicate (length ss) 0

module _ (m : State) (c : Reached m) where
  restart : (n : ℕ) (ss : List Step) → n < m.stores → Restarted m n ss → (b : Bool) → is_up m n ≡ b → Restarted m (suc n) (ss ++ pick b [] (Restart n ∷ []))
  unfolding restarted ran answers
  restart n ss h r true e = search rules
  restart n ss h r false e =
      let d = run_reached m c ss in
      let x : step_of (ran m ss) (Restart n) ≡ record { state = after_of (ran m ss) (Restart n); answer = 0 } = taken_gives (ran m ss) (Restart n) d.fine (record { store_in = omega (arith, r.stores); down = r.rest n (omega arith) ∙ e }) in
      let s = ap (λ (a : Outcome). a.state) x in
      let whole = ran_append m ss (Restart n ∷ []) ∙ s in
      record {
        stores = ap (λ (y : State). y.stores) whole ∙ r.stores;
        made = ap (λ (y : State). y.made) whole ∙ r.made;
        up = λ p g. ap (λ (y : State). is_up y p) whole ∙ below p g (ℕ_discrete p n);
        rest = λ p g. ap (λ (y : State). is_up y p) whole ∙ ap store_is_up (get_or-set_other (ran m ss).shelves n p (turned (shelf (ran m ss) n) true) no_store (λ z. let q : ⊥ = omega arith in q)) ∙ r.rest p (omega arith);
        few = rw (length-append ss (Restart n ∷ [])) (omega (arith, r.few));
        zeros = answers_append m ss (Restart n ∷ []) ∙ rw (r.zeros, ap (λ (a : Outcome). a.answer) x, length-append ss (Restart n ∷ []), add-one (length ss)) (replicate_more (length ss) 0);
      }
    where
      below : (p : ℕ) → p < suc n → Dec (p ≡ n) → is_up (restarted (ran m ss) n) p ≡ true
      below p g (yes y) =
          let d = run_reached m c ss in
          let z = unbroken (ran m ss) d.fine in
          rw y (ap store_is_up (get_or-set_same (ran m ss).shelves n (turned (shelf (ran m ss) n) true) no_store (omega (arith, z.sized.shelves, stores8 (ran m ss) z, r.stores))))
      below p g (no y) = ap store_is_up (get_or-set_other (ran m ss).shelves n p (turned (shelf (ran m ss) n) true) no_store y) ∙ r.up p (omega arith)

  all_restarted : (n : ℕ) → n ≤ m.stores → Restarted m n (restarts_below n m)
  unfolding restarts_below ran answers
  all_restarted zero h = record { stores = refl; made = refl; up = λ p g. absurd (let z : ⊥ = omega arith in z); rest = λ p g. refl; few = omega arith; zeros = refl }
  all_restarted (suc n) h = restart n (restarts_below n m) h (all_restarted n (omega arith)) (is_up m n) refl

  everything_up : all_up (ran m (restarts m)) ≡ true
  everything_up =
      let r = all_restarted m.stores (omega arith) in
      let n = ran m (restarts m) in
      all_each (up_in n.stores) n.shelves no_store (λ p h. at r p (dec_lt p n.stores))
    where
      or_true : (b : Bool) → (b || true) ≡ true
      or_true true = refl
      or_true false = refl

      at : Restarted m m.stores (restarts m) → (p : ℕ) → Dec (p < (ran m (restarts m)).stores) → up_in (ran m (restarts m)).stores p (shelf (ran m (restarts m)) p) ≡ true
      at r p (yes h) = rw (r.up p (omega (arith, r.stores))) (or_true (leb (ran m (restarts m)).stores p))
      at r p (no h) = rw (le-leb (ran m (restarts m)).stores p (omega arith))

pub recovery : Recovery
recovery u l steps =
    let m = after u steps in
    let c = reached u l steps in
    let r = all_restarted m c m.stores (omega arith) in
    let join = ran_append (fresh_of u) steps (restarts m) in
    let up : all_up (after u (steps ++ restarts m)) ≡ true = ap all_up join ∙ everything_up m c in
    let made : (after u (steps ++ restarts m)).made ≡ m.made = ap (λ (n : State). n.made) join ∙ r.made in
    let d = the_drain u l (steps ++ restarts m) up in
    record {
      taken = r.zeros;
      up = up;
      made = made;
      closes = λ k h. d.closes k (omega arith);
      bound = omega (arith, r.few, stores8 m (unbroken m c.fine), d.bound);
    }
