-- One message: it is refused and nothing changes, or it is taken and only its own activity's rows change. Assumes nothing.
use Prim.Native.Nat.{ℕ, ◌<◌}
use mathlib.Core.Path.{◌≡◌, refl, sym, ap, ◌∙◌}
use mathlib.Core.Logic.{◌≢◌, ◌⊎◌, inl, inr, ⊎_elim}
use mathlib.Core.Bool.{Bool, true, false, ◌||◌, true≢false}
use borrow.Author.Tests.{leb-false}
use native.Mathlib.Omega.{arith}
use lib.Dec.{leb}
use Rattle.activities.specs.Activity.{neither}
use Rattle.activities.specs.Side.{full}
use Rattle.activities.specs.Store.{place_of, exchange_of}
use Rattle.activities.specs.Receive.{side_of, exchange_taken, no_room, refused, accepted, receive}
use Rattle.activities.specs.declared.Message.{Message}
use Rattle.activities.specs.declared.Store.{Store}
use Rattle.activities.specs.Outcome.{Outcome}
use lib.ListN.{length}
use Rattle.completes.specs.Promises.{Sized, RefusedChangesNothing, OthersStay}
use Rattle.completes.proofs.Look.{exchange_name, own_written, other_written, sized_written}

pub record Takes (s : Store) (m : Message) : Type 0 where
  pub known : neither m ≡ false
  pub placed : place_of s m.activity < 16
  pub room : full (side_of (exchange_of s m.activity) m) m.said ≡ false
  pub answer : receive s m ≡ accepted s m

pub record Refuses (s : Store) (m : Message) : Type 0 where
  pub number : ℕ
  pub some : number ≢ 0
  pub answer : receive s m ≡ refused number s

or_left : (a b : Bool) → (a || b) ≡ false → a ≡ false
or_left true b e = e
or_left false b e = refl

or_right : (a b : Bool) → (a || b) ≡ false → b ≡ false
or_right true b e = absurd (true≢false e)
or_right false b e = e

pub takes : (s : Store) (m : Message) → neither m ≡ false → no_room s m ≡ false → Takes s m
unfolding receive no_room
takes s m n e =
    record {
      known = n;
      placed = leb-false 16 (place_of s m.activity) (or_left _ _ e);
      room = or_right (leb 16 (place_of s m.activity)) _ e;
      answer = rw (n, e);
    }

pub outcome : (s : Store) (m : Message) → Takes s m ⊎ Refuses s m
unfolding receive
outcome s m = go (neither m) refl (no_room s m) refl
  where
    go : (t : Bool) → neither m ≡ t → (u : Bool) → no_room s m ≡ u → Takes s m ⊎ Refuses s m
    go true n u e = inr (record { number = 17; some = omega arith; answer = rw n })
    go false n true e = inr (record { number = 18; some = omega arith; answer = rw (n, e) })
    go false n false e = inl (takes s m n e)

-- what a message does, by whether it is taken
module _ {s : Store} {m : Message} where
  pub taken_answer : Takes s m → (receive s m).answer ≡ 0
  taken_answer h = ap (λ (r : Outcome). r.answer) h.answer

  pub taken_own : Sized s → Takes s m → exchange_of (receive s m).store m.activity ≡ exchange_taken (exchange_of s m.activity) m
  unfolding exchange_taken
  taken_own long h =
      ap (λ (r : Outcome). exchange_of r.store m.activity) h.answer ∙ own_written s m.activity _ long h.placed (exchange_name s m.activity)

  pub refused_store : Refuses s m → (receive s m).store ≡ s
  refused_store h = ap (λ (r : Outcome). r.store) h.answer

  pub refused_answer : Refuses s m → (receive s m).answer ≢ 0
  refused_answer h e = h.some (sym (ap (λ (r : Outcome). r.answer) h.answer) ∙ e)

-- a message that is answered 0 is taken
pub takes_zero : (s : Store) (m : Message) → (receive s m).answer ≡ 0 → Takes s m
takes_zero s m e = ⊎_elim (λ (h : Takes s m). h) (λ (h : Refuses s m). absurd (refused_answer h e)) (outcome s m)

pub sized_receive : (s : Store) (m : Message) → Sized s → Sized (receive s m).store
sized_receive s m long =
    ⊎_elim
    (λ (h : Takes s m). ap (λ (r : Outcome). length r.store.exchanges) h.answer ∙ sized_written s (place_of s m.activity) _ long)
    (λ (h : Refuses s m). ap (λ (t : Store). length t.exchanges) (refused_store h) ∙ long)
    (outcome s m)

pub refused_changes_nothing : RefusedChangesNothing
refused_changes_nothing s m n =
    ⊎_elim
    (λ (h : Takes s m). absurd (n (taken_answer h)))
    (λ (h : Refuses s m). (refused_store h, ap (λ (r : Outcome). r.ack) h.answer, ap (λ (r : Outcome). r.finished) h.answer))
    (outcome s m)

pub others_stay : OthersStay
unfolding exchange_taken
others_stay s long m b d =
    ⊎_elim
    (λ (h : Takes s m). ap (λ (r : Outcome). exchange_of r.store b) h.answer ∙ other_written s m.activity b _ long h.placed (exchange_name s m.activity) d)
    (λ (h : Refuses s m). ap (λ (t : Store). exchange_of t b) (refused_store h))
    (outcome s m)
