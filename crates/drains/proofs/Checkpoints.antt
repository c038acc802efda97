-- The drain's checkpoint is taken, and leaves one step less: the answer that was owed at the store in question is in flight then. It
-- sends what the store owes of other views too, which raises nothing of theirs. Assumes nothing.
use Prim.Native.Nat.{ℕ, ◌*◌, ◌<◌}
use mathlib.Core.Path.{◌≡◌, refl, sym, ap, ◌∙◌}
use mathlib.Core.Bool.{Bool, true, false, ◌||◌, not}
use mathlib.Core.List.{List}
use native.Mathlib.Omega.{arith}
use native.Mathlib.Decide.{ℕ_discrete}
use lib.Dec.{eqb}
use lib.ListN.{get_or, set}
use borrow.Author.Tests.{eq-eqb, ne_eqb, lt-leb}
use Rattle.std.proofs.lemmas.Bool.{or_right}
use Rattle.std.proofs.Math.Bool.{or-false}
use Rattle.std.proofs.Common.{rules}
use Rattle.protocol.specs.Words.{pick, bit}
use Rattle.protocol.specs.Slots.{place, shelf, is_up, view, repair, entry, ack_copies, uack_copies, owes_ack, owes_uack}
use Rattle.protocol.specs.Stores.{saved}
use Rattle.protocol.specs.Sweep.{swept}
use Rattle.protocol.specs.Checkpoint.{sent_owed, checkpoint_no, checkpointed}
use Rattle.protocol.specs.declared.State.{State}
use Rattle.protocol.specs.declared.Store.{Store}
use Rattle.protocol.specs.declared.View.{View}
use Rattle.protocol.specs.declared.Status.TheVariants.{Waiting}
use Rattle.protocol.specs.declared.Step.TheVariants.{Checkpoint}
use Rattle.protocol.specs.Rule.{more}
use Rattle.unbroken.specs.Unbroken.{Unbroken}
use Rattle.unbroken.proofs.Laws.Bits.{bit_none}
use Rattle.unbroken.proofs.Laws.Room.{stores8, made_32}
use Rattle.unbroken.proofs.Places.{places_at}
use Rattle.unbroken.proofs.Shelves.{in_set, shelf_beside, shelf_same, shelf_unseen}
use Rattle.drains.proofs.StepsLeft.{Seen, repair_to_come, steps_left}
use Rattle.drains.proofs.Noted.{noted, noted_most, noted_ack, noted_uack}
use Rattle.drains.proofs.Total.{seen_of, total_lower, opposite}
use Rattle.drains.proofs.Jobs.{Lowers, some_more}

-- an owed note is a copy in flight
sent_some : (n : ℕ) (b : Bool) → not (eqb (pick b (more n) n) 0) ≡ (not (eqb n 0) || b)
sent_some n true = some_more n ∙ sym (or_right (not (eqb n 0)) true refl)
sent_some n false = sym (or-false (not (eqb n 0)))

-- whether a store is the view's, and its entry's destination
abbrev holds : State → ℕ → ℕ → Bool
holds m p u = eqb (view m u).store p

abbrev awaits : State → ℕ → ℕ → Bool
awaits m p u = eqb (entry m u).destination p

module _ (m : State) (w : Unbroken m) (p : ℕ) (hp : p < m.stores) where
  in8 : p < 8
  in8 = omega (arith, stores8 m w)

  -- copies and notes after the checkpoint, at any store, for acks and for uacks
  module _ (notes : Store → ℕ) (q u : ℕ) where
    sent_at : (l : List ℕ) → q < 8 → u < 32
        → not (eqb (get_or (sent_owed (notes (shelf m p)) p l) (place q u) 0) 0) ≡ pick (eqb q p) (not (eqb (get_or l (place q u) 0) 0) || bit (notes (shelf m q)) u) (not (eqb (get_or l (place q u) 0) 0))
    sent_at l e f = search (rules, places_at, eq-eqb, sent_some, ne_eqb)

    owed_at : notes (saved (shelf m p)) ≡ 0 → in_set notes (set m.shelves p (saved (shelf m p))) q u ≡ pick (eqb q p) false (in_set notes m.shelves q u)
    owed_at e = search (rules, eq-eqb, shelf_same, in8, bit_none, ne_eqb, shelf_beside)

  -- the store of a view, and its entry's destination, is one of eight
  store_at_holds : (u : ℕ) → u < m.made * 2 → (view m u).store < 8
  store_at_holds u h = go (ℕ_discrete (view m u).phase 0)
    where
      go : Dec ((view m u).phase ≡ 0) → (view m u).store < 8
      go (yes e) = omega (arith, ap (λ (x : View). x.store) ((w.view_at u (made_32 m w u h)).unset e))
      go (no e) = omega (arith, (w.view_at u (made_32 m w u h)).store_in (omega arith), stores8 m w)

  destination_at : (u : ℕ) → u < m.made * 2 → (entry m u).destination < 8
  destination_at u e = search (rules, made_32, stores8)

  abbrev after : ℕ → Seen
  after u = noted (holds m p u) (awaits m p u) (seen_of m u)

  seen_after : (u : ℕ) → u < m.made * 2 → seen_of (checkpointed m p) u ≡ after u
  unfolding checkpointed swept seen_of
  seen_after u h =
      let q = (view m u).store in
      let d = (entry m u).destination in
      rw (
        sent_at (λ s. s.acksowed) q u m.acks (store_at_holds u h) (made_32 m w u h),
        owed_at (λ s. s.acksowed) q u refl,
        sent_at (λ s. s.uacksowed) d u m.uacks (destination_at u h) (made_32 m w u h),
        owed_at (λ s. s.uacksowed) d u refl,
      )

  checkpoint_good : (v : ℕ) → v < m.made * 2 → is_up m p ≡ true → steps_left (after v) (after (opposite v)) < steps_left (seen_of m v) (seen_of m (opposite v)) → Lowers m (Checkpoint p)
  unfolding checkpoint_no checkpointed swept
  checkpoint_good v e f g = search (rules, lt-leb, total_lower, seen_after, noted_most, seen_of, shelf_unseen)

module _ (m : State) (w : Unbroken m) (v : ℕ) (hv : v < m.made * 2) where
  -- the head waits for an ack that its store owes
  pub ack_owed_good : (view m v).store < m.stores → (view m v).phase ≡ 3 → is_up m (view m v).store ≡ true
      → eqb (ack_copies m (view m v).store v) 0 ≡ true → owes_ack m (view m v).store v ≡ true → Lowers m (Checkpoint (view m v).store)
  unfolding seen_of
  ack_owed_good at h up no_ack owed =
      let p = (view m v).store in
      checkpoint_good m w p at v hv up (rw (eq-eqb p p refl) (noted_ack (awaits m p v) (holds m p (opposite v)) (awaits m p (opposite v)) (seen_of m v) (seen_of m (opposite v)) h (rw no_ack) owed))

  -- the entry waits for a uack that its destination owes
  pub uack_owed_good : (entry m v).destination < m.stores → (view m v).phase ≡ 5 → (repair m v).flying ≡ false → repair_to_come (seen_of m (opposite v)) ≡ false
      → (entry m v).status ≡ Waiting → is_up m (entry m v).destination ≡ true
      → eqb (uack_copies m (entry m v).destination v) 0 ≡ true → owes_uack m (entry m v).destination v ≡ true → Lowers m (Checkpoint (entry m v).destination)
  unfolding seen_of repair_to_come
  uack_owed_good at settled idle none h up no_uack owed =
      let p = (entry m v).destination in
      checkpoint_good m w p at v hv up (rw (eq-eqb p p refl) (noted_uack (holds m p v) (holds m p (opposite v)) (awaits m p (opposite v)) (seen_of m v) (seen_of m (opposite v)) (rw (settled, idle)) none h (rw no_uack) owed))
