-- The bounds that a rule needs follow from a machine's not being broken. A queue has room, since an actor has at most one view
-- in an interaction: it isn't both sender and receiver. Assumes nothing.
use Prim.Native.Nat.{ℕ, ◌+◌, ◌*◌, ◌-◌, ◌≤◌, ◌<◌}
use mathlib.Core.Path.{◌≡◌, sym, ap, subst, ◌∙◌}
use mathlib.Core.Logic.{◌≢◌}
use mathlib.Core.Bool.{false}
use mathlib.Core.List.{List}
use native.Mathlib.Omega.{arith}
use native.Mathlib.Decide.{ℕ_discrete}
use lib.ListN.{length, get_or, length-take, get_or-eq_default}
use lib.Seq.{get_or-take}
use Rattle.std.proofs.Common.{rules}
use Rattle.protocol.specs.Words.{times}
use Rattle.protocol.specs.Slots.{number, status_number, home, list, queue, standing, view, entry}
use Rattle.protocol.specs.Broken.{broken_of}
use Rattle.unbroken.specs.Bounds.{Bounds}
use Rattle.unbroken.specs.Unbroken.{LegalActor, SetupKind, none, some, Unbroken}
use Rattle.protocol.specs.declared.State.{State}
use Rattle.protocol.specs.declared.View.{View}
use Rattle.protocol.specs.declared.Entry.{Entry}
use Rattle.unbroken.proofs.Laws.Whole.{unbroken}
use Rattle.unbroken.proofs.Laws.Counting.{few, fewer, times_none}

module _ {stores actors : ℕ} {homes lists : List ℕ} where
  most : SetupKind stores actors homes lists → (stores ≤ 8) × (actors ≤ 8)
  most (none a b) = (omega arith, omega arith)
  most (some l) = (l.stores8, l.actors8)

  each : SetupKind stores actors homes lists → (a : ℕ) → a < actors → LegalActor stores (get_or homes a 0) (get_or lists a 0)
  each (none x y) a h = absurd (omega arith)
  each (some l) a h = l.actor_at a h

module _ (m : State) (s : Unbroken m) where
  pub stores8 : m.stores ≤ 8
  stores8 = (most s.setup).0

  pub actors8 : m.actors ≤ 8
  actors8 = (most s.setup).1

  pub legal_actor_holds : (a : ℕ) → a < m.actors → LegalActor m.stores (home m a) (list m a)
  legal_actor_holds = each s.setup

  -- a view of no interaction is in phase 0
  pub unmade_view : (v : ℕ) → m.made * 2 ≤ v → (view m v).phase ≡ 0
  unmade_view v e = search (rules, get_or-eq_default)

  -- .. so one in a phase from 1 on is one of an interaction that is made
  pub made_view_holds : (v : ℕ) → 1 ≤ (view m v).phase → v < m.made * 2
  made_view_holds v e = search (rules, unmade_view)

  pub made_32 : (v : ℕ) → v < m.made * 2 → v < 32
  made_32 v h = omega (arith, s.made16)

  pub view_32 : (v : ℕ) → 1 ≤ (view m v).phase → v < 32
  view_32 v h = made_32 v (made_view_holds v h)

  -- .. as a sender's is
  pub sender_made_holds : (k : ℕ) → k < m.made → 1 ≤ (view m (number k 0)).phase
  sender_made_holds k h = (s.view_at (number k 0) (omega (arith, s.made16))).sender_made (omega arith) (omega arith)

  module _ (a : ℕ) (ha : a < 8) where
    pub standing_long : length (standing (queue m a)) ≡ (queue m a).len
    standing_long = let q = s.queue_at a ha in let r = length-take (queue m a).len (queue m a).views in let l = q.long in let f = q.len16 in omega arith

    pub standing_at : (i : ℕ) → i < length (standing (queue m a)) → get_or (standing (queue m a)) i 0 ≡ get_or (queue m a).views i 0
    standing_at i h = let r = standing_long in get_or-take (queue m a).len (queue m a).views i 0 (omega arith)

    -- a view that stands is one of this actor, in a phase from 1 to 4
    pub stands : (P : ℕ → Type 0) → ((v : ℕ) → (view m v).actor ≡ a → 1 ≤ (view m v).phase → (view m v).phase ≤ 4 → P v) → (i : ℕ) → i < length (standing (queue m a)) → P (get_or (standing (queue m a)) i 0)
    stands P e i f = search (rules, standing_long, standing_at)

    stands_made : (i : ℕ) → i < length (standing (queue m a)) → get_or (standing (queue m a)) i 0 < m.made * 2
    stands_made = stands (λ v. v < m.made * 2) (λ v x y z. made_view_holds v y)

    pub other_absent : (v : ℕ) → (view m v).actor ≢ a → times v (standing (queue m a)) ≡ 0
    other_absent v n = times_none v (standing (queue m a)) (stands (λ u. u ≢ v) (λ u x y z e. n (subst (λ (k : ℕ). (view m k).actor ≡ a) e x)))

    pub unmade_absent : (v : ℕ) → (view m v).phase ≡ 0 → times v (standing (queue m a)) ≡ 0
    unmade_absent v n =
        times_none v (standing (queue m a)) (stands (λ u. u ≢ v) (λ u x y z e. let p = subst (λ (k : ℕ). 1 ≤ (view m k).phase) e y in omega arith))

    pub settled_absent : (v : ℕ) → 5 ≤ (view m v).phase → times v (standing (queue m a)) ≡ 0
    settled_absent v n =
        times_none v (standing (queue m a)) (stands (λ u. u ≢ v) (λ u x y z e. let p = subst (λ (k : ℕ). (view m k).phase ≤ 4) e z in omega arith))

    at_most_once : (v : ℕ) → v < 32 → times v (standing (queue m a)) ≤ 1
    at_most_once v e = search (rules, other_absent, unmade_absent, settled_absent)

    one_of_two : (k : ℕ) → k < m.made → times (k * 2) (standing (queue m a)) + times (k * 2 + 1) (standing (queue m a)) ≤ 1
    one_of_two k h = go (ℕ_discrete (view m (k * 2)).actor a)
      where
        c : m.made ≤ 16
        c = s.made16

        receiver : (view m (k * 2)).actor ≡ a → (view m (k * 2 + 1)).actor ≢ a
        receiver e f =
            let p : k * 2 + 1 - 1 ≡ k * 2 = omega arith in
            (s.view_at (k * 2 + 1) (omega arith)).two_actors (omega arith) (omega arith) (f ∙ sym e ∙ ap (λ (n : ℕ). (view m n).actor) (sym p))

        go : Dec ((view m (k * 2)).actor ≡ a) → times (k * 2) (standing (queue m a)) + times (k * 2 + 1) (standing (queue m a)) ≤ 1
        go (no n) = let r = other_absent (k * 2) n in let t = at_most_once (k * 2 + 1) (omega arith) in omega arith
        go (yes e) = let r = other_absent (k * 2 + 1) (receiver e) in let t = at_most_once (k * 2) (omega arith) in omega arith

    -- no more views stand in a queue than interactions are made
    pub queue_few : (queue m a).len ≤ m.made
    queue_few = let r = few (standing (queue m a)) m.made stands_made one_of_two in let l = standing_long in omega arith

    pub queue_fewer : (k : ℕ) → k < m.made → times (k * 2) (standing (queue m a)) ≡ 0 → times (k * 2 + 1) (standing (queue m a)) ≡ 0 → (queue m a).len < m.made
    queue_fewer k h x y = let r = fewer (standing (queue m a)) m.made k stands_made one_of_two h (omega arith) in let l = standing_long in omega arith

  head_32 : (a : ℕ) → a < 8 → get_or (queue m a).views 0 0 < 32
  head_32 a e = search (rules, view_32)

  actor_8 : (v : ℕ) → v < 32 → (view m v).actor < 8
  actor_8 v e = search rules

  -- a number that is below the stores, or 0
  below_8 : (c x : ℕ) → (1 ≤ c → x < m.stores) → (c ≡ 0 → x ≡ 0) → x < 8
  below_8 c x e f = search rules

  receive_room_holds : (k : ℕ) → k < m.made → (view m (number k 1)).phase ≡ 0 → (queue m (view m (number k 1)).actor).len < 16
  receive_room_holds k h e =
      let c = s.made16 in
      let a = (view m (number k 1)).actor in
      let ha = actor_8 (number k 1) (omega arith) in
      let p : number k 1 - 1 ≡ k * 2 = omega arith in
      let n = (s.view_at (number k 1) (omega arith)).two_actors (omega arith) (omega arith) in
      let r = queue_fewer a ha k h (other_absent a ha (k * 2) (λ q. n (sym q ∙ ap (λ (v : ℕ). (view m v).actor) (sym p)))) (unmade_absent a ha (number k 1) e) in
      omega arith

  pub bounds_of : Bounds m
  bounds_of =
      record {
        stores8 = stores8;
        actors8 = actors8;
        made16 = s.made16;
        head_in32 = head_32;
        send_room = λ a h few. let r = queue_few a h in omega arith;
        receive_room = receive_room_holds;
        actor_in8 = actor_8;
        store_in8 = λ v h. below_8 (view m v).phase (view m v).store (s.view_at v h).store_in (λ e. ap (λ (w : View). w.store) ((s.view_at v h).unset e));
        viewlink_in8 = λ v h. below_8 (view m v).phase (view m v).viewlink (s.view_at v h).viewlink_in (λ e. ap (λ (w : View). w.viewlink) ((s.view_at v h).unset e));
        destination_in8 = λ v h. below_8 (status_number (entry m v).status) (entry m v).destination (s.entry_at v h).destination_in (λ e. ap (λ (w : Entry). w.destination) ((s.entry_at v h).blank e));
        own_in8 = λ v h. below_8 (status_number (entry m v).status) (entry m v).own (s.entry_at v h).own_in (λ e. ap (λ (w : Entry). w.own) ((s.entry_at v h).blank e));
      }

pub bounds : (m : State) → broken_of m ≡ false → Bounds m
bounds m e = bounds_of m (unbroken m e)
