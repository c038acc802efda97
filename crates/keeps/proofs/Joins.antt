-- A view that is in phase 0 is made and joins its actor's queue, in phase 1: the queues, and the view's own slots. Assumes nothing.
use Prim.Native.Nat.{ℕ, ◌+◌, ◌≤◌, ◌<◌}
use mathlib.Core.Path.{◌≡◌, refl, sym, subst, ◌∙◌}
use mathlib.Core.Logic.{◌≢◌}
use mathlib.Core.List.{List}
use native.Mathlib.Omega.{arith}
use native.Mathlib.Decide.{ℕ_discrete}
use lib.ListN.{get_or, set}
use Rattle.std.proofs.Common.{rules}
use Rattle.protocol.specs.Words.{times}
use Rattle.protocol.specs.Slots.{no_view, no_queue, view, queue, standing, home}
use Rattle.unbroken.specs.Unbroken.{QueueSlot, Unbroken}
use Rattle.protocol.specs.declared.State.{State}
use Rattle.protocol.specs.declared.View.{View}
use Rattle.protocol.specs.declared.Queue.{Queue}
use Rattle.unbroken.proofs.Laws.Room.{actors8, legal_actor_holds, made_view_holds, unmade_absent}
use Rattle.protocol.specs.Send.{joined}
use Rattle.keeps.proofs.Index.{at_others}
use Rattle.keeps.proofs.Queues.{joined_long, joined_at, joined_times, joined_once}

-- an actor's home is a store
pub home_in_holds : (m : State) → Unbroken m → (a : ℕ) → a < m.actors → home m a < m.stores
home_in_holds m s a h = (legal_actor_holds m s a h).home_in

-- the views that stood are as they were, and the new one is in phase 1
module _ (m : State) (s : Unbroken m) (a : ℕ) (ha : a < m.actors) (v : ℕ) (h : v < 32) (old : (view m v).phase ≡ 0) (room : (queue m a).len < 16)
    (views : List View) (actor : (get_or views v no_view).actor ≡ a) (first : (get_or views v no_view).phase ≡ 1)
    (same : (u : ℕ) → 1 ≤ (view m u).phase → get_or views u no_view ≡ view m u)
    (only : (u : ℕ) → u ≢ v → 1 ≤ (get_or views u no_view).phase → get_or views u no_view ≡ view m u) where
  a_8 : a < 8
  a_8 = let t = actors8 m s in omega arith

  abbrev queues : List Queue
  queues = set m.queues a (joined (queue m a) v)

  -- a fact of a view that stood, and of one that stands now
  stood : (P : View → Type 0) (b i : ℕ) → b < 8 → i < (queue m b).len → P (view m (get_or (queue m b).views i 0)) → P (get_or views (get_or (queue m b).views i 0) no_view)
  stood P b i hb hi x = subst P (sym (same (get_or (queue m b).views i 0) ((s.queue_at b hb).stands_from i hi))) x

  stands : (P : View → Type 0) → P (get_or views v no_view) → (i : ℕ) → i < (queue m a).len + 1 → (i < (queue m a).len → P (view m (get_or (queue m a).views i 0))) → P (get_or views (get_or (joined (queue m a) v).views i 0) no_view)
  stands P e i f g = search rules

  joined_slot : QueueSlot m.actors views a (joined (queue m a) v)
  joined_slot =
      let q = s.queue_at a a_8 in
      record {
        long = joined_long (queue m a) q.long v;
        len16 = omega arith;
        len_blank = λ b. absurd (omega arith);
        stands_own = λ i b. stands (λ x. x.actor ≡ a) actor i b (q.stands_own i);
        stands_from = λ i b. stands (λ x. 1 ≤ x.phase) (omega arith) i b (q.stands_from i);
        stands_to = λ i b. stands (λ x. x.phase ≤ 4) (omega arith) i b (q.stands_to i);
        behind = λ i b pos. stands (λ x. x.phase ≡ 1) first i b (λ c. q.behind i c pos);
        place_blank = λ i b c. joined_at (queue m a) q.long v i (omega arith) ∙ q.place_blank i b (omega arith);
      }

  other_slot : (b : ℕ) → b < 8 → b ≢ a → QueueSlot m.actors views b (queue m b)
  other_slot b hb n =
      let q = s.queue_at b hb in
      record {
        long = q.long;
        len16 = q.len16;
        len_blank = q.len_blank;
        stands_own = λ i c. stood (λ x. x.actor ≡ b) b i hb c (q.stands_own i c);
        stands_from = λ i c. stood (λ x. 1 ≤ x.phase) b i hb c (q.stands_from i c);
        stands_to = λ i c. stood (λ x. x.phase ≤ 4) b i hb c (q.stands_to i c);
        behind = λ i c pos. stood (λ x. x.phase ≡ 1) b i hb c (q.behind i c pos);
        place_blank = q.place_blank;
      }

  pub join_queued : (b : ℕ) → b < 8 → QueueSlot m.actors views b (get_or queues b no_queue)
  join_queued = at_others m.queues 8 a (joined (queue m a) v) no_queue s.sized.queues a_8 (QueueSlot m.actors views) joined_slot other_slot

  pub join_once : (u : ℕ) → u < 32 → 1 ≤ (get_or views u no_view).phase → (get_or views u no_view).phase ≤ 4 → times u (standing (get_or queues (get_or views u no_view).actor no_queue)) ≡ 1
  join_once u hu from to = go (ℕ_discrete u v)
    where
      q : QueueSlot m.actors m.views a (queue m a)
      q = s.queue_at a a_8

      here : (P : Queue → Type 0) → P (joined (queue m a) v) → P (get_or queues a no_queue)
      here P x =
          at_others m.queues 8 a (joined (queue m a) v) no_queue s.sized.queues a_8 (λ b y. b ≡ a → P y) (λ e. x) (λ b hb n e. absurd (n e)) a a_8 refl

      go : Dec (u ≡ v) → times u (standing (get_or queues (get_or views u no_view).actor no_queue)) ≡ 1
      go (yes e) =
          subst (λ (n : ℕ). times n (standing (get_or queues (get_or views n no_view).actor no_queue)) ≡ 1) (sym e)
          (subst (λ (b : ℕ). times v (standing (get_or queues b no_queue)) ≡ 1) (sym actor)
          (here (λ x. times v (standing x) ≡ 1) (joined_once (queue m a) q.long v room (unmade_absent m s a a_8 v old))))
      go (no n) =
          let w = only u n from in
          let c = subst (λ (x : View). 1 ≤ x.phase) w from in
          let d = subst (λ (x : View). x.phase ≤ 4) w to in
          let o = s.queued_once u hu c d in
          let t = actors8 m s in
          let i = (s.view_at u hu).actor_in (made_view_holds m s u c) in
          subst (λ (x : View). times u (standing (get_or queues x.actor no_queue)) ≡ 1) (sym w)
          (at_others m.queues 8 a (joined (queue m a) v) no_queue s.sized.queues a_8 (λ b x. b ≡ (view m u).actor → times u (standing x) ≡ 1)
          (λ e. joined_times (queue m a) q.long u v room n ∙ subst (λ (k : ℕ). times u (standing (queue m k)) ≡ 1) (sym e) o)
          (λ k hk g e. subst (λ (j : ℕ). times u (standing (queue m j)) ≡ 1) (sym e) o) (view m u).actor (omega arith) refl)
