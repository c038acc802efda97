-- Step 8 keeps every slot: the head leaves its queue in phase 5, with a repair if it has changed. Assumes nothing.
use Prim.Native.Nat.{ℕ, ◌+◌, ◌-◌, ◌≤◌, ◌<◌}
use mathlib.Core.Path.{◌≡◌, refl, sym, ap, subst, ◌∙◌}
use mathlib.Core.Logic.{◌≢◌}
use mathlib.Core.Bool.{true≢false}
use mathlib.Core.List.{List}
use native.Mathlib.Omega.{arith}
use native.Mathlib.Decide.{dec_lt}
use lib.ListN.{get_or, set, length-set}
use lib.Seq.{get_or-set_same, get_or-set_other}
use Rattle.protocol.specs.Words.{times}
use Rattle.protocol.specs.Slots.{no_view, no_queue, view, queue, standing, repair}
use Rattle.protocol.specs.Writes.{with_view, with_queue}
use Rattle.unbroken.specs.Unbroken.{QueueSlot, RepairSlot, Unbroken}
use Rattle.protocol.specs.declared.State.{State}
use Rattle.protocol.specs.declared.View.{View}
use Rattle.protocol.specs.declared.Queue.{Queue}
use Rattle.unbroken.proofs.Laws.Room.{actors8, made_view_holds}
use Rattle.protocol.specs.Views.{phased}
use Rattle.protocol.specs.Rule.{head, head_view}
use Rattle.protocol.specs.PostCheck.{asked_repair, left, post_checked}
use Rattle.keeps.specs.Taken.{HeadIn}
use Rattle.keeps.proofs.Index.{at_others}
use Rattle.keeps.proofs.Writes.{repair_write}
use Rattle.keeps.proofs.Jobs.{jobs_kept, read_view, one_job, views_long, message_same}
use Rattle.keeps.proofs.Heads.{moved_job_holds, actor_8, head_from, head_to, head_32, head_elsewhere, head_behind}
use Rattle.keeps.proofs.Cases.{pick_case}
use Rattle.keeps.proofs.Actors.{head_slot}
use Rattle.keeps.proofs.Queues.{left_long, left_at, left_end, left_times}

module _ (m : State) (s : Unbroken m) (a : ℕ) (ha : a < m.actors) (some : 1 ≤ (queue m a).len) where
  abbrev w : View
  w = phased 5 (head_view m a)

  abbrev views : List View
  views = set m.views (head m a) w

  abbrev queues : List Queue
  queues = set m.queues a (left (queue m a))

  v_32 : head m a < 32
  v_32 = head_32 m s a ha some

  -- a view that isn't the head is as it was
  others : (u : ℕ) → u ≢ head m a → get_or views u no_view ≡ view m u
  others u n = get_or-set_other m.views (head m a) u w no_view n

  read : (P : View → Type 0) (u : ℕ) → u ≢ head m a → P (view m u) → P (get_or views u no_view)
  read P u n x = subst P (sym (others u n)) x

  behind : (i : ℕ) → i < (queue m a).len - 1 → get_or (left (queue m a)).views i 0 ≡ get_or (queue m a).views (1 + i) 0
  behind i h = let q = s.queue_at a (actor_8 m s a ha some) in let few = q.len16 in left_at (queue m a) q.long i (omega arith)

  -- a fact of each view behind the head
  of_behind : (P : View → Type 0) (i : ℕ) → i < (queue m a).len - 1 → P (view m (get_or (queue m a).views (1 + i) 0)) → P (get_or views (get_or (left (queue m a)).views i 0) no_view)
  of_behind P i h x =
      subst (λ (u : ℕ). P (get_or views u no_view)) (sym (behind i h))
      (read P (get_or (queue m a).views (1 + i) 0) (head_behind m s a ha some (1 + i) (omega arith) (omega arith)) x)

  left_blank : (i : ℕ) → i < 16 → (queue m a).len - 1 ≤ i → get_or (left (queue m a)).views i 0 ≡ 0
  left_blank i hi h =
      let q = s.queue_at a (actor_8 m s a ha some) in
      elim (dec_lt i 15) [
        | yes b ↦ left_at (queue m a) q.long i b ∙ q.place_blank (1 + i) (omega arith) (omega arith)
        | no b ↦ (let e : i ≡ 15 = omega arith in ap (λ (j : ℕ). get_or (left (queue m a)).views j 0) e ∙ left_end (queue m a) q.long)
      ]

  left_slot : QueueSlot m.actors views a (left (queue m a))
  left_slot =
      let q = s.queue_at a (actor_8 m s a ha some) in
      let few = q.len16 in
      record {
        long = left_long (queue m a) q.long;
        len16 = omega arith;
        len_blank = λ h. absurd (omega arith);
        stands_own = λ i h. of_behind (λ x. x.actor ≡ a) i h (q.stands_own (1 + i) (omega arith));
        stands_from = λ i h. of_behind (λ x. 1 ≤ x.phase) i h (q.stands_from (1 + i) (omega arith));
        stands_to = λ i h. of_behind (λ x. x.phase ≤ 4) i h (q.stands_to (1 + i) (omega arith));
        behind = λ i h pos. of_behind (λ x. x.phase ≡ 1) i h (q.behind (1 + i) (omega arith) (omega arith));
        place_blank = left_blank;
      }

  other_slot : (b : ℕ) → b < 8 → b ≢ a → QueueSlot m.actors views b (queue m b)
  other_slot b hb n =
      let q = s.queue_at b hb in
      let not_head : (i : ℕ) → i < (queue m b).len → get_or (queue m b).views i 0 ≢ head m a = λ i h e. n (head_elsewhere m s a ha some b i hb h e) in
      record {
        long = q.long;
        len16 = q.len16;
        len_blank = q.len_blank;
        stands_own = λ i h. read (λ x. x.actor ≡ b) (get_or (queue m b).views i 0) (not_head i h) (q.stands_own i h);
        stands_from = λ i h. read (λ x. 1 ≤ x.phase) (get_or (queue m b).views i 0) (not_head i h) (q.stands_from i h);
        stands_to = λ i h. read (λ x. x.phase ≤ 4) (get_or (queue m b).views i 0) (not_head i h) (q.stands_to i h);
        behind = λ i h pos. read (λ x. x.phase ≡ 1) (get_or (queue m b).views i 0) (not_head i h) (q.behind i h pos);
        place_blank = q.place_blank;
      }

  queued : (b : ℕ) → b < 8 → QueueSlot m.actors views b (get_or queues b no_queue)
  queued = at_others m.queues 8 a (left (queue m a)) no_queue s.sized.queues (actor_8 m s a ha some) (QueueSlot m.actors views) left_slot other_slot

  once : (u : ℕ) → u < 32 → 1 ≤ (get_or views u no_view).phase → (get_or views u no_view).phase ≤ 4 → times u (standing (get_or queues (get_or views u no_view).actor no_queue)) ≡ 1
  once u hu =
      read_view m s (head m a) v_32 w refl (λ n x. n < 32 → 1 ≤ x.phase → x.phase ≤ 4 → times n (standing (get_or queues x.actor no_queue)) ≡ 1) u
      (λ b c d. absurd (omega arith))
      (λ n b c d.
      let q = s.queue_at a (actor_8 m s a ha some) in
      let o = s.queued_once u b c d in
      let t = actors8 m s in
      let i = (s.view_at u b).actor_in (made_view_holds m s u c) in
      at_others m.queues 8 a (left (queue m a)) no_queue s.sized.queues (actor_8 m s a ha some) (λ e x. e ≡ (view m u).actor → times u (standing x) ≡ 1)
      (λ e. left_times (queue m a) q.long u some q.len16 (λ f. n (sym f)) ∙ subst (λ (k : ℕ). times u (standing (queue m k)) ≡ 1) (sym e) o)
      (λ k hk g e. subst (λ (j : ℕ). times u (standing (queue m j)) ≡ 1) (sym e) o) (view m u).actor (omega arith) refl)
      hu

  left_kept : Unbroken (with_queue (with_view m (head m a) w) a (left (queue m a)))
  left_kept =
      let from = head_from m s a ha some in
      let old = s.view_at (head m a) v_32 in
      let x = head_slot m s a ha some 5 _ _ _ _ (omega arith) (omega arith) (old.store_in from) (old.tries3 from) old.causes in
      jobs_kept m s m.made views queues m.messages
      (views_long m s (head m a) v_32 w refl) (length-set m.queues a (left (queue m a)) ∙ s.sized.queues) s.sized.messages s.made16 (omega arith)
      (one_job m s (head m a) v_32 w refl (moved_job_holds m s (head m a) v_32 (head_to m s a ha some) m.made (view m (head m a - 1)).actor w x (λ h. (omega arith, refl, refl, refl, refl))))
      once queued (message_same m s (head m a) v_32 w refl from (omega arith))

pub post_check_kept : (m : State) → Unbroken m → (a : ℕ) → HeadIn 4 m a → Unbroken (post_checked m a)
unfolding post_checked
post_check_kept m s a c =
    let ha = c.actor_in in
    let some = c.queued in
    let hv = v_32 m s a ha some in
    let from = head_from m s a ha some in
    let old = s.view_at (head m a) hv in
    let m₁ = with_queue (with_view m (head m a) (phased 5 (head_view m a))) a (left (queue m a)) in
    let s₁ = left_kept m s a ha some in
    let long = s.sized.views in
    let now : (view m₁ (head m a)).phase ≡ 5 = ap (λ (x : View). x.phase) (get_or-set_same m.views (head m a) (phased 5 (head_view m a)) no_view (omega arith)) in
    repair_write m₁ s₁ (head m a) hv (asked_repair (repair m (head m a)) (head_view m a))
    (pick_case (RepairSlot m.stores (view m₁ (head m a)).phase) (head_view m a).changed _ _
    (λ e. record { settled = λ f. now; destination_in = λ f. old.viewlink_in from; own_in = λ f. old.store_in from; blank = λ f. absurd (true≢false f) })
    (λ e. s₁.repair_at (head m a) hv))
