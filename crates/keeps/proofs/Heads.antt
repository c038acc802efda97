-- The head of a queue: it is a view of this actor in a phase from 1 to 4, and stands nowhere else. It moves on within its phases,
-- or leaves. Assumes nothing.
use Prim.Native.Nat.{ℕ, ◌*◌, ◌-◌, ◌≤◌, ◌<◌}
use mathlib.Core.Path.{◌≡◌, refl, sym, ap, subst, ◌∙◌}
use mathlib.Core.Logic.{◌≢◌}
use mathlib.Core.List.{List}
use native.Mathlib.Omega.{arith}
use lib.ListN.{get_or, set}
use Rattle.std.proofs.Common.{rules}
use Rattle.protocol.specs.Words.{times}
use Rattle.protocol.specs.Slots.{no_view, standing, view, queue}
use Rattle.protocol.specs.Writes.{with_view}
use Rattle.unbroken.specs.Unbroken.{ViewSlot, QueueSlot, Unbroken}
use Rattle.protocol.specs.declared.State.{State}
use Rattle.protocol.specs.declared.View.{View}
use Rattle.unbroken.proofs.Laws.Counting.{times_two}
use Rattle.unbroken.proofs.Laws.Room.{actors8, view_32, made_view_holds, standing_long, standing_at}
use Rattle.protocol.specs.Rule.{head, head_view}
use Rattle.keeps.proofs.Jobs.{Job, job_at, jobs_kept, read_view, actor_same, one_job, views_long, message_same}

-- a view that a store may hold has gone on, and says what it said
abbrev pub GoesOn : View → View → Type 0
GoesOn o w = (2 ≤ w.phase) × (w.actor ≡ o.actor) × (w.causes ≡ o.causes) × (w.word ≡ o.word) × (w.links ≡ o.links)

-- a view in phases 0 to 4 goes on: in phases 0 and 1 no store holds it, so that it may be another
module _ (m : State) (s : Unbroken m) (v : ℕ) (h : v < 32) (old : (view m v).phase ≤ 4) (made sender : ℕ) (w : View) where
  pub moved_job_holds : ViewSlot m.stores m.actors made sender v w → (2 ≤ (view m v).phase → GoesOn (view m v) w) → Job m made sender v w
  moved_job_holds x on =
      let o = job_at m s v h in
      let settled : (view m v).phase ≡ 5 → ⊥ = λ e. omega arith in
      record {
        view_slot = x;
        repair_slot = (let r = o.repair_slot in record {
          settled = λ f. absurd (settled (r.settled f));
          destination_in = r.destination_in;
          own_in = r.own_in;
          blank = r.blank;
        });
        entry_slot = (let r = o.entry_slot in record {
          settled = λ f. absurd (settled (r.settled f));
          destination_in = r.destination_in;
          own_in = r.own_in;
          blank = r.blank;
        });
        record_slot = λ p hp. let r = o.record_slot p hp in record { copies15 = r.copies15; at_store = r.at_store; at_view = λ b. (on (r.at_view b)).0 };
        ack_slot = λ p hp. let r = o.ack_slot p hp in record { copies15 = r.copies15; at_store = r.at_store; at_view = λ b. (on (r.at_view b)).0 };
        contents_slot = λ p hp. let r = o.contents_slot p hp in record {
          at_store = r.at_store;
          ready = λ e. (on (r.ready e)).0;
          same_actor = λ e. r.same_actor e ∙ sym (on (r.ready e)).1;
          same_causes = λ e. r.same_causes e ∙ sym (on (r.ready e)).2;
          same_word = λ e. r.same_word e ∙ sym (on (r.ready e)).3;
          blank = r.blank;
        };
        links_slot = λ p k hp hk e. let r = o.links_slot p k hp hk e in record {
          long = r.long;
          same_links = λ j b f. r.same_links j b f ∙ ap (λ (l : List ℕ). get_or l j 0) (sym (on ((o.contents_slot p hp).ready f)).4);
          links_blank = r.links_blank;
        };
        ack_owed = λ p hp e. (on (o.ack_owed p hp e)).0;
      }

module _ (m : State) (s : Unbroken m) (a : ℕ) (ha : a < m.actors) (some : 1 ≤ (queue m a).len) where
  pub actor_8 : a < 8
  actor_8 = let t = actors8 m s in omega arith

  pub head_own : (head_view m a).actor ≡ a
  head_own = (s.queue_at a actor_8).stands_own 0 some

  pub head_from : 1 ≤ (head_view m a).phase
  head_from = (s.queue_at a actor_8).stands_from 0 some

  pub head_to : (head_view m a).phase ≤ 4
  head_to = (s.queue_at a actor_8).stands_to 0 some

  pub head_32 : head m a < 32
  head_32 = view_32 m s (head m a) head_from

  pub head_made : head m a < m.made * 2
  head_made = made_view_holds m s (head m a) head_from

  head_once : times (head m a) (standing (queue m a)) ≡ 1
  head_once = subst (λ (b : ℕ). times (head m a) (standing (queue m b)) ≡ 1) head_own (s.queued_once (head m a) head_32 head_from head_to)

  -- the head stands in its own queue only
  pub head_elsewhere : (b i : ℕ) → b < 8 → i < (queue m b).len → get_or (queue m b).views i 0 ≡ head m a → b ≡ a
  head_elsewhere b i hb hi e = sym ((s.queue_at b hb).stands_own i hi) ∙ ap (λ (n : ℕ). (view m n).actor) e ∙ head_own

  -- .. and not behind itself
  pub head_behind : (i : ℕ) → i < (queue m a).len → 1 ≤ i → get_or (queue m a).views i 0 ≢ head m a
  head_behind i e f = search (rules, standing_long, actor_8, times_two, standing_at, head_once)

  pub behind_elsewhere : (b i : ℕ) → b < 8 → i < (queue m b).len → 1 ≤ i → get_or (queue m b).views i 0 ≢ head m a
  behind_elsewhere b i e f g = search (rules, head_elsewhere, head_behind)

  -- the head moves on within phases 1 to 4
  module _ (w : View) (actor : w.actor ≡ (head_view m a).actor) (from : 1 ≤ w.phase) (to : w.phase ≤ 4) where
    stays : (b : ℕ) → b < 8 → QueueSlot m.actors (set m.views (head m a) w) b (queue m b)
    stays b hb =
        let q = s.queue_at b hb in
        let at = read_view m s (head m a) head_32 w actor in
        record {
          long = q.long;
          len16 = q.len16;
          len_blank = q.len_blank;
          stands_own = λ i hi. actor_same m s (head m a) head_32 w actor (get_or (queue m b).views i 0) ∙ q.stands_own i hi;
          stands_from = λ i hi. at (λ n x. 1 ≤ x.phase) (get_or (queue m b).views i 0) from (λ n. q.stands_from i hi);
          stands_to = λ i hi. at (λ n x. x.phase ≤ 4) (get_or (queue m b).views i 0) to (λ n. q.stands_to i hi);
          behind = λ i hi pos.
              at (λ n x. n ≡ get_or (queue m b).views i 0 → x.phase ≡ 1) (get_or (queue m b).views i 0)
              (λ e. absurd (behind_elsewhere b i hb hi pos (sym e))) (λ n e. q.behind i hi pos) refl;
          place_blank = q.place_blank;
        }

    once : (u : ℕ) → u < 32 → 1 ≤ (get_or (set m.views (head m a) w) u no_view).phase → (get_or (set m.views (head m a) w) u no_view).phase ≤ 4
        → times u (standing (queue m (get_or (set m.views (head m a) w) u no_view).actor)) ≡ 1
    once u hu =
        read_view m s (head m a) head_32 w actor (λ n x. n < 32 → 1 ≤ x.phase → x.phase ≤ 4 → times n (standing (queue m x.actor)) ≡ 1) u
        (λ b c d. subst (λ (n : ℕ). times (head m a) (standing (queue m n)) ≡ 1) (sym (actor ∙ head_own)) head_once)
        (λ n. s.queued_once u) hu

    pub head_write : Job m m.made (view m (head m a - 1)).actor (head m a) w → Unbroken (with_view m (head m a) w)
    head_write e = search (rules, jobs_kept, views_long, head_32, one_job, once, stays, message_same, head_from)
