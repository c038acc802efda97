-- The views, queues and messages of an unbroken machine are written: what has to be shown of each view that changes.
-- Assumes nothing.
use Prim.Native.Nat.{ℕ, ◌-◌, ◌≤◌, ◌<◌}
use mathlib.Core.Path.{◌≡◌, refl, sym, ap, subst, ◌∙◌}
use mathlib.Core.Logic.{◌≢◌}
use mathlib.Core.Bool.{true}
use mathlib.Core.List.{List}
use native.Mathlib.Omega.{arith}
use lib.ListN.{length, get_or, set, length-set}
use lib.Seq.{get_or-set_same, get_or-set_other}
use Rattle.std.proofs.Common.{rules}
use Rattle.protocol.specs.Words.{times}
use Rattle.protocol.specs.Slots.{number, no_view, standing}
use Rattle.protocol.specs.Slots.{view, queue, message, repair, entry, record_copies, ack_copies, contents, cause_links, owes_ack}
use Rattle.protocol.specs.Sweep.{has_contents}
use Rattle.protocol.specs.Writes.{with_made, with_views, with_queues, with_messages}
use Rattle.unbroken.specs.Unbroken.{Sized, ViewSlot, QueueSlot, MessageSlot, RepairSlot, EntrySlot, CopySlot, ContentsSlot, LinksSlot, RowSlot, Unbroken}
use Rattle.protocol.specs.declared.State.{State}
use Rattle.protocol.specs.declared.View.{View}
use Rattle.protocol.specs.declared.Queue.{Queue}
use Rattle.protocol.specs.declared.Message.{Message}

-- all that is asked of a view v with the record w, beside its queue and message
pub record Job (m : State) (made sender v : ℕ) (w : View) : Type 0 where
  pub view_slot : ViewSlot m.stores m.actors made sender v w
  pub repair_slot : RepairSlot m.stores w.phase (repair m v)
  pub entry_slot : EntrySlot m.stores w.phase (entry m v)
  pub record_slot : (p : ℕ) → p < 8 → CopySlot m.stores p 2 w.phase (record_copies m p v)
  pub ack_slot : (p : ℕ) → p < 8 → CopySlot m.stores p 2 w.phase (ack_copies m p v)
  pub contents_slot : (p : ℕ) → p < 8 → ContentsSlot m.stores p (has_contents m p v) w (contents m p v)
  pub links_slot : (p k : ℕ) → p < 8 → k < 16 → v ≡ number k 0 → LinksSlot (has_contents m p v) w.links (cause_links m p k)
  pub ack_owed : (p : ℕ) → p < 8 → owes_ack m p v ≡ true → 2 ≤ w.phase

abbrev pub jobs_of : State → ℕ → List View → List Queue → List Message → State
jobs_of m made views queues messages = with_made (with_messages (with_queues (with_views m views) queues) messages) made

-- a row of viewlinks, with as many interactions or more
more_made : {stores made made' p : ℕ} {row : List ℕ} → made ≤ made' → RowSlot stores made p row → RowSlot stores made' p row
more_made e f = search rules

module _ (m : State) (s : Unbroken m) where
  -- an unbroken machine's views have it all
  pub job_at : (v : ℕ) → v < 32 → Job m m.made (view m (v - 1)).actor v (view m v)
  job_at v e = search rules

  module _ (made : ℕ) (views : List View) (queues : List Queue) (messages : List Message) where
    abbrev m' : State
    m' = jobs_of m made views queues messages

    pub jobs_kept : length views ≡ 32 → length queues ≡ 8 → length messages ≡ 16 → made ≤ 16 → m.made ≤ made
        → ((v : ℕ) → v < 32 → Job m made (view m' (v - 1)).actor v (view m' v))
        → ((v : ℕ) → v < 32 → 1 ≤ (view m' v).phase → (view m' v).phase ≤ 4 → times v (standing (queue m' (view m' v).actor)) ≡ 1)
        → ((a : ℕ) → a < 8 → QueueSlot m.actors views a (queue m' a))
        → ((k : ℕ) → k < 16 → MessageSlot m.stores made (view m' (number k 1)).phase k (message m' k))
        → Unbroken m'
    jobs_kept lv lq lm few more jobs once queued sent =
        let z : Sized m' = search s.sized in
        record {
          sized = z;
          made16 = few;
          setup = s.setup;
          home_blank = s.home_blank;
          list_blank = s.list_blank;
          view_at = λ v h. (jobs v h).view_slot;
          queued_once = once;
          queue_at = queued;
          message_at = sent;
          repair_at = λ v h. (jobs v h).repair_slot;
          entry_at = λ v h. (jobs v h).entry_slot;
          record_at = λ p v hp h. (jobs v h).record_slot p hp;
          ack_at = λ p v hp h. (jobs v h).ack_slot p hp;
          update_at = s.update_at;
          uack_at = s.uack_at;
          contents_at = λ p v hp h. (jobs v h).contents_slot p hp;
          links_at = λ p k hp hk. (jobs (number k 0) (omega arith)).links_slot p k hp hk refl;
          store_at = λ p hp.
              let o = s.store_at p hp in
              record {
                up_blank = o.up_blank;
                held_blank = o.held_blank;
                kept_blank = o.kept_blank;
                acks_blank = o.acks_blank;
                uacks_blank = o.uacks_blank;
                working = more_made more o.working;
                checkpointed = more_made more o.checkpointed;
              };
          ack_owed = λ p v hp h. (jobs v h).ack_owed p hp;
          uack_owed = s.uack_owed;
        }

  -- one view is written, and keeps its actor
  module _ (v : ℕ) (h : v < 32) (w : View) (actor : w.actor ≡ (view m v).actor) where
    abbrev views' : List View
    views' = set m.views v w

    pub read_same : get_or views' v no_view ≡ w
    read_same = let long = s.sized.views in get_or-set_same m.views v w no_view (omega arith)

    pub read_view : (P : ℕ → View → Type 0) (u : ℕ) → P v w → (u ≢ v → P u (view m u)) → P u (get_or views' u no_view)
    read_view P u e f = grind (arith, read_same, get_or-set_other)

    pub actor_same : (u : ℕ) → (get_or views' u no_view).actor ≡ (view m u).actor
    actor_same u = read_view (λ n x. x.actor ≡ (view m n).actor) u actor (λ n. refl)

    pub one_job : Job m m.made (view m (v - 1)).actor v w → (u : ℕ) → u < 32 → Job m m.made (get_or views' (u - 1) no_view).actor u (get_or views' u no_view)
    one_job j u hu =
        subst (λ (a : ℕ). Job m m.made a u (get_or views' u no_view)) (sym (actor_same (u - 1)))
        (read_view (λ n x. n < 32 → Job m m.made (view m (n - 1)).actor n x) u (λ b. j) (λ n. job_at u) hu)

    pub views_long : length views' ≡ 32
    views_long = length-set m.views v w ∙ s.sized.views

    -- a receiver that was received before and is after: nothing of its message changes
    pub message_same : 1 ≤ (view m v).phase → 1 ≤ w.phase → (k : ℕ) → k < 16 → MessageSlot m.stores m.made (get_or views' (number k 1) no_view).phase k (message m k)
    message_same old now k hk =
        read_view (λ n x. n ≡ number k 1 → MessageSlot m.stores m.made x.phase k (message m k)) (number k 1)
        (λ e.
        let g = s.message_at k hk in
        let q : (view m (number k 1)).phase ≡ (view m v).phase = ap (λ (n : ℕ). (view m n).phase) (sym e) in
        record {
          key_made = g.key_made;
          unreceived = λ f. let y = g.unreceived f in absurd (omega arith);
          own_in = g.own_in;
          sent = λ b y. absurd (omega arith);
          blank = g.blank;
        })
        (λ n e. s.message_at k hk) refl
