-- Whoever stands ahead of another in a queue still does after a step, unless it is settled: by cases on a change. Assumes nothing.
use mathlib.Core.Path.{◌≡◌, refl, sym, ap, ◌∙◌, subst}
use mathlib.Core.Logic.{◌≢◌}
use mathlib.Core.Bool.{false}
use mathlib.Core.List.{List, [], ◌∷◌, ◌++◌}
use Prim.Native.Nat.{ℕ, ◌+◌, ◌-◌, ◌≤◌, ◌<◌}
use native.Mathlib.Omega.{arith}
use native.Mathlib.Numerals.{add-one}
use native.Mathlib.Decide.{ℕ_discrete}
use lib.ListN.{length, get_or, set, take, drop}
use lib.Seq.{get_or-set_same, get_or-set_other, take-suc-set, take-append-le}
use Rattle.protocol.specs.Slots.{number, queue, standing, view, no_view, no_queue}
use Rattle.protocol.specs.Broken.{broken_of}
use Rattle.unbroken.specs.Unbroken.{Unbroken}
use Rattle.unbroken.specs.Bounds.{Bounds}
use Rattle.unbroken.proofs.Laws.{whole, bounds}
use Rattle.unbroken.proofs.Laws.Room.{made_view_holds}
use Rattle.protocol.specs.declared.State.{State}
use Rattle.protocol.specs.declared.View.{View}
use Rattle.protocol.specs.declared.Queue.{Queue}
use Rattle.protocol.specs.Views.{phased}
use Rattle.protocol.specs.Rule.{head, head_view}
use Rattle.protocol.specs.Send.{sent, joined}
use Rattle.protocol.specs.Receive.{received_of}
use Rattle.protocol.specs.PostCheck.{post_checked, left}
use Rattle.protocol.specs.TakeRepair.{repair_taken}
use Rattle.protocol.specs.Sweep.{swept}
use Rattle.protocol.specs.Crash.{crashed}
use Rattle.protocol.specs.Restart.{restarted}
use Rattle.protocol.specs.Checkpoint.{checkpointed}
use Rattle.protocol.specs.Step.{number_of, after_of}
use Rattle.protocol.specs.declared.Step.{Step}
use Rattle.keeps.specs.Change.{Change, on_send, on_receive, on_head, on_settle, on_flight, on_taken, on_updated, on_status, on_repair, on_crash, on_restart, on_checkpoint}
use Rattle.keeps.proofs.Changes.{taken_related}
use Rattle.keeps.proofs.Onward.{change_onward}
use Rattle.guarantees.proofs.Heads.{Headed, headed}
use Rattle.guarantees.proofs.Causes.{Ahead, ahead_longer, ahead_shorter}

-- what a change makes of a queue: nothing, a view at its end, or its head gone
data Line (m n : State) (a : ℕ) : Type 0 where
  same : standing (queue n a) ≡ standing (queue m a) → Line m n a
  longer : (v : ℕ) → standing (queue n a) ≡ standing (queue m a) ++ (v ∷ []) → Line m n a
  shorter : standing (queue m a) ≡ head m a ∷ standing (queue n a) → (view n (head m a)).phase ≡ 5 → Line m n a

-- a view joins: it stands at the end
pub joined_stands : (q : Queue) (v : ℕ) → length q.views ≡ 16 → q.len < 16 → standing (joined q v) ≡ standing q ++ (v ∷ [])
joined_stands q v e h = rw add-one (take-suc-set q.views q.len v (omega arith))

-- the head leaves: it stood first
tail_stands : (l : List ℕ) (n : ℕ) → n < length l → take (n + 1) l ≡ get_or l 0 0 ∷ take n (drop 1 l ++ (0 ∷ []))
tail_stands [] n h = absurd (let z : ⊥ = omega arith in z)
tail_stands (x ∷ xs) n h = rw (add-one, take-append-le n xs (0 ∷ []) (omega arith))

left_stands : (q : Queue) → length q.views ≡ 16 → 0 < q.len → q.len ≤ 16 → standing q ≡ get_or q.views 0 0 ∷ standing (left q)
left_stands q e h f = let x : q.len ≡ (q.len - 1) + 1 = omega arith in ap (λ (n : ℕ). take n q.views) x ∙ tail_stands q.views (q.len - 1) (omega arith)

lines : (m n : State) → Unbroken m → Bounds m → (a : ℕ) → a < 8 → Change m n → Line m n a
unfolding sent received_of post_checked repair_taken swept crashed restarted checkpointed
lines m n u b a ha (on_send from to own word causes t) = go (ℕ_discrete a from)
  where
    go : Dec (a ≡ from) → Line m (sent m from to own word causes) a
    go (yes x) =
        let g : standing (get_or (set m.queues from (joined (queue m from) (number m.made 0))) from no_queue) ≡ standing (joined (queue m from) (number m.made 0)) = ap standing (get_or-set_same m.queues from (joined (queue m from) (number m.made 0)) no_queue (omega (arith, u.sized.queues))) in
        longer (number m.made 0) (rw x (g ∙ joined_stands (queue m from) (number m.made 0) (u.queue_at from (omega arith)).long (b.send_room from (omega arith) t.room)))
    go (no x) = same (ap standing (get_or-set_other m.queues from a (joined (queue m from) (number m.made 0)) no_queue x))
lines m n u b a ha (on_receive k t) = go (ℕ_discrete a (view m (number k 1)).actor)
  where
    go : Dec (a ≡ (view m (number k 1)).actor) → Line m (received_of m k) a
    go (yes x) =
        let i = (view m (number k 1)).actor in
        let g : standing (get_or (set m.queues i (joined (queue m i) (number k 1))) i no_queue) ≡ standing (joined (queue m i) (number k 1)) = ap standing (get_or-set_same m.queues i (joined (queue m i) (number k 1)) no_queue (omega (arith, u.sized.queues))) in
        longer (number k 1) (rw x (g ∙ joined_stands (queue m i) (number k 1) (u.queue_at i (omega arith)).long (b.receive_room k t.key_in t.unreceived)))
    go (no x) = same (ap standing (get_or-set_other m.queues (view m (number k 1)).actor a (joined (queue m (view m (number k 1)).actor) (number k 1)) no_queue x))
lines m n u b a ha (on_head i w h) = same refl
lines m n u b a ha (on_settle i h) = go (ℕ_discrete a i) (headed m u i 4 h)
  where
    go : Dec (a ≡ i) → Headed m i 4 → Line m (post_checked m i) a
    go (yes x) g =
        let l : standing (get_or (set m.queues i (left (queue m i))) i no_queue) ≡ standing (left (queue m i)) = ap standing (get_or-set_same m.queues i (left (queue m i)) no_queue (omega (arith, u.sized.queues))) in
        shorter (rw x (left_stands (queue m i) (u.queue_at i (omega arith)).long g.some (u.queue_at i (omega arith)).len16 ∙ ap (λ (y : List ℕ). head m i ∷ y) (sym l)))
        (rw (x, get_or-set_same m.views (head m i) (phased 5 (head_view m i)) no_view (omega (arith, u.sized.views, u.made16, g.made))))
    go (no x) g = same (ap standing (get_or-set_other m.queues i a (left (queue m i)) no_queue x))
lines m n u b a ha (on_flight records acks updates uacks f) = same refl
lines m n u b a ha (on_taken p k r o c) = same refl
lines m n u b a ha (on_updated p k r o c) = same refl
lines m n u b a ha (on_status k r t o c) = same refl
lines m n u b a ha (on_repair k r c) = same refl
lines m n u b a ha (on_crash p h) = same refl
lines m n u b a ha (on_restart p h) = same refl
lines m n u b a ha (on_checkpoint p h up) = same refl

-- the queues after: who is settled stays so, and whoever stands ahead still does, unless it is settled
record Lined (m n : State) : Type 0 where
  settled : (v : ℕ) → (view m v).phase ≡ 5 → (view n v).phase ≡ 5
  ahead : (a x y : ℕ) → a < 8 → Ahead x y (standing (queue m a)) → (view n x).phase ≢ 5 → Ahead x y (standing (queue n a))

still_ahead : (m n : State) (x y a : ℕ) → Line m n a → Ahead x y (standing (queue m a)) → (view n x).phase ≢ 5 → Ahead x y (standing (queue n a))
still_ahead m n x y a (same e) h f = subst (Ahead x y) (sym e) h
still_ahead m n x y a (longer v e) h f = subst (Ahead x y) (sym e) (ahead_longer x y v (standing (queue m a)) h)
still_ahead m n x y a (shorter e g) h f =
    ahead_shorter x y (head m a) (standing (queue n a)) (λ d. f (ap (λ (z : ℕ). (view n z).phase) d ∙ g)) (subst (Ahead x y) e h)

lined : (m n : State) → Unbroken m → Change m n → Lined m n
lined m n u c =
    record {
      settled = λ v e. ap (λ (w : View). w.phase) (((change_onward m n u c).views v (made_view_holds m u v (omega arith))).settled e) ∙ e;
      ahead = λ a x y ha. still_ahead m n x y a (lines m n u (bounds m (whole m u)) a ha c);
    }

taken_lined : (m : State) (s : Step) → broken_of m ≡ false → number_of m s ≡ 0 → Lined m (after_of m s)
taken_lined =
    taken_related Lined (λ m. record { settled = λ v e. e; ahead = λ a x y ha h f. h })
    (λ m n o b c. record { settled = λ v e. c.settled v (b.settled v e); ahead = λ a x y ha h f. c.ahead a x y ha (b.ahead a x y ha h (λ e. f (c.settled x e))) f })
    lined

pub stays_ahead : (m : State) → broken_of m ≡ false → (s : Step) → number_of m s ≡ 0 → (a x y : ℕ) → a < 8 → Ahead x y (standing (queue m a)) → (view (after_of m s) x).phase ≢ 5 → Ahead x y (standing (queue (after_of m s) a))
stays_ahead m e s z = (taken_lined m s e z).ahead
