-- What an interaction's records say is what was sent, the receiver's from the message on: each step keeps it, a send begins it.
-- Assumes nothing.
use mathlib.Core.Path.{◌≡◌, refl, sym, ap, ◌∙◌, subst}
use mathlib.Core.Logic.{◌≢◌}
use mathlib.Core.Bool.{Bool, true, false}
use mathlib.Core.List.{List, [], ◌∷◌, ◌++◌}
use Prim.Native.Nat.{ℕ, suc, ◌+◌, ◌-◌, ◌≤◌, ◌<◌}
use native.Mathlib.Omega.{arith}
use native.Mathlib.Decide.{ℕ_discrete}
use borrow.Author.Tests.{eq-eqb, ne_eqb}
use lib.Dec.{eqb}
use lib.ListN.{length, get_or}
use lib.Seq.{get_or-set_same, get_or-set_other}
use Rattle.protocol.specs.Words.{pick}
use Rattle.protocol.specs.Slots.{number, view, message, no_view, no_message}
use Rattle.protocol.specs.Setup.{fresh_with}
use Rattle.unbroken.specs.Unbroken.{Unbroken}
use Rattle.protocol.specs.declared.State.{State}
use Rattle.protocol.specs.declared.View.{View}
use Rattle.protocol.specs.declared.Message.{Message}
use Rattle.protocol.specs.declared.Setup.{Setup}
use Rattle.protocol.specs.Outcome.{Outcome}
use Rattle.unbroken.proofs.Laws.{unbroken}
use Rattle.unbroken.proofs.Laws.Has.{has_kept}
use Rattle.unbroken.proofs.Laws.Room.{sender_made_holds}
use Rattle.protocol.specs.Send.{sent}
use Rattle.protocol.specs.Receive.{received_of, received_view}
use Rattle.protocol.specs.PostCheck.{post_checked}
use Rattle.protocol.specs.TakeRepair.{repair_taken}
use Rattle.protocol.specs.Sweep.{swept}
use Rattle.protocol.specs.Crash.{crashed}
use Rattle.protocol.specs.Restart.{restarted}
use Rattle.protocol.specs.Checkpoint.{checkpointed}
use Rattle.protocol.specs.Step.{number_of, after_of, step_of}
use Rattle.protocol.specs.declared.Step.{Step}
use Rattle.protocol.specs.declared.Step.TheVariants.{Send}
use Rattle.protocol.specs.Run.{ran, fresh_of}
use Rattle.keeps.specs.Laws.{made_by}
use Rattle.keeps.specs.Onward.{ViewOn, Onward}
use Rattle.keeps.specs.Change.{Change, on_send, on_receive, on_head, on_settle, on_flight, on_taken, on_updated, on_status, on_repair, on_crash, on_restart, on_checkpoint}
use Rattle.keeps.proofs.Changes.{step_related}
use Rattle.keeps.proofs.Conditions.{taken_when, when_taken}
use Rattle.keeps.proofs.Laws.{taken_gives, refused_gives, made_counts}
use Rattle.keeps.proofs.Onward.{still, after as after_both, change_onward, step_onward}
use Rattle.guarantees.specs.Acknowledged.{Legal, after}
use Rattle.guarantees.specs.Sent.{Said, nothing_said, said_by, sends, sent_as}
use Rattle.keeps.proofs.Which.{Kind, a_send, another, kinds}
use Rattle.guarantees.proofs.Local.{none}
use Rattle.guarantees.proofs.Turns.{Turn, stays, received, checked, sends as sends_on, timed, acked, settled, turns}
use Rattle.guarantees.proofs.Reached.{Reached, new_sender, new_receiver}
use Rattle.guarantees.proofs.Steps.{by_step, step_reached}
use Rattle.guarantees.specs.Guarantees.{AsSent}
use Rattle.guarantees.proofs.Demand.{fresh_reached, reached, acked_at, acked_on}
use Rattle.reads.proofs.Some.{ran_append}

-- what the two records say, and the message until it is received
pub record Told (m : State) (k : ℕ) (x : Said) : Type 0 where
  pub from : (view m (number k 0)).actor ≡ x.from
  pub to : (view m (number k 1)).actor ≡ x.to
  pub word : (view m (number k 0)).word ≡ x.word
  pub causes : (view m (number k 0)).causes ≡ x.causes
  pub flying : (view m (number k 1)).phase ≡ 0 → (message m k).word ≡ x.word
  pub heard : 1 ≤ (view m (number k 1)).phase → (view m (number k 1)).word ≡ x.word

-- the message of an interaction that is there stays, while its receipt is awaited: by cases on a change
record Posted (m n : State) : Type 0 where
  onward : Onward m n
  left : (k : ℕ) → k < m.made → (view n (number k 1)).phase ≡ 0 → message n k ≡ message m k

posted : (m n : State) → Unbroken m → Change m n → (k : ℕ) → k < m.made → (view n (number k 1)).phase ≡ 0 → message n k ≡ message m k
unfolding sent received_of post_checked repair_taken swept crashed restarted checkpointed
posted m n u (on_send from to own word causes t) k hk z =
    get_or-set_other m.messages m.made k (record { flying = true; own = own; word = word }) no_message (λ e. let y : ⊥ = omega arith in y)
posted m n u (on_receive i t) k hk z = go (ℕ_discrete k i)
  where
    go : Dec (k ≡ i) → message (received_of m i) k ≡ message m k
    go (yes e) =
        let now = get_or-set_same m.views (number i 1) (received_view m i) no_view (omega (arith, u.made16, u.sized.views, t.key_in)) in
        absurd (let y : ◌≡◌ {A = ℕ} 1 0 = sym (ap (λ (w : View). w.phase) now) ∙ (ap (λ (x : ℕ). (view (received_of m i) (number x 1)).phase) (sym e) ∙ z) in omega arith)
    go (no f) = get_or-set_other m.messages i k no_message no_message f
posted m n u (on_head a w h) k hk z = refl
posted m n u (on_settle a h) k hk z = refl
posted m n u (on_flight records acks updates uacks f) k hk z = refl
posted m n u (on_taken p i r o c) k hk z = refl
posted m n u (on_updated p i r o c) k hk z = refl
posted m n u (on_status i r t o c) k hk z = refl
posted m n u (on_repair i r c) k hk z = refl
posted m n u (on_crash p h) k hk z = refl
posted m n u (on_restart p h) k hk z = refl
posted m n u (on_checkpoint p h up) k hk z = refl

awaited : (m n : State) → Onward m n → (k : ℕ) → k < m.made → (view n (number k 1)).phase ≡ 0 → (view m (number k 1)).phase ≡ 0
awaited m n on k hk z = none (λ h. omega (arith, (on.views (number k 1) (omega arith)).phase 1 (λ e. omega arith) h))

stays_posted : (m : State) (s : Step) → Posted m (step_of m s).state
stays_posted =
    step_related Posted (λ m. record { onward = still m; left = λ k hk z. refl })
    (λ m n o a b. record {
      onward = after_both m n o a.onward b.onward;
      left = λ k hk z.
          let more = a.onward.made in
          let h : k < n.made = omega arith in
          b.left k h z ∙ a.left k hk (awaited n o b.onward k h z);
    })
    (λ m n u c. record { onward = change_onward m n u c; left = posted m n u c })

module _ (m : State) (c : Reached m) where
  u : Unbroken m
  u = unbroken m c.fine

  module _ (s : Step) (k : ℕ) (h : k < m.made) where
    -- the message stays while the receipt is awaited
    unread : (view (step_of m s).state (number k 1)).phase ≡ 0 → message (step_of m s).state k ≡ message m k
    unread = (stays_posted m s).left k h

    -- when it is received, its word is the record's
    hears : (view m (number k 1)).phase ≡ 0 → 1 ≤ (view (step_of m s).state (number k 1)).phase → (view (step_of m s).state (number k 1)).word ≡ (message m k).word
    hears e f = turn (view (step_of m s).state (number k 1)) (by_step (λ n. Turn m s (number k 1) (view n (number k 1))) m s c.fine stays (λ z. turns m u (number k 1) (omega arith) s z)) f
      where
        turn : (w : View) → Turn m s (number k 1) w → 1 ≤ w.phase → w.word ≡ (message m k).word
        turn w stays g = absurd (let z : ⊥ = omega arith in z)
        turn w (received i x y) g = let z : i ≡ k = omega arith in ap (λ (j : ℕ). (message m j).word) z
        turn w (checked x y) g = absurd (let z : ⊥ = omega arith in z)
        turn w (sends_on x) g = absurd (let z : ⊥ = omega arith in z)
        turn w (timed p x) g = absurd (let z : ⊥ = omega arith in z)
        turn w (acked p i r x y z o) g = absurd (let q : ⊥ = omega arith in q)
        turn w (settled x y) g = absurd (let z : ⊥ = omega arith in z)

    pub stays_told : (x : Said) → Told m k x → Told (step_of m s).state k x
    stays_told x t =
        let a : ViewOn (view m (number k 0)) (view (step_of m s).state (number k 0)) = (step_onward m s).views (number k 0) (omega arith) in
        let b : ViewOn (view m (number k 1)) (view (step_of m s).state (number k 1)) = (step_onward m s).views (number k 1) (omega arith) in
        record {
          from = a.actor ∙ t.from;
          to = b.actor ∙ t.to;
          word = a.word (sender_made_holds m u k h) ∙ t.word;
          causes = a.causes (sender_made_holds m u k h) ∙ t.causes;
          flying = λ e. ap (λ (y : Message). y.word) (unread e) ∙ t.flying (before b e (ℕ_discrete (view m (number k 1)).phase 0));
          heard = λ e. after_all b e (ℕ_discrete (view m (number k 1)).phase 0);
        }
      where
        before : ViewOn (view m (number k 1)) (view (step_of m s).state (number k 1)) → (view (step_of m s).state (number k 1)).phase ≡ 0 → Dec ((view m (number k 1)).phase ≡ 0) → (view m (number k 1)).phase ≡ 0
        before b e (yes z) = z
        before b e (no n) = absurd (omega (arith, b.phase 1 (λ q. omega arith) (omega arith)))

        after_all : ViewOn (view m (number k 1)) (view (step_of m s).state (number k 1)) → 1 ≤ (view (step_of m s).state (number k 1)).phase → Dec ((view m (number k 1)).phase ≡ 0) → (view (step_of m s).state (number k 1)).word ≡ x.word
        after_all b e (yes z) = hears z e ∙ t.flying z
        after_all b e (no n) = b.word (omega arith) ∙ t.heard (omega arith)

-- one step: nothing is sent, or a send is taken whose interaction comes next
data Sending (m : State) (s : Step) : Type 0 where
  nothing : (step_of m s).state.made ≡ m.made → pick (eqb (step_of m s).answer 0) (said_by s) [] ≡ [] → Sending m s
  says : (x : Said) → (step_of m s).state.made ≡ m.made + 1 → pick (eqb (step_of m s).answer 0) (said_by s) [] ≡ x ∷ []
      → Told (step_of m s).state m.made x → Sending m s

none_said : (s : Step) → said_by s ≡ [] → (b : Bool) → pick b (said_by s) [] ≡ []
none_said s e true = e
none_said s e false = refl

module _ (m : State) (c : Reached m) where
  begins : (from to own word causes : ℕ) → number_of m (Send from to own word causes) ≡ 0
      → Told (sent m from to own word causes) m.made (record { from = from; to = to; own = own; word = word; causes = causes })
  unfolding sent
  begins from to own word causes e =
      let room = (taken_when m (Send from to own word causes) e).room in
      let a = new_sender m c from to own word causes room in
      let b = new_receiver m c from to own word causes room in
      record {
        from = ap (λ (w : View). w.actor) a;
        to = ap (λ (w : View). w.actor) b;
        word = ap (λ (w : View). w.word) a;
        causes = ap (λ (w : View). w.causes) a;
        flying = λ z. ap (λ (y : Message). y.word) (flies room);
        heard = λ z. absurd (omega (arith, ap (λ (w : View). w.phase) b));
      }
    where
      flies : m.made < 16 → message (sent m from to own word causes) m.made ≡ record { flying = true; own = own; word = word }
      flies room = get_or-set_same m.messages m.made (record { flying = true; own = own; word = word }) no_message (omega (arith, (unbroken m c.fine).sized.messages))

  taken : (s : Step) → number_of m s ≡ 0 → Kind s → Sending m s
  taken s e (a_send from to own word causes x) =
      let y = taken_gives m s c.fine (taken_when m s e) in
      let z = ap (λ (a : Outcome). a.answer) y in
      let n : Said = record { from = from; to = to; own = own; word = word; causes = causes } in
      says n (ap (λ (a : Outcome). a.state.made) y ∙ made_counts m s ∙ ap (made_by m) x) (rw (eq-eqb (step_of m s).answer 0 z, x))
      (subst (λ (a : Outcome). Told a.state m.made n) (sym y) (subst (λ (i : Step). Told (after_of m i) m.made n) (sym x) (begins from to own word causes (rw x at e))))
  taken s e (another o) =
      nothing (ap (λ (a : Outcome). a.state.made) (taken_gives m s c.fine (taken_when m s e)) ∙ o.made m) (none_said s (rw o.other) (eqb (step_of m s).answer 0))

  sending : (s : Step) → Sending m s
  sending s = go (ℕ_discrete (number_of m s) 0)
    where
      go : Dec (number_of m s ≡ 0) → Sending m s
      go (yes e) = taken s e (kinds s)
      go (no n) =
          let x = (refused_gives m s c.fine (λ t. n (when_taken m s t))).1 in
          let y : (step_of m s).answer ≢ 0 = λ z. n (sym (ap (λ (a : Outcome). a.answer) x) ∙ z) in
          nothing (ap (λ (a : Outcome). a.state.made) x) (rw (ne_eqb (step_of m s).answer 0 y))

front : (b : Bool) (l rest : List Said) → pick b (l ++ rest) rest ≡ pick b l [] ++ rest
front true l rest = refl
front false l rest = refl

-- a run from m keeps what its interactions say, and adds the later ones
pub record Sent (m : State) (steps : List Step) : Type 0 where
  pub old : (k : ℕ) (x : Said) → k < m.made → Told m k x → Told (ran m steps) k x
  pub new : (k : ℕ) → m.made ≤ k → k < (ran m steps).made → Told (ran m steps) k (get_or (sends m steps) (k - m.made) nothing_said)
  pub grown : m.made + length (sends m steps) ≡ (ran m steps).made

pub sent_run : (steps : List Step) (m : State) → Reached m → Sent m steps
unfolding ran sends
sent_run [] m c = record { old = λ k x h t. t; new = λ k h g. absurd (let z : ⊥ = omega arith in z); grown = omega arith }
sent_run (s ∷ steps) m c = go (sending m c s) (sent_run steps (step_of m s).state (step_reached m c s))
  where
    go : Sending m s → Sent (step_of m s).state steps → Sent m (s ∷ steps)
    go (nothing e f) r =
        let whole = front (eqb (step_of m s).answer 0) (said_by s) (sends (step_of m s).state steps) in
        record {
          old = λ k x h t. r.old k x (omega arith) (stays_told m c s k h x t);
          new = λ k h g.
              let z : k - m.made ≡ k - (step_of m s).state.made = omega arith in
              rw (whole, f, z) (r.new k (omega arith) g);
          grown = rw (whole, f) (omega (arith, r.grown));
        }
    go (says x e f v) r =
        let whole = front (eqb (step_of m s).answer 0) (said_by s) (sends (step_of m s).state steps) in
        record {
          old = λ k y h t. r.old k y (omega arith) (stays_told m c s k h y t);
          new = λ k h g. rw (whole, f) (at k h g (ℕ_discrete k m.made));
          grown = rw (whole, f) (omega (arith, r.grown));
        }
      where
        at : (k : ℕ) → m.made ≤ k → k < (ran (step_of m s).state steps).made → Dec (k ≡ m.made) → Told (ran (step_of m s).state steps) k (get_or (x ∷ sends (step_of m s).state steps) (k - m.made) nothing_said)
        at k h g (yes y) =
            let z : k - m.made ≡ 0 = omega arith in
            rw z (r.old k x (omega arith) (subst (λ (i : ℕ). Told (step_of m s).state i x) (sym y) v))
        at k h g (no y) =
            let z : k - m.made ≡ suc (k - (step_of m s).state.made) = omega arith in
            rw z (r.new k (omega arith) g)

module _ (u : Setup) (l : Legal u) (steps : List Step) where
  pub as_many : length (sends (fresh_of u) steps) ≡ (after u steps).made
  unfolding fresh_with
  as_many = omega (arith, (sent_run steps (fresh_of u) (fresh_reached u l)).grown)

  pub told : (k : ℕ) → k < (after u steps).made → Told (after u steps) k (sent_as u steps k)
  unfolding fresh_with
  told k h =
      let z : k - 0 ≡ k = omega arith in
      subst (λ (i : ℕ). Told (after u steps) k (get_or (sends (fresh_of u) steps) i nothing_said)) z ((sent_run steps (fresh_of u) (fresh_reached u l)).new k (omega arith) h)

  -- .. and after any further steps
  pub told_on : (further : List Step) (k : ℕ) → k < (after u steps).made → Told (after u (steps ++ further)) k (sent_as u steps k)
  told_on further k h =
      rw (ran_append (fresh_of u) steps further) ((sent_run further (after u steps) (reached u l steps)).old k (sent_as u steps k) h (told k h))

pub as_sent_holds : AsSent
as_sent_holds =
    record {
      made = as_many;
      sender = λ u l steps further k p a.
          let t = acked_at u l steps k 0 p (omega arith) a in
          let n = acked_on u l steps further k 0 p (omega arith) a in
          let y = unbroken (after u (steps ++ further)) (reached u l (steps ++ further)).fine in
          let v : number k 0 < 32 = omega (arith, n.made, y.made16) in
          let x = told_on u l steps further k t.made in
          record {
            held = n.held;
            asserter = (y.contents_at p (number k 0) n.low v).same_actor (has_kept (after u (steps ++ further)) p (number k 0) n.held) ∙ x.from;
            word = (y.contents_at p (number k 0) n.low v).same_word (has_kept (after u (steps ++ further)) p (number k 0) n.held) ∙ x.word;
            causes = (y.contents_at p (number k 0) n.low v).same_causes (has_kept (after u (steps ++ further)) p (number k 0) n.held) ∙ x.causes;
          };
      receiver = λ u l steps further k p a.
          let t = acked_at u l steps k 1 p (omega arith) a in
          let n = acked_on u l steps further k 1 p (omega arith) a in
          let y = unbroken (after u (steps ++ further)) (reached u l (steps ++ further)).fine in
          let v : number k 1 < 32 = omega (arith, n.made, y.made16) in
          let x = told_on u l steps further k t.made in
          record {
            held = n.held;
            asserter = (y.contents_at p (number k 1) n.low v).same_actor (has_kept (after u (steps ++ further)) p (number k 1) n.held) ∙ x.to;
            word = (y.contents_at p (number k 1) n.low v).same_word (has_kept (after u (steps ++ further)) p (number k 1) n.held) ∙ x.heard (omega (arith, n.past));
            causes = (y.contents_at p (number k 1) n.low v).same_causes (has_kept (after u (steps ++ further)) p (number k 1) n.held) ∙ (y.view_at (number k 1) v).receiver_causes (omega (arith, n.made)) (omega arith);
          };
    }
