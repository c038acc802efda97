-- The other guarantees bite too: a wrong rule, drain or walk for each of 1, 2, 4, 6 and 7, with a run on which that guarantee fails by it.
use Rattle.std.specs.Prelude.{ℕ, zero, suc, ◌+◌, ◌-◌, ◌*◌, ◌<◌, ◌≡◌, Bool, true, false, ◌&&◌, not, List, [], ◌∷◌, ◌++◌, eqb, leb}
use Rattle.protocol.specs.Words.{pick, times}
use Rattle.protocol.specs.Slots.{number, status_number, view, entry, is_lasting}
use Rattle.protocol.specs.Stores.{fresh_store}
use Rattle.protocol.specs.Writes.{with_view, with_entry, with_shelf}
use Rattle.protocol.specs.Sweep.{swept}
use Rattle.protocol.specs.Broken.{broken_of}
use Rattle.protocol.specs.Closed.{closed_of}
use Rattle.protocol.specs.declared.State.{State}
use Rattle.protocol.specs.declared.Entry.{Entry}
use Rattle.protocol.specs.declared.Status.TheVariants.{ToSend}
use Rattle.protocol.specs.Drain.{Drained, all_up, course, drained, drain_of}
use Rattle.protocol.specs.Walk.{Met, Walked, added, spoiled, looked_up, causes_held, each, to_cause, visit_of, unmet, refused_walk, answer_of}
use Rattle.protocol.specs.Views.{phased}
use Rattle.protocol.specs.TakeAck.{acked_view, ack_taken}
use Rattle.protocol.specs.SendUpdate.{in_status}
use Rattle.protocol.specs.Restart.{restarted}
use Rattle.protocol.specs.Step.{after_of}
use Rattle.protocol.specs.Kinds.{on_take_ack, on_crash, on_restart}
use Rattle.protocol.specs.declared.Step.{Step}
use Rattle.protocol.specs.declared.Step.TheVariants.{Send, Receive, SendRecord, Timeout, TakeAck, PostCheck, Crash, Restart}
use Rattle.protocol.specs.Run.{fresh_of}
use Rattle.reaches.specs.Reaches.{keys_of}
use Rattle.guarantees.specs.Acknowledged.{after}
use Rattle.guarantees.specs.Guarantees.{DrainedBy, SentReach, WalkedBy, AnsweredBy}
use Rattle.bites.specs.Setting.{M, S, sends, keeps, settles}
use Rattle.bites.specs.Witnesses.{W3, W12, recorded}
use Rattle.bites.specs.Variants.{Rules, right, run_by, accepted_by, acknowledged_by, AtMostOneBy, KeptForEverBy, StaysClosedBy}
use Rattle.bites.specs.Wrong.{late_record}

-- 1. A second acceptance: an ack counts again for a view that has settled.
unfoldable pub accepted_again : State → ℕ → ℕ → ℕ → State
accepted_again m p k r =
    let v = number k r in
    with_view (ack_taken m p k r) v (pick (eqb (view m v).phase 5) (phased 4 (view m v)) (acked_view m p v))

abbrev pub accepting_again : Rules
accepting_again m s = on_take_ack s (accepted_again m) (after_of m s)

-- The record goes to store 0, to store 2 and to store 0 again, which acknowledges both copies.
abbrev pub two_acks : List Step
two_acks =
    S ∷ sends 0 ++ Timeout 0 2 ∷ SendRecord 0 ∷ Timeout 0 0 ∷ SendRecord 0 ∷ keeps 0 0 0 ++ keeps 0 0 0 ++ TakeAck 0 0 0 ∷ PostCheck 0
    ∷ TakeAck 0 0 0 ∷ []

pub record BreaksAtMostOne (rules : Rules) (steps : List Step) : Type 0 where
  pub twice : acknowledged_by rules (fresh_of M) steps (number 0 0) ≡ 0 ∷ 0 ∷ []
  pub refuted : ¬ AtMostOneBy rules

-- 2. A crash that wipes a store: its checkpoint is gone too.
unfoldable pub wiped : State → ℕ → State
wiped m p = swept (with_shelf m p (fresh_store false)) p

abbrev pub wiping : Rules
wiping m s = on_crash s (wiped m) (after_of m s)

-- Its run is `recorded`: store 0 takes the sender's record and makes a checkpoint; its ack is accepted, and it goes down.
pub record BreaksKeptForEver (rules : Rules) (steps : List Step) (step : Step) (further : List Step) : Type 0 where
  pub accepts : accepted_by rules (run_by rules M steps) step (number 0 0) ≡ 0 ∷ []
  pub gone : is_lasting (run_by rules M (steps ++ (step ∷ further))) 0 (number 0 0) ≡ false
  pub refuted : ¬ KeptForEverBy rules

-- 4. A restart that reopens: every update that was done at the store is to-send again.
abbrev pub due_again : ℕ → Entry → Entry
due_again p e = pick (eqb (status_number e.status) 3 && eqb e.destination p) (in_status ToSend e) e

unfoldable pub resent : ℕ → State → ℕ → State
resent zero m p = m
resent (suc v) m p = with_entry (resent v m p) v (due_again p (entry m v))

unfoldable pub reopened : State → ℕ → State
reopened m p = resent 32 (restarted m p) p

abbrev pub reopening : Rules
reopening m s = on_restart s (reopened m) (after_of m s)

-- Its run is `late_record`, which closes interaction 0 with an update to store 1; then that store crashes and restarts.
pub record BreaksStaysClosed (rules : Rules) (steps further : List Step) : Type 0 where
  pub closed : closed_of (run_by rules M steps) 0 ≡ true
  pub unclosed : closed_of (run_by rules M (steps ++ further)) 0 ≡ false
  pub refuted : ¬ StaysClosedBy rules

-- 6. A drain one short, as drain_of but for the last step.
unfoldable pub short_drain : State → Drained
short_drain m =
    pick (broken_of m) (record { state = m; answer = 1; count = 0 })
    (pick (not (all_up m)) (record { state = m; answer = 5; count = 0 })
    (drained (course (m.made * 22 - 1) m)))

pub record BreaksDrain (drain : State → Drained) (steps : List Step) : Type 0 where
  pub up : all_up (after M steps) ≡ true
  pub made : 0 < (after M steps).made
  pub unclosed : closed_of (drain (after M steps)).state 0 ≡ false
  pub refuted : ¬ DrainedBy drain

-- 7. A walk that stops at the causes of its key, as walk_of but for the causes' causes.
unfoldable pub short_walk : State → ℕ → Walked
short_walk m k =
    let w = visit_of 2 m k ((view m (number k 0)).store + 1) unmet in
    pick (broken_of m) (refused_walk 1) (pick (leb m.made k) (refused_walk 2) (answer_of w))

-- Interaction 2 is an effect of 1, and 1 of 0.
abbrev pub chain : List Step
chain = W12 ++ Receive 1 ∷ Send 0 1 0 7 2 ∷ []

pub record BreaksWalk (walk : State → ℕ → Walked) (steps : List Step) : Type 0 where
  pub up : all_up (after M steps) ≡ true
  pub made : 2 < (after M steps).made
  pub reached : SentReach M steps 2 0
  pub missing : times 0 (keys_of (walk (drain_of (after M steps)).state 2)) ≡ 0
  pub refuted : ¬ WalkedBy walk

-- .. and a walk that takes a record for closed because a store has it for ever.
unfoldable pub lasting_only : State → ℕ → ℕ → Bool
lasting_only m k link = not (eqb link 0) && is_lasting m (link - 1) (number k 0)

unfoldable pub visit_lasting : ℕ → State → ℕ → ℕ → Met → Met
visit_lasting zero m k link w = w
visit_lasting (suc depth) m k link w =
    pick (lasting_only m k link) (each (to_cause (visit_lasting depth m) m k link) (causes_held m k link) k 0 (added (looked_up w) k)) (spoiled w)

unfoldable pub open_walk : State → ℕ → Walked
open_walk m k =
    let w = visit_lasting 16 m k ((view m (number k 0)).store + 1) unmet in
    pick (broken_of m) (refused_walk 1) (pick (leb m.made k) (refused_walk 2) (answer_of w))

-- The sender's view settles, and the message isn't received.
abbrev pub sender_only : List Step
sender_only = S ∷ sends 0 ++ settles 0 0 0 0

pub record BreaksEveryWalk (walk : State → ℕ → Walked) (steps : List Step) : Type 0 where
  pub made : 0 < (after M steps).made
  pub answered : (walk (after M steps) 0).answer ≡ 0
  pub unclosed : closed_of (after M steps) 0 ≡ false
  pub refuted : ¬ AnsweredBy walk

pub record BitesFurther : Type 0 where
  -- by the rules themselves these are the guarantees, and hold (6 and 7 are said of `drain_of` and `walk_of` in guarantees)
  pub at_most_one : AtMostOneBy right
  pub kept_for_ever : KeptForEverBy right
  pub stays_closed : StaysClosedBy right
  -- by each wrong one its guarantee fails
  pub accepted_again : BreaksAtMostOne accepting_again two_acks
  pub wiped : BreaksKeptForEver wiping recorded (TakeAck 0 0 0) (Crash 0 ∷ [])
  pub reopened : BreaksStaysClosed reopening late_record (Crash 1 ∷ Restart 1 ∷ [])
  pub short_drain : BreaksDrain short_drain W3
  pub short_walk : BreaksWalk short_walk chain
  pub open_walk : BreaksEveryWalk open_walk sender_only
