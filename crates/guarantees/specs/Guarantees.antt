-- docs/GUARANTEES.md, Delivery, sentence by sentence. The proofs stand in proofs/. What is said of the drain and of the walk is said of
-- any, so that it can be said of a wrong one too (crate bites); what is claimed is about `drain_of` and `walk_of`. What a store holds is
-- said of its checkpointed state.
use Rattle.std.specs.Prelude.{ℕ, zero, suc, ◌+◌, ◌-◌, ◌*◌, ◌≤◌, ◌<◌, ◌≡◌, ◌≢◌, true, List, [], ◌∷◌, ◌++◌, length, get_or, replicate}
use Rattle.protocol.specs.Words.{pick, bit, times}
use Rattle.protocol.specs.Slots.{number, status_number, is_up, view, entry, ack_copies, uack_copies, is_held, is_lasting, lasting_contents as contents, lasting_cause_links as cause_links, lasting_viewlink as viewlink}
use Rattle.protocol.specs.Setup.{empty_machine, setup_of}
use Rattle.protocol.specs.Broken.{broken_of}
use Rattle.protocol.specs.Closed.{closed_of}
use Rattle.protocol.specs.declared.State.{State}
use Rattle.protocol.specs.declared.View.{View}
use Rattle.protocol.specs.declared.Setup.{Setup}
use Rattle.protocol.specs.declared.Status.{Status}
use Rattle.protocol.specs.Drain.{Drained, all_up, drain_of}
use Rattle.protocol.specs.Walk.{Walked, walk_of}
use Rattle.protocol.specs.Step.{step_of}
use Rattle.protocol.specs.declared.Step.{Step}
use Rattle.protocol.specs.Book.{setup_read}
use Rattle.protocol.specs.declared.Step.TheVariants.{Crash, Restart}
use Rattle.protocol.specs.Run.{ran, answers, legal_setup, fresh_of, run_of, buffer_of, steps_read}
use Rattle.keeps.specs.Lasting.{Backed, Lasts}
use Rattle.drains.specs.Drains.{steps_of}
use Rattle.reaches.specs.Reaches.{keys_of}
use Rattle.protocol.specs.Listing.{refused_line, listing_of}
use Rattle.guarantees.specs.Acknowledged.{Legal, after, accepted, acknowledged, AckedBy}
use Rattle.guarantees.specs.Sent.{sends, sent_as}

-- 1. One acknowledgement. In a run a view has at most one accepting step; a view in phase 4 or 5 has exactly one.
pub record OneAcknowledgement : Type 0 where
  pub at_most_one : (u : Setup) → Legal u → (steps : List Step) (v : ℕ) → length (acknowledged (fresh_of u) steps v) ≤ 1
  pub exactly_one : (u : Setup) → Legal u → (steps : List Step) (v : ℕ) → 4 ≤ (view (after u steps) v).phase → (p : ℕ) × AckedBy u steps v p
  -- so each view of a closed interaction has exactly one
  pub both_views : (u : Setup) → Legal u → (steps : List Step) (k r : ℕ) → r < 2 → closed_of (after u steps) k ≡ true → (p : ℕ) × AckedBy u steps (number k r) p
  -- when the ack of an effect's record is accepted, the same job's receipt of each cause already has one
  pub causes_first : (u : Setup) → Legal u → (steps : List Step) (step : Step) (k j p : ℕ) → accepted (after u steps) step (number k 0) ≡ p ∷ []
      → j < 16 → bit (view (after u steps) (number k 0)).causes j ≡ true → (q : ℕ) × AckedBy u steps (number j 1) q

-- a store holds, for a view, the asserter, data, causes and cause links of a record
pub record Holds (m : State) (p k r : ℕ) (w : View) : Type 0 where
  pub held : is_lasting m p (number k r) ≡ true
  pub asserter : (contents m p (number k r)).asserter ≡ w.actor
  pub word : (contents m p (number k r)).word ≡ w.word
  pub causes : (contents m p (number k r)).causes ≡ w.causes
  pub links : r ≡ 0 → (j : ℕ) → j < 16 → get_or (cause_links m p k) j 0 ≡ get_or w.links j 0

-- 2. Kept for ever. If in a run the ack of a view's record was accepted from store p, then after any further steps p holds the
-- contents of that view, and they are those that the record had when it was accepted.
abbrev pub KeptForEver : Type 0
KeptForEver =
    (u : Setup) → Legal u → (steps : List Step) (step : Step) (k r p : ℕ) → r < 2 → accepted (after u steps) step (number k r) ≡ p ∷ []
    → (further : List Step) → Holds (after u (steps ++ (step ∷ further))) p k r (view (after u steps) (number k r))

-- .. since an ack says that they are in the checkpointed state: in every machine that a run reached, where an ack of a view's record is
-- in flight from a store, its checkpointed state has that view's contents with a viewlink beside them; and where a uack is, the
-- checkpointed viewlink of the opposite view there is the entry's own store.
abbrev pub AckInFlight : Type 0
AckInFlight =
    (u : Setup) → Legal u → (steps : List Step) (k r p : ℕ) → k < 16 → r < 2 → p < 8 → 1 ≤ ack_copies (after u steps) p (number k r)
    → Holds (after u steps) p k r (view (after u steps) (number k r)) × (1 ≤ viewlink (after u steps) p (number k r))

abbrev pub UackInFlight : Type 0
UackInFlight =
    (u : Setup) → Legal u → (steps : List Step) (k r p : ℕ) → k < 16 → r < 2 → p < 8 → 1 ≤ uack_copies (after u steps) p (number k r)
    → viewlink (after u steps) p (number k (1 - r)) ≡ (entry (after u steps) (number k r)).own + 1

-- .. so a crash loses nothing that was acknowledged: if the ack of a view's record was accepted from store p, then after any further
-- steps and a crash of p both of its states have the contents that the record had, the checkpointed one with the viewlink that it had.
pub record Survives (m n : State) (p k r : ℕ) (w : View) : Type 0 where
  pub checkpointed : Holds n p k r w
  pub working : is_held n p (number k r) ≡ true
  pub link : viewlink n p (number k r) ≡ viewlink m p (number k r)

abbrev pub CrashLosesNothing : Type 0
CrashLosesNothing =
    (u : Setup) → Legal u → (steps : List Step) (step : Step) (k r p : ℕ) → r < 2 → accepted (after u steps) step (number k r) ≡ p ∷ []
    → (further : List Step)
    → Survives (after u (steps ++ (step ∷ further))) (after u (steps ++ (step ∷ (further ++ (Crash p ∷ []))))) p k r (view (after u steps) (number k r))

-- .. and whatever is in a checkpointed state, acknowledged or not, stays after any further steps, since the working state has it too.
pub record LastsForEver : Type 0 where
  pub backed : (u : Setup) → Legal u → (steps : List Step) → Backed (after u steps)
  pub lasts : (u : Setup) → Legal u → (steps further : List Step) → Lasts (after u steps) (after u (steps ++ further))

-- .. and they are what was sent. As many sends were taken as interactions are made; and in the store that acknowledged a view of the
-- k-th, after any further steps: the sender's view has its from for asserter, its data and its causes, the receiver's view its to,
-- the same data and no causes.
pub record Asserts (m : State) (p v by said caused : ℕ) : Type 0 where
  pub held : is_lasting m p v ≡ true
  pub asserter : (contents m p v).asserter ≡ by
  pub word : (contents m p v).word ≡ said
  pub causes : (contents m p v).causes ≡ caused

pub record AsSent : Type 0 where
  pub made : (u : Setup) → Legal u → (steps : List Step) → length (sends (fresh_of u) steps) ≡ (after u steps).made
  pub sender : (u : Setup) → Legal u → (steps further : List Step) (k p : ℕ) → AckedBy u steps (number k 0) p
      → Asserts (after u (steps ++ further)) p (number k 0) (sent_as u steps k).from (sent_as u steps k).word (sent_as u steps k).causes
  pub receiver : (u : Setup) → Legal u → (steps further : List Step) (k p : ℕ) → AckedBy u steps (number k 1) p
      → Asserts (after u (steps ++ further)) p (number k 1) (sent_as u steps k).to (sent_as u steps k).word 0

-- 3. Cause links. Those cause links name, for each cause, the store that acknowledged the same job's receipt of that cause.
abbrev pub CauseLinks : Type 0
CauseLinks =
    (u : Setup) → Legal u → (steps : List Step) (step : Step) (k p : ℕ) → accepted (after u steps) step (number k 0) ≡ p ∷ []
    → (j : ℕ) → j < 16 → bit (view (after u steps) (number k 0)).causes j ≡ true
    → ((view (after u steps) (number j 1)).actor ≡ (view (after u steps) (number k 0)).actor)
    × AckedBy u steps (number j 1) (get_or (view (after u steps) (number k 0)).links j 0)

-- 4. Closed stays closed, after any further steps.
abbrev pub StaysClosed : Type 0
StaysClosed =
    (u : Setup) → Legal u → (steps further : List Step) (k : ℕ) → closed_of (after u steps) k ≡ true → closed_of (after u (steps ++ further)) k ≡ true

-- 5. View links. Once an interaction is closed, now and after any further steps: for each of its views, in the store that
-- acknowledged that view, the viewlink beside it names the store that acknowledged the other view.
abbrev pub ViewLinks : Type 0
ViewLinks =
    (u : Setup) → Legal u → (steps further : List Step) (k r p q : ℕ) → r < 2 → closed_of (after u steps) k ≡ true
    → AckedBy u steps (number k r) p → AckedBy u steps (number k (1 - r)) q
    → viewlink (after u (steps ++ further)) p (number k r) ≡ q + 1

-- .. and so a record is found from the other, for ever: once an interaction is closed, the viewlink beside a view, in the store that
-- acknowledged that view, leads to a store that holds the other view, and the viewlink there leads back; and a cause link in the
-- store that acknowledged a sender's view leads to a store that holds the receipt of that cause, the one that acknowledged it.
-- (A viewlink is p + 1 for store p, a cause link p.)
pub record Leads (m : State) (p k r : ℕ) : Type 0 where
  pub linked : 1 ≤ viewlink m p (number k r)
  pub held : is_lasting m (viewlink m p (number k r) - 1) (number k (1 - r)) ≡ true
  pub back : viewlink m (viewlink m p (number k r) - 1) (number k (1 - r)) ≡ p + 1

pub record Lookup : Type 0 where
  pub other : (u : Setup) → Legal u → (steps further : List Step) (k r p : ℕ) → r < 2 → closed_of (after u steps) k ≡ true
      → AckedBy u steps (number k r) p → Leads (after u (steps ++ further)) p k r
  pub cause : (u : Setup) → Legal u → (steps further : List Step) (k p : ℕ) → AckedBy u steps (number k 0) p
      → (j : ℕ) → j < 16 → bit (contents (after u (steps ++ further)) p (number k 0)).causes j ≡ true
      → (is_lasting (after u (steps ++ further)) (get_or (cause_links (after u (steps ++ further)) p k) j 0) (number j 1) ≡ true)
      × AckedBy u (steps ++ further) (number j 1) (get_or (cause_links (after u (steps ++ further)) p k) j 0)

-- 6. The drain. If all stores are up, the drain's machine has every interaction closed; it takes at most 22 steps for each
-- interaction made; the count that it reports is the number of steps that it took; and its machine is that of the run with its
-- steps behind it, so 1 to 5 hold of it.
pub record Drains (drain : State → Drained) (u : Setup) (steps : List Step) : Type 0 where
  pub answer : (drain (after u steps)).answer ≡ 0
  pub closes : (k : ℕ) → k < (after u steps).made → closed_of (drain (after u steps)).state k ≡ true
  pub bound : (drain (after u steps)).count ≤ (after u steps).made * 22
  pub count : (drain (after u steps)).count ≡ length (steps_of (after u steps))
  pub run : (drain (after u steps)).state ≡ after u (steps ++ steps_of (after u steps))
  pub made : (drain (after u steps)).state.made ≡ (after u steps).made

abbrev pub DrainedBy : (State → Drained) → Type 0
DrainedBy drain = (u : Setup) → Legal u → (steps : List Step) → all_up (after u steps) ≡ true → Drains drain u steps

abbrev pub TheDrain : Type 0
TheDrain = DrainedBy drain_of

-- .. and whatever is down, a machine that a run reached recovers: a restart is taken for each store that is down, then all stores
-- are up and the drain closes every interaction, in at most 8 steps and 22 for each interaction made.
unfoldable pub restarts_below : ℕ → State → List Step
restarts_below zero m = []
restarts_below (suc p) m = restarts_below p m ++ pick (is_up m p) [] (Restart p ∷ [])

abbrev pub restarts : State → List Step
restarts m = restarts_below m.stores m

pub record Recovers (u : Setup) (steps : List Step) : Type 0 where
  pub taken : answers (after u steps) (restarts (after u steps)) ≡ replicate (length (restarts (after u steps))) 0
  pub up : all_up (after u (steps ++ restarts (after u steps))) ≡ true
  pub made : (after u (steps ++ restarts (after u steps))).made ≡ (after u steps).made
  pub closes : (k : ℕ) → k < (after u steps).made → closed_of (drain_of (after u (steps ++ restarts (after u steps)))).state k ≡ true
  pub bound : length (restarts (after u steps)) + (drain_of (after u (steps ++ restarts (after u steps)))).count ≤ 8 + (after u steps).made * 22

abbrev pub Recovery : Type 0
Recovery = (u : Setup) → Legal u → (steps : List Step) → Recovers u steps

-- 7. The walk. After a drain of a machine that a run reached with all stores up, the walk of every key made is answered, and
-- its keys are exactly those reachable over the causes as they were sent.

-- j is a cause that k was sent with; i is reached from k over such causes
pub record SentCause (u : Setup) (steps : List Step) (k j : ℕ) : Type 0 where
  pub low : j < 16
  pub set : bit (sent_as u steps k).causes j ≡ true

pub data SentReach (u : Setup) (steps : List Step) : ℕ → ℕ → Type 0 where
  here : {k : ℕ} → SentReach u steps k k
  by : {k j i : ℕ} → SentCause u steps k j → SentReach u steps j i → SentReach u steps k i

pub record Walks (walk : State → ℕ → Walked) (u : Setup) (steps : List Step) (k : ℕ) : Type 0 where
  pub answered : (walk (drain_of (after u steps)).state k).answer ≡ 0
  pub once : (i : ℕ) → SentReach u steps k i → times i (keys_of (walk (drain_of (after u steps)).state k)) ≡ 1
  pub only : (i : ℕ) → 1 ≤ times i (keys_of (walk (drain_of (after u steps)).state k)) → SentReach u steps k i

abbrev pub WalkedBy : (State → ℕ → Walked) → Type 0
WalkedBy walk =
    (u : Setup) → Legal u → (steps : List Step) → all_up (after u steps) ≡ true → (k : ℕ) → k < (after u steps).made → Walks walk u steps k

abbrev pub TheWalk : Type 0
TheWalk = WalkedBy walk_of

-- .. and whatever is open or down, in every machine that a run reached: the walk of a key made is answered exactly if every key
-- reachable over the causes as they were sent is closed, else it is 13; and its keys are then exactly those.
pub record Answers (walk : State → ℕ → Walked) (u : Setup) (steps : List Step) (k : ℕ) : Type 0 where
  pub answered : ((i : ℕ) → SentReach u steps k i → closed_of (after u steps) i ≡ true) → (walk (after u steps) k).answer ≡ 0
  pub closed : (walk (after u steps) k).answer ≡ 0 → (i : ℕ) → SentReach u steps k i → closed_of (after u steps) i ≡ true
  pub refused : (walk (after u steps) k).answer ≢ 0 → (walk (after u steps) k).answer ≡ 13
  pub once : (walk (after u steps) k).answer ≡ 0 → (i : ℕ) → SentReach u steps k i → times i (keys_of (walk (after u steps) k)) ≡ 1
  pub only : (walk (after u steps) k).answer ≡ 0 → (i : ℕ) → 1 ≤ times i (keys_of (walk (after u steps) k)) → SentReach u steps k i

abbrev pub AnsweredBy : (State → ℕ → Walked) → Type 0
AnsweredBy walk = (u : Setup) → Legal u → (steps : List Step) (k : ℕ) → k < (after u steps).made → Answers walk u steps k

abbrev pub EveryWalk : Type 0
EveryWalk = AnsweredBy walk_of

-- 8. Books. The machine that `run` gives for a book that is not refused is the one after a run from a legal setup, so 1 to 7 hold of it.
pub record BookRun (book : List ℕ) (room : ℕ) : Type 0 where
  pub legal : Legal (setup_read book)
  pub state : (run_of book room).state ≡ after (setup_read book) (steps_read book)

abbrev pub Books : Type 0
Books = (book : List ℕ) (room : ℕ) → (run_of book room).answer ≡ 0 → BookRun book room

-- 9. Every call answers: each public call is a proved function, so it ends for every input; and its promise, `result ≡ definition of
-- the inputs`, leaves exactly one result. That holds of any definition, and shows nothing by itself: what bites is that the contracts
-- have this shape, which the gate looks at. docs/PROMISES.md names every public call with its crate and its promise.
abbrev pub Determined : {A : Type 0} → A → Type 0
Determined {A} d = (x y : A) → x ≡ d → y ≡ d → x ≡ y

pub record EveryCall : Type 0 where
  pub status : (s : Status) → Determined (status_number s)
  pub legal : (u : Setup) → Determined (legal_setup u)
  pub fresh : (u : Setup) → Determined (fresh_of u)
  pub empty : Determined empty_machine
  pub broken : (m : State) → Determined (broken_of m)
  pub setup : (u : Setup) → Determined (setup_of u)
  pub step : (m : State) (s : Step) → Determined (step_of m s)
  pub steps : (m : State) (steps : List Step) → Determined (ran m steps)
  pub answers : (m : State) (steps : List Step) → Determined (answers m steps)
  pub drain : (m : State) → Determined (drain_of m)
  pub walk : (m : State) (k : ℕ) → Determined (walk_of m k)
  pub run : (book : List ℕ) (room : ℕ) → Determined (run_of book room)
  pub buffer : (book buffer : List ℕ) → Determined (buffer_of book buffer)
  pub refused : (n : ℕ) → Determined (refused_line n)
  pub listing : (m : State) (steps taken : ℕ) → Determined (listing_of m steps taken)

-- .. and whatever definition a call above this crate has
abbrev pub AnyCall : Type 1
AnyCall = (A : Type 0) (d : A) → Determined d
