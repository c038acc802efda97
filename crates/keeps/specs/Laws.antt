-- The laws of a step: when it is taken and what it then gives, what a new interaction is, that every link is written out, and that
-- no idle program gives what a step gives.
use Rattle.std.specs.Prelude.{ℕ, ◌+◌, ◌*◌, ◌≤◌, ◌<◌, ◌≡◌, ◌≢◌, true, false, [], ◌∷◌, get_or, Result}
use Rattle.protocol.specs.Words.{bit}
use Rattle.protocol.specs.Slots.{number, home, message, view, cause_links, is_held, viewlink, owes_ack}
use Rattle.protocol.specs.Setup.{answered, fresh_with}
use Rattle.protocol.specs.Broken.{broken_of}
use Rattle.protocol.specs.declared.State.{State}
use Rattle.protocol.specs.Outcome.{Outcome}
use Rattle.protocol.specs.Refusal.{answer}
use Rattle.protocol.specs.declared.refusal.Refusal.{Refusal}
use Rattle.protocol.specs.Send.{sent_view, awaited_view, sent}
use Rattle.protocol.specs.Receive.{received_of}
use Rattle.protocol.specs.TakeRecord.{record_taken}
use Rattle.protocol.specs.Step.{number_of, after_of, rule_of, step_of}
use Rattle.protocol.specs.declared.Step.{Step}
use Rattle.protocol.specs.Kinds.{on_send}
use Rattle.protocol.specs.declared.Step.TheVariants.{Crash, Restart}
use Rattle.keeps.specs.Taken.{SendTaken, ReceiveTaken, TakeRecordTaken, Taken}

-- of an unbroken machine, a step is taken exactly when its condition holds
abbrev pub TakenExactly : Type 0
TakenExactly = (m : State) (s : Step) → (number_of m s ≡ 0 → Taken m s) × (Taken m s → number_of m s ≡ 0)

-- .. and then it gives exactly the stated machine; where its condition doesn't hold, the number that refuses it and its machine
abbrev pub TakenGives : Type 0
TakenGives = (m : State) (s : Step) → broken_of m ≡ false → Taken m s → step_of m s ≡ answered 0 (after_of m s)

abbrev pub RefusedGives : Type 0
RefusedGives = (m : State) (s : Step) → broken_of m ≡ false → (Taken m s → ⊥) → (number_of m s ≢ 0) × (step_of m s ≡ answered (number_of m s) m)

-- a broken value is 1, whatever the step
abbrev pub BrokenGives : Type 0
BrokenGives = (m : State) (s : Step) → broken_of m ≡ true → step_of m s ≡ answered 1 m

-- the answer 0 says all of that
pub record TakenBy (m : State) (s : Step) : Type 0 where
  pub unbroken : broken_of m ≡ false
  pub condition : Taken m s
  pub gives : step_of m s ≡ answered 0 (after_of m s)

abbrev pub AnswerZero : Type 0
AnswerZero = (m : State) (s : Step) → (step_of m s).answer ≡ 0 → TakenBy m s

-- of an unbroken machine the step and the rule alone are the same
abbrev pub JointSame : Type 0
JointSame = (m : State) (s : Step) → broken_of m ≡ false → step_of m s ≡ rule_of m s

-- how many interactions there are after a step: a send makes one, no other kind does
abbrev pub made_by : State → Step → ℕ
made_by m s = on_send s (λ from to own word causes. m.made + 1) m.made

abbrev pub MadeCounts : Type 0
MadeCounts = (m : State) (s : Step) → (after_of m s).made ≡ made_by m s

-- a new interaction's key is the number made before: its two views stand there, and those of every other key are as they were
pub record NewKey (m : State) (from to own word causes : ℕ) : Type 0 where
  pub made : (sent m from to own word causes).made ≡ m.made + 1
  pub sender : view (sent m from to own word causes) (number m.made 0) ≡ sent_view m from to own word causes
  pub receiver : view (sent m from to own word causes) (number m.made 1) ≡ awaited_view to
  pub others : (v : ℕ) → v < m.made * 2 → view (sent m from to own word causes) v ≡ view m v

abbrev pub SendsNewKey : Type 0
SendsNewKey = (m : State) (from to own word causes : ℕ) → broken_of m ≡ false → SendTaken m from to own causes → NewKey m from to own word causes

-- every viewlink and every cause link is written out, also where both stores are the same: after a send in the sender's record,
-- after a receive in the receiver's, after a store took a record in its working state, beside the contents
pub record LinksSent (m : State) (from to own word causes : ℕ) : Type 0 where
  pub viewlink : (view (sent m from to own word causes) (number m.made 0)).viewlink ≡ home m to
  pub viewlink_in : home m to < m.stores
  pub link : (j : ℕ) → j < 16 → bit causes j ≡ true → get_or (view (sent m from to own word causes) (number m.made 0)).links j 0 ≡ home m from
  pub link_in : home m from < m.stores

abbrev pub SendWritesLinks : Type 0
SendWritesLinks = (m : State) (from to own word causes : ℕ) → broken_of m ≡ false → SendTaken m from to own causes → LinksSent m from to own word causes

pub record LinkReceived (m : State) (k : ℕ) : Type 0 where
  pub viewlink : (view (received_of m k) (number k 1)).viewlink ≡ (message m k).own
  pub viewlink_in : (message m k).own < m.stores

abbrev pub ReceiveWritesLink : Type 0
ReceiveWritesLink = (m : State) (k : ℕ) → broken_of m ≡ false → ReceiveTaken m k → LinkReceived m k

pub record LinksHeld (m : State) (p k r : ℕ) : Type 0 where
  pub held : is_held (record_taken m p k r) p (number k r) ≡ true
  pub viewlink : 1 ≤ viewlink (record_taken m p k r) p (number k r)
  pub ack_owed : owes_ack (record_taken m p k r) p (number k r) ≡ true
  pub links : (j : ℕ) → j < 16 → r ≡ 0 → get_or (cause_links (record_taken m p k r) p k) j 0 ≡ get_or (view m (number k r)).links j 0

abbrev pub StoreWritesLinks : Type 0
StoreWritesLinks = (m : State) (p k r : ℕ) → broken_of m ≡ false → TakeRecordTaken m p k r → LinksHeld m p k r

-- equal numbers are equal answers: a contract that tells an answer by its number determines it
abbrev pub OneAnswer : Type 0
OneAnswer = (a b : Result Unit Refusal) → answer a ≡ answer b → a ≡ b

-- no two results can both satisfy the promise of a step, or of the rule alone
abbrev pub OneResult : Type 0
OneResult =
    ((m : State) (s : Step) (x y : Outcome) → x ≡ step_of m s → y ≡ step_of m s → x ≡ y)
    × ((m : State) (s : Step) (x y : Outcome) → x ≡ rule_of m s → y ≡ rule_of m s → x ≡ y)

-- setup M: three stores, actor 0 home 0 list 5, actor 1 home 1 list 6
abbrev pub marked : State
marked = fresh_with 3 2 (0 ∷ 1 ∷ 0 ∷ 0 ∷ 0 ∷ 0 ∷ 0 ∷ 0 ∷ []) (5 ∷ 6 ∷ 0 ∷ 0 ∷ 0 ∷ 0 ∷ 0 ∷ 0 ∷ [])

-- a program that refuses everything, one with a constant answer, one that says taken and changes nothing: each differs from the
-- definition on setup M, where a crash is taken and a restart is refused with 6
abbrev pub Program : Type 0
Program = State → Step → Outcome

abbrev pub RefuserOut : (Program) → Type 0
RefuserOut f = ((m : State) (s : Step) → (f m s).answer ≢ 0) → f marked (Crash 0) ≢ step_of marked (Crash 0)

abbrev pub ConstantOut : (Program) → Type 0
ConstantOut f = (n : ℕ) → ((m : State) (s : Step) → (f m s).answer ≡ n) → f marked (Crash 0) ≡ step_of marked (Crash 0) → f marked (Restart 0) ≢ step_of marked (Restart 0)

abbrev pub PretenderOut : (Program) → Type 0
PretenderOut f = ((m : State) (s : Step) → f m s ≡ answered 0 m) → f marked (Crash 0) ≢ step_of marked (Crash 0)

-- two inputs with different results, for the step and for the rule alone
abbrev pub ResultsDiffer : Type 0
ResultsDiffer = (step_of marked (Crash 0) ≢ step_of marked (Restart 0)) × (rule_of marked (Crash 0) ≢ rule_of marked (Restart 0))
