-- What the first PReP's store promises of every run, message by message.
use Rattle.std.specs.Prelude.{ℕ, ◌+◌, ◌≤◌, ◌≡◌, ◌≢◌, Bool, true, false, ◌&&◌, cond, List, [], ◌∷◌, ◌++◌, length, None}
use Rattle.activities.specs.Activity.{same, neither}
use Rattle.activities.specs.Side.{extras_of}
use Rattle.activities.specs.Complete.{complete}
use Rattle.activities.specs.Store.{empty_store, exchange_of}
use Rattle.activities.specs.Outcome.{told_received}
use Rattle.activities.specs.Receive.{side_of, ack_of, to_both, receive}
use Rattle.activities.specs.Run.{after}
use Rattle.activities.specs.declared.Activity.{Activity}
use Rattle.activities.specs.declared.Said.{Said}
use Rattle.activities.specs.declared.Said.TheVariants.{Negotiation, Invocation, Result, Finished, Additional}
use Rattle.activities.specs.declared.Message.{Message}
use Rattle.activities.specs.declared.Side.{Side}
use Rattle.activities.specs.declared.Exchange.{Exchange}
use Rattle.activities.specs.declared.Store.{Store}
use Rattle.activities.specs.declared.Finishing.{Finishing}
use Rattle.activities.specs.declared.Received.{Received}
use Rattle.completes.specs.Order.{Reordered, nothing}
use Rattle.completes.specs.Sends.{messages_of, NothingRefused, NoneRefused, Sends}

-- every value of the type has sixteen places
abbrev pub Sized : Store → Type 0
Sized s = length s.exchanges ≡ 16

-- A refused message changes nothing, and nothing is acknowledged.
abbrev pub RefusedChangesNothing : Type 0
RefusedChangesNothing =
    (s : Store) (m : Message) → (receive s m).answer ≢ 0
    → ((receive s m).store ≡ s) × ((receive s m).ack ≡ None) × ((receive s m).finished ≡ to_both false)

-- A message for one activity leaves every other one's tables.
abbrev pub OthersStay : Type 0
OthersStay = (s : Store) → Sized s → (m : Message) (b : Activity) → same m.activity b ≡ false → exchange_of (receive s m).store b ≡ exchange_of s b

-- whether a row has a message of the kind already; additional ones aside
abbrev pub second : Side → Said → Bool
second x (Negotiation list accepted extra) = x.negotiation.held
second x (Invocation extra word) = x.invocation.held
second x (Result extra word) = x.result.held
second x (Finished count) = x.finished.held
second x (Additional extra) = false

-- A second message of a kind changes nothing and is acknowledged again; ack_of has nothing for a submission finished.
abbrev pub RepeatsChangeNothing : Type 0
RepeatsChangeNothing =
    (s : Store) → Sized s → (m : Message) → neither m ≡ false → second (side_of (exchange_of s m.activity) m) m.said ≡ true
    → receive s m ≡ record { store = s; answer = 0; ack = ack_of m.said; finished = to_both false }

-- how often a run sends the finished acknowledgement of an activity to a side
unfoldable pub finishings : (Finishing → Bool) → Activity → Store → List Message → ℕ
finishings side a s [] = 0
finishings side a s (m ∷ l) =
    let r = receive s m in
    cond (same m.activity a && side r.finished) 1 0 + finishings side a r.store l

-- The finished acknowledgements are sent at most once for an activity, to either side, in any run whatever.
abbrev pub AtMostOnce : Type 0
AtMostOnce =
    (s : Store) → Sized s → (a : Activity) (l : List Message)
    → (finishings (λ f. f.client) a s l ≤ 1) × (finishings (λ f. f.service) a s l ≤ 1)

-- An activity is completed at its last message and not before: wherever the list is cut, it is complete exactly if none of its
-- messages is left; and the finished acknowledgements go to both sides at its last message, and to none at any other.
pub record CompletesAtLast (a : Activity) (l : List Message) : Type 0 where
  pub complete : (before rest : List Message) → l ≡ before ++ rest → complete (exchange_of (after empty_store before) a) ≡ nothing (messages_of a rest)
  pub finished : (before : List Message) (m : Message) (rest : List Message) → l ≡ before ++ m ∷ rest → same m.activity a ≡ true
      → (receive (after empty_store before) m).finished ≡ to_both (nothing (messages_of a rest))

-- the same row, the additional messages taken as a collection
pub record SameSide (x y : Side) : Type 0 where
  pub negotiation : x.negotiation ≡ y.negotiation
  pub invocation : x.invocation ≡ y.invocation
  pub result : x.result ≡ y.result
  pub finished : x.finished ≡ y.finished
  pub additional : Reordered (extras_of x) (extras_of y)

pub record SameTables (x y : Exchange) : Type 0 where
  pub client : SameSide x.client y.client
  pub service : SameSide x.service y.service

-- Where client and service differ, both send the first four, the announced counts match what is sent and nothing is refused,
-- any order of the same messages, each sent once, completes an activity at its last message and not before, and ends with the
-- same tables, the additional ones taken as a collection.
abbrev pub AnyOrderCompletes : Type 0
AnyOrderCompletes =
    (a : Activity) (l k : List Message) → Sends a l → NothingRefused empty_store l → Reordered l k
    → CompletesAtLast a k × SameTables (exchange_of (after empty_store l) a) (exchange_of (after empty_store k) a)

-- If nothing is refused in one order, nothing is in any other.
abbrev pub NoOrderRefuses : Type 0
NoOrderRefuses = (l k : List Message) → NothingRefused empty_store l → Reordered l k → NothingRefused empty_store k

-- Other activities' messages may be refused: it is enough that the activity's own aren't, in either order.
abbrev pub OwnOrderCompletes : Type 0
OwnOrderCompletes =
    (a : Activity) (l k : List Message) → Sends a l → NoneRefused a empty_store l → Reordered l k → NoneRefused a empty_store k
    → CompletesAtLast a k × SameTables (exchange_of (after empty_store l) a) (exchange_of (after empty_store k) a)

-- The call's promise leaves one result.
abbrev pub OneResult : Type 0
OneResult = (s : Store) (m : Message) (r q : Received) → told_received r ≡ receive s m → told_received q ≡ receive s m → r ≡ q

pub record Promises : Type 0 where
  pub refused : RefusedChangesNothing
  pub others : OthersStay
  pub repeats : RepeatsChangeNothing
  pub once : AtMostOnce
  pub any_order : AnyOrderCompletes
  pub no_order : NoOrderRefuses
  pub own_order : OwnOrderCompletes
  pub one_result : OneResult
