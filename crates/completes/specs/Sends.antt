-- What the two sides of an activity send in a list of messages, and the promises' premises of it.
use Rattle.std.specs.Prelude.{ℕ, ◌+◌, ◌≡◌, ◌≢◌, true, ◌&&◌, cond, List, [], ◌∷◌, ◌++◌, eqb, length}
use Rattle.activities.specs.Activity.{same}
use Rattle.activities.specs.Receive.{receive}
use Rattle.activities.specs.Run.{after}
use Rattle.activities.specs.declared.Activity.{Activity}
use Rattle.activities.specs.declared.Said.{Said}
use Rattle.activities.specs.declared.Said.TheVariants.{Negotiation, Invocation, Result, Finished, Additional}
use Rattle.activities.specs.declared.Message.{Message}
use Rattle.activities.specs.declared.Negotiated.{Negotiated}
use Rattle.activities.specs.declared.Transmitted.{Transmitted}
use Rattle.activities.specs.declared.Announced.{Announced}
use Rattle.activities.specs.declared.Store.{Store}
use Rattle.completes.specs.Order.{gather}

-- the messages of an activity; other activities' messages may stand between them
abbrev pub of_one : Activity → Message → List Message
of_one a m = cond (same m.activity a) (m ∷ []) []

abbrev pub messages_of : Activity → List Message → List Message
messages_of a l = gather (of_one a) l

-- what a sender says of an activity
abbrev pub said_one : ℕ → Activity → Message → List Said
said_one sender a m = cond (same m.activity a && eqb m.sender sender) (m.said ∷ []) []

abbrev pub said_by : ℕ → Activity → List Message → List Said
said_by sender a l = gather (said_one sender a) l

-- the messages of one kind, as a row holds them
abbrev pub negotiations : Said → List Negotiated
negotiations (Negotiation list accepted extra) = record { held = true; list = list; accepted = accepted; extra = extra } ∷ []
negotiations (Invocation extra word) = []
negotiations (Result extra word) = []
negotiations (Finished count) = []
negotiations (Additional extra) = []

abbrev pub invocations : Said → List Transmitted
invocations (Negotiation list accepted extra) = []
invocations (Invocation extra word) = record { held = true; extra = extra; word = word } ∷ []
invocations (Result extra word) = []
invocations (Finished count) = []
invocations (Additional extra) = []

abbrev pub results : Said → List Transmitted
results (Negotiation list accepted extra) = []
results (Invocation extra word) = []
results (Result extra word) = record { held = true; extra = extra; word = word } ∷ []
results (Finished count) = []
results (Additional extra) = []

abbrev pub announcement : ℕ → Announced
announcement count = record { held = true; count = count }

abbrev pub announcements : Said → List Announced
announcements (Negotiation list accepted extra) = []
announcements (Invocation extra word) = []
announcements (Result extra word) = []
announcements (Finished count) = announcement count ∷ []
announcements (Additional extra) = []

abbrev pub extras : Said → List ℕ
extras (Negotiation list accepted extra) = []
extras (Invocation extra word) = []
extras (Result extra word) = []
extras (Finished count) = []
extras (Additional extra) = extra ∷ []

-- A side sends the first four, each once, and the announced count is 4 more than its additional messages.
pub record SendsAll (l : List Said) : Type 0 where
  pub negotiation : length (gather negotiations l) ≡ 1
  pub invocation : length (gather invocations l) ≡ 1
  pub result : length (gather results l) ≡ 1
  pub finished : gather announcements l ≡ announcement (4 + length (gather extras l)) ∷ []

-- Nothing is refused, wherever it stands in the list.
abbrev pub NothingRefused : Store → List Message → Type 0
NothingRefused s l = (before : List Message) (m : Message) (rest : List Message) → l ≡ before ++ m ∷ rest → (receive (after s before) m).answer ≡ 0

-- No message of the activity is.
abbrev pub NoneRefused : Activity → Store → List Message → Type 0
NoneRefused a s l =
    (before : List Message) (m : Message) (rest : List Message) → l ≡ before ++ m ∷ rest → same m.activity a ≡ true
    → (receive (after s before) m).answer ≡ 0

-- Client and service differ, and both send all.
pub record Sends (a : Activity) (l : List Message) : Type 0 where
  pub differ : a.client ≢ a.service
  pub client : SendsAll (said_by a.client a l)
  pub service : SendsAll (said_by a.service a l)
