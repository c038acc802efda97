-- Stores by the rules with some of them replaced, and two promises said of them, word for word.
use Rattle.std.specs.Prelude.{◌≡◌, Bool, true, false, ◌&&◌, not, cond, List, [], ◌∷◌, ◌++◌}
use Rattle.activities.specs.Activity.{same, by_client, neither}
use Rattle.activities.specs.Side.{side_taken}
use Rattle.activities.specs.Complete.{complete}
use Rattle.activities.specs.Store.{empty_store, place_of, exchange_of, written}
use Rattle.activities.specs.Receive.{side_of, no_room, ack_of, to_both, refused}
use Rattle.activities.specs.declared.Activity.{Activity}
use Rattle.activities.specs.declared.Said.{Said}
use Rattle.activities.specs.declared.Message.{Message}
use Rattle.activities.specs.declared.Side.{Side}
use Rattle.activities.specs.declared.Exchange.{Exchange}
use Rattle.activities.specs.declared.Store.{Store}
use Rattle.activities.specs.declared.Finishing.{Finishing}
use Rattle.activities.specs.Outcome.{Outcome}
use Rattle.completes.specs.Order.{nothing}
use Rattle.completes.specs.Sends.{messages_of, Sends}
use Rattle.completes.specs.Promises.{Sized, second}

-- the rules that are easily got wrong: what a message puts into a row, when an activity is complete, and whom that is told
pub record Rules : Type 0 where
  pub taken : Side → Said → Side
  pub complete : Exchange → Bool
  pub told : Message → Bool → Finishing

abbrev pub right : Rules
right = record { taken = side_taken; complete = complete; told = λ m now. to_both now }

-- as exchange_taken
unfoldable pub exchange_by : Rules → Exchange → Message → Exchange
exchange_by rules e m =
    record {
      activity = e.activity;
      client = cond (by_client m) (rules.taken e.client m.said) e.client;
      service = cond (by_client m) e.service (rules.taken e.service m.said);
    }

-- as accepted
unfoldable pub accepted_by : Rules → Store → Message → Outcome
accepted_by rules s m =
    let e = exchange_of s m.activity in
    record {
      store = written s (place_of s m.activity) (exchange_by rules e m);
      answer = 0;
      ack = ack_of m.said;
      finished = rules.told m (rules.complete (exchange_by rules e m) && not (rules.complete e));
    }

-- as receive
unfoldable pub receive_by : Rules → Store → Message → Outcome
receive_by rules s m = cond (neither m) (refused 17 s) (cond (no_room s m) (refused 18 s) (accepted_by rules s m))

-- as after
unfoldable pub after_by : Rules → Store → List Message → Store
after_by rules s [] = s
after_by rules s (m ∷ l) = after_by rules (receive_by rules s m).store l

-- as NothingRefused
abbrev pub NothingRefusedBy : Rules → Store → List Message → Type 0
NothingRefusedBy rules s l =
    (before : List Message) (m : Message) (rest : List Message) → l ≡ before ++ m ∷ rest → (receive_by rules (after_by rules s before) m).answer ≡ 0

-- as CompletesAtLast
pub record CompletesBy (rules : Rules) (a : Activity) (l : List Message) : Type 0 where
  pub complete : (before rest : List Message) → l ≡ before ++ rest → rules.complete (exchange_of (after_by rules empty_store before) a) ≡ nothing (messages_of a rest)
  pub finished : (before : List Message) (m : Message) (rest : List Message) → l ≡ before ++ m ∷ rest → same m.activity a ≡ true
      → (receive_by rules (after_by rules empty_store before) m).finished ≡ to_both (nothing (messages_of a rest))

-- What both sides send completes at its last message and not before, by these rules.
abbrev pub AtLastBy : Rules → Type 0
AtLastBy rules = (a : Activity) (l : List Message) → Sends a l → NothingRefusedBy rules empty_store l → CompletesBy rules a l

-- A second message of a kind changes nothing, by these rules.
abbrev pub RepeatsBy : Rules → Type 0
RepeatsBy rules =
    (s : Store) → Sized s → (m : Message) → neither m ≡ false → second (side_of (exchange_of s m.activity) m) m.said ≡ true
    → receive_by rules s m ≡ record { store = s; answer = 0; ack = ack_of m.said; finished = to_both false }
