-- The promises are not empty: a run on which the premises of each hold, in the words in which it states them.
use Rattle.std.specs.Prelude.{◌≡◌, ◌≢◌, true, false}
use Rattle.activities.specs.Activity.{same, neither}
use Rattle.activities.specs.Store.{empty_store, exchange_of}
use Rattle.activities.specs.Receive.{side_of, receive}
use Rattle.activities.specs.Run.{after}
use Rattle.activities.specs.declared.Said.TheVariants.{Negotiation}
use Rattle.activities.specs.declared.Message.{Message}
use Rattle.completes.specs.Order.{Reordered}
use Rattle.completes.specs.Sends.{NothingRefused, Sends}
use Rattle.completes.specs.Promises.{second, finishings}
use Rattle.completes_bites.specs.Setting.{called, another, from, clients, run, turned}

-- another negotiation of the client, and one of a stranger
abbrev pub again : Message
again = from 10 called (Negotiation 9 9 9)

abbrev pub stranger : Message
stranger = from 99 called (Negotiation 1 2 3)

pub record Witnesses : Type 0 where
  -- any order
  pub sends : Sends called run
  pub taken : NothingRefused empty_store run
  pub reordered : Reordered run turned
  -- a second message of a kind
  pub known : neither again ≡ false
  pub repeat : second (side_of (exchange_of (after empty_store clients) called) again) again.said ≡ true
  -- a refused message
  pub refused : (receive (after empty_store clients) stranger).answer ≢ 0
  -- another activity
  pub other : same called another ≡ false
  -- the finished acknowledgements are sent at all
  pub finished : finishings (λ f. f.service) called empty_store run ≡ 1
