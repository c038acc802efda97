-- How a provenance store receives a message (RULES.md, The 2004 store): receive_neg, receive_inv, receive_res, receive_sf and receive_ap, with the refusals.
use Rattle.std.specs.Prelude.{ℕ, Bool, false, ◌&&◌, ◌||◌, not, cond, leb, Option, Some, None}
use Rattle.activities.specs.Activity.{by_client, neither}
use Rattle.activities.specs.Side.{side_taken, full}
use Rattle.activities.specs.Complete.{complete}
use Rattle.activities.specs.Store.{place_of, exchange_of, written}
use Rattle.activities.specs.Outcome.{Outcome}
use Rattle.activities.specs.declared.Said.{Said}
use Rattle.activities.specs.declared.Said.TheVariants.{Negotiation, Invocation, Result, Finished, Additional}
use Rattle.activities.specs.declared.Message.{Message}
use Rattle.activities.specs.declared.Side.{Side}
use Rattle.activities.specs.declared.Exchange.{Exchange}
use Rattle.activities.specs.declared.Store.{Store}
use Rattle.activities.specs.declared.Ack.{Ack}
use Rattle.activities.specs.declared.Ack.TheVariants.{NegotiationAck, InvocationAck, ResultAck, AdditionalAck}
use Rattle.activities.specs.declared.Finishing.{Finishing}

-- the row that a message is for: the client's table if the sender is the client, else the service's
abbrev pub side_of : Exchange → Message → Side
side_of e m = cond (by_client m) e.client e.service

-- both rows after the table update
unfoldable pub exchange_taken : Exchange → Message → Exchange
exchange_taken e m =
    record {
      activity = e.activity;
      client = cond (by_client m) (side_taken e.client m.said) e.client;
      service = cond (by_client m) e.service (side_taken e.service m.said);
    }

-- a seventeenth activity, or a side's ninth additional message
unfoldable pub no_room : Store → Message → Bool
no_room s m = leb 16 (place_of s m.activity) || full (side_of (exchange_of s m.activity) m) m.said

-- send(p, a, rec_neg_ack(ai)), and so for each kind; a submission finished is acknowledged by completion alone
abbrev pub ack_of : Said → Option Ack
ack_of (Negotiation list accepted extra) = Some NegotiationAck
ack_of (Invocation extra word) = Some InvocationAck
ack_of (Result extra word) = Some ResultAck
ack_of (Finished count) = None
ack_of (Additional extra) = Some AdditionalAck

-- if complete[ai], then send sf_ack(ai): to both sides, once, at the message that makes it complete
unfoldable pub completes : Exchange → Message → Bool
completes e m = complete (exchange_taken e m) && not (complete e)

abbrev pub to_both : Bool → Finishing
to_both now = record { client = now; service = now }

-- nothing changed, nothing acknowledged
abbrev pub refused : ℕ → Store → Outcome
refused n s = record { store = s; answer = n; ack = None; finished = to_both false }

abbrev pub accepted : Store → Message → Outcome
accepted s m =
    let e = exchange_of s m.activity in
    record {
      store = written s (place_of s m.activity) (exchange_taken e m);
      answer = 0;
      ack = ack_of m.said;
      finished = to_both (completes e m);
    }

-- 17 before 18
unfoldable pub receive : Store → Message → Outcome
receive s m = cond (neither m) (refused 17 s) (cond (no_room s m) (refused 18 s) (accepted s m))
