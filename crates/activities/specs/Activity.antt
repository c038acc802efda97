-- ACTIVITYID: session, nonce, thread, client and service; two are the same if all five are.
use Rattle.std.specs.Prelude.{Bool, ◌&&◌, not, eqb}
use Rattle.activities.specs.declared.Activity.{Activity}
use Rattle.activities.specs.declared.Message.{Message}

unfoldable pub same : Activity → Activity → Bool
same a b =
    eqb a.session b.session && eqb a.nonce b.nonce && eqb a.thread b.thread && eqb a.client b.client && eqb a.service b.service

-- if a = ai.client, .. elif a = ai.service
abbrev pub by_client : Message → Bool
by_client m = eqb m.sender m.activity.client

abbrev pub by_service : Message → Bool
by_service m = eqb m.sender m.activity.service

-- a sender that is neither the client nor the service
abbrev pub neither : Message → Bool
neither m = not (by_client m) && not (by_service m)
