-- Messages for a store of the 2004 protocol, and what is told of one.
use Rattle.std.specs.Prelude.{ℕ, zero, suc, ◌+◌}
use Rattle.activities.specs.Store.{empty_store}
use Rattle.activities.specs.Receive.{receive}
use Rattle.activities.specs.declared.Activity.{Activity}
use Rattle.activities.specs.declared.Said.TheVariants.{Negotiation, Invocation}
use Rattle.activities.specs.declared.Message.{Message}
use Rattle.activities.specs.declared.Store.{Store}

-- an activity of client 1 and service 2
abbrev pub exchanged : ℕ → Activity
exchanged session = record { session = session; nonce = 0; thread = 0; client = 1; service = 2 }

-- the client's messages of an activity
abbrev pub invocation : ℕ → Message
invocation session = record { sender = 1; activity = exchanged session; said = Invocation 0 7 }

abbrev pub negotiation : ℕ → ℕ → Message
negotiation session extra = record { sender = 1; activity = exchanged session; said = Negotiation 0 0 extra }

-- the store after the client's invocation in each of so many activities
unfoldable pub filled : ℕ → Store
filled zero = empty_store
filled (suc n) = (receive (filled n) (invocation n)).store

-- what is told of a message: its number, and the activities of the store after it
abbrev pub receive_told : Message → Store → ℕ
receive_told m s = (receive s m).answer + (receive s m).store.used
