-- An activity, what its two sides send, and another activity's messages between them.
use Rattle.std.specs.Prelude.{ℕ, List, [], ◌∷◌, ◌++◌}
use Rattle.activities.specs.declared.Activity.{Activity}
use Rattle.activities.specs.declared.Said.{Said}
use Rattle.activities.specs.declared.Said.TheVariants.{Negotiation, Invocation, Result, Finished, Additional}
use Rattle.activities.specs.declared.Message.{Message}

-- session 7, nonce 1, thread 0: client 10 calls service 20; and another, to service 30
abbrev pub called : Activity
called = record { session = 7; nonce = 1; thread = 0; client = 10; service = 20 }

abbrev pub another : Activity
another = record { session = 7; nonce = 2; thread = 0; client = 10; service = 30 }

abbrev pub from : ℕ → Activity → Said → Message
from sender a said = record { sender = sender; activity = a; said = said }

-- the client sends two additional messages, which are equal, and announces six in all
abbrev pub clients : List Message
clients =
    from 10 called (Negotiation 1 2 3)
    ∷ from 10 called (Finished 6)
    ∷ from 10 called (Additional 5)
    ∷ from 10 another (Invocation 4 4)
    ∷ from 10 called (Invocation 6 7)
    ∷ from 10 called (Additional 5)
    ∷ from 10 called (Result 8 9)
    ∷ []

-- the service sends none, and announces four
abbrev pub services : List Message
services =
    from 20 called (Result 18 19)
    ∷ from 30 another (Finished 4)
    ∷ from 20 called (Invocation 16 17)
    ∷ from 20 called (Finished 4)
    ∷ []

-- the activity's last message
abbrev pub last : Message
last = from 20 called (Negotiation 1 2 13)

abbrev pub run : List Message
run = clients ++ services ++ (last ∷ [])

-- the same messages, the service's first
abbrev pub turned : List Message
turned = services ++ (last ∷ []) ++ clients
