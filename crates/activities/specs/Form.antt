-- The bytes that the program reads: a count (two bytes), then that many messages, low byte first, and nothing behind them.
use Rattle.std.specs.Prelude.{ℕ, zero, suc, ◌+◌, ◌-◌, ◌*◌, Bool, ◌&&◌, not, cond, List, [], ◌∷◌, leb, ltb, eqb, length, get_or}
use Rattle.activities.specs.declared.Activity.{Activity}
use Rattle.activities.specs.declared.Said.{Said}
use Rattle.activities.specs.declared.Said.TheVariants.{Negotiation, Invocation, Result, Finished, Additional}
use Rattle.activities.specs.declared.Message.{Message}

abbrev pub byte : List ℕ → ℕ → ℕ
byte s i = get_or s i 0

unfoldable pub word : List ℕ → ℕ → ℕ
word s i = byte s i + byte s (i + 1) * 256 + byte s (i + 2) * 65536 + byte s (i + 3) * 16777216

-- two bytes
abbrev pub count_of : List ℕ → ℕ
count_of s = byte s 0 + byte s 1 * 256

-- sender, session, nonce, thread, client and service (four bytes each), the kind (one byte), its fields (four bytes each)
abbrev pub kind_at : List ℕ → ℕ → ℕ
kind_at s at = byte s (at + 24)

unfoldable pub activity_at : List ℕ → ℕ → Activity
activity_at s at =
    record { session = word s (at + 4); nonce = word s (at + 8); thread = word s (at + 12); client = word s (at + 16); service = word s (at + 20) }

-- 0 negotiation, 1 invocation, 2 result, 3 submission finished, 4 additional
unfoldable pub said_at : List ℕ → ℕ → Said
said_at s at =
    let kind = kind_at s at in
    cond (eqb kind 0) (Negotiation (word s (at + 25)) (word s (at + 29)) (word s (at + 33)))
    (cond (eqb kind 1) (Invocation (word s (at + 25)) (word s (at + 29)))
    (cond (eqb kind 2) (Result (word s (at + 25)) (word s (at + 29)))
    (cond (eqb kind 3) (Finished (word s (at + 25)))
    (Additional (word s (at + 25))))))

unfoldable pub message_at : List ℕ → ℕ → Message
message_at s at = record { sender = word s at; activity = activity_at s at; said = said_at s at }

-- how many bytes the fields of a kind take: 3, 2, 2, 1, 1 fields; 0 for an unknown kind
unfoldable pub width_of : ℕ → ℕ
width_of kind = cond (eqb kind 0) 12 (cond (ltb kind 3) 8 (cond (ltb kind 5) 4 0))

-- the place behind a message; 0 for an unknown kind, or where the bytes end before the fields do
unfoldable pub next_at : List ℕ → ℕ → ℕ
next_at s at =
    let left = length s - at in
    let fields = width_of (kind_at s at) in
    cond (ltb left 25) 0 (cond (eqb fields 0) 0 (cond (ltb left (25 + fields)) 0 (at + 25 + fields)))

-- n messages stand from here to the end
unfoldable pub messages_to : List ℕ → ℕ → ℕ → Bool
messages_to s zero at = eqb at (length s)
messages_to s (suc n) at = not (eqb (next_at s at) 0) && messages_to s n (next_at s at)

unfoldable pub well_formed : List ℕ → Bool
well_formed s = leb 2 (length s) && messages_to s (count_of s) 2

-- the n messages from here
unfoldable pub messages_from : List ℕ → ℕ → ℕ → List Message
messages_from s zero at = []
messages_from s (suc n) at = message_at s at ∷ messages_from s n (next_at s at)
