-- A provenance store: the activities that it holds, each with its two rows.
use Rattle.std.specs.Prelude.{ℕ, suc, ◌+◌, min, cond, List, [], ◌∷◌, ltb, get_or, set, take, replicate}
use Rattle.activities.specs.Activity.{same}
use Rattle.activities.specs.Side.{empty_side}
use Rattle.activities.specs.declared.Activity.{Activity}
use Rattle.activities.specs.declared.Exchange.{Exchange}
use Rattle.activities.specs.declared.Store.{Store}

-- an activity with nothing in either row
abbrev pub fresh : Activity → Exchange
fresh a = record { activity = a; client = empty_side; service = empty_side }

abbrev pub blank : Activity
blank = record { session = 0; nonce = 0; thread = 0; client = 0; service = 0 }

-- The initial state: empty tables.
abbrev pub empty_store : Store
empty_store = record { used = 0; exchanges = replicate 16 (fresh blank) }

-- the activities held: a count beyond the room of sixteen is sixteen
abbrev pub holds : Store → List Exchange
holds s = take (min s.used 16) s.exchanges

-- where an activity stands, or how many there are
unfoldable pub place : List Exchange → Activity → ℕ
place [] a = 0
place (e ∷ l) a = cond (same e.activity a) 0 (suc (place l a))

abbrev pub place_of : Store → Activity → ℕ
place_of s a = place (holds s) a

-- the two rows of an activity: client_T[ai] and service_T[ai], which are ∅ for one that isn't held
unfoldable pub exchange_of : Store → Activity → Exchange
exchange_of s a = get_or (holds s) (place_of s a) (fresh a)

-- the store with the rows at a place written anew; the place behind the last makes one activity more
unfoldable pub written : Store → ℕ → Exchange → Store
written s at e = record { used = cond (ltb at s.used) s.used (at + 1); exchanges = set s.exchanges at e }
