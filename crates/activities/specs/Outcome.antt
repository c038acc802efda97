-- What a message gives, as the rule has it, and as the code tells it.
use Rattle.std.specs.Prelude.{ℕ, false, Result, Ok, Err, Option, None}
use Rattle.activities.specs.declared.Ack.{Ack}
use Rattle.activities.specs.declared.Finishing.{Finishing}
use Rattle.activities.specs.declared.Receipt.{Receipt}
use Rattle.activities.specs.declared.Received.{Received}
use Rattle.activities.specs.declared.Store.{Store}
use Rattle.activities.specs.declared.refusal.StoreRefusal.{StoreRefusal}
use Rattle.activities.specs.declared.refusal.StoreRefusal.TheVariants.{UnknownSender, NoRoom}

-- the number is 0, or the refusal's
pub record Outcome : Type 0 where
  pub store : Store
  pub answer : ℕ
  pub ack : Option Ack
  pub finished : Finishing

abbrev pub number : StoreRefusal → ℕ
number UnknownSender = 17
number NoRoom = 18

-- 0, or the refusal's
abbrev pub answer : Result Receipt StoreRefusal → ℕ
answer (Ok receipt) = 0
answer (Err r) = number r

-- with a refusal nothing is acknowledged
abbrev pub ack : Result Receipt StoreRefusal → Option Ack
ack (Ok receipt) = receipt.ack
ack (Err r) = None

abbrev pub finished : Result Receipt StoreRefusal → Finishing
finished (Ok receipt) = receipt.finished
finished (Err r) = record { client = false; service = false }

abbrev pub told : Store → Result Receipt StoreRefusal → Outcome
told s a = record { store = s; answer = answer a; ack = ack a; finished = finished a }

abbrev pub told_received : Received → Outcome
told_received r = told r.store r.answer
