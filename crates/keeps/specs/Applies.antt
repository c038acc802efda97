-- When each refusal number applies to a step: docs/REFUSALS.md, row by row, each judged by itself. A row whose words need what isn't
-- there (a store outside the machine, the head of an empty queue) reads a blank or another's slot; then 2 or 7 applies, which is lower.
use Rattle.std.specs.Prelude.{ℕ, ◌≤◌, ◌<◌, ◌≡◌, true, false}
use mathlib.Core.List.{List, [], ◌∷◌, Memᴰ}
use Rattle.protocol.specs.Words.{bit}
use Rattle.protocol.specs.Slots.{number, list, is_up, queue, view, repair, entry, record_copies, ack_copies, update_copies, uack_copies}
use Rattle.protocol.specs.Broken.{broken_of}
use Rattle.protocol.specs.declared.State.{State}
use Rattle.protocol.specs.declared.Status.TheVariants.{ToSend, Waiting}
use Rattle.protocol.specs.Rule.{head_view}
use Rattle.protocol.specs.Lose.{copies}
use Rattle.protocol.specs.Step.{step_of}
use Rattle.protocol.specs.declared.Step.{Step}
use Rattle.protocol.specs.declared.Step.TheVariants.{Send, Receive, PreCheck, SendRecord, Timeout, TakeRecord, TakeAck, PostCheck, TakeRepair, SendUpdate, TakeUpdate, TakeUack, Expire, Lose, Crash, Restart, Checkpoint, Duplicate}
use Rattle.keeps.specs.Taken.{ReceivedBy}
use Rattle.unbroken.specs.Lowest.{IsLowest}

-- what a step may name
pub data Thing : Type 0 where
  actor store key role what : ℕ → Thing

-- its number
abbrev pub value_of : Thing → ℕ
value_of (actor a) = a
value_of (store p) = p
value_of (key k) = k
value_of (role r) = r
value_of (what w) = w

-- all that a step names, in the order of its fields
abbrev pub named : Step → List Thing
named (Send from to own word causes) = actor from ∷ actor to ∷ store own ∷ []
named (Receive k) = key k ∷ []
named (PreCheck a) = actor a ∷ []
named (SendRecord a) = actor a ∷ []
named (Timeout a p) = actor a ∷ store p ∷ []
named (TakeRecord p k r) = store p ∷ key k ∷ role r ∷ []
named (TakeAck p k r) = store p ∷ key k ∷ role r ∷ []
named (PostCheck a) = actor a ∷ []
named (TakeRepair k r) = key k ∷ role r ∷ []
named (SendUpdate k r) = key k ∷ role r ∷ []
named (TakeUpdate p k r) = store p ∷ key k ∷ role r ∷ []
named (TakeUack p k r) = store p ∷ key k ∷ role r ∷ []
named (Expire k r) = key k ∷ role r ∷ []
named (Lose w p k r) = what w ∷ store p ∷ key k ∷ role r ∷ []
named (Crash p) = store p ∷ []
named (Restart p) = store p ∷ []
named (Checkpoint p) = store p ∷ []
named (Duplicate w p k r) = what w ∷ store p ∷ key k ∷ role r ∷ []

abbrev pub Names : Step → Thing → Type 0
Names s x = Memᴰ x (named s)

-- it is in this machine
abbrev pub In : State → Thing → Type 0
In m (actor a) = a < m.actors
In m (store p) = p < m.stores
In m (key k) = k < m.made
In m (role r) = r < 2
In m (what w) = w < 4

-- the phase, status or copy that a rule needs; 1, 15, 16 and 17 need none
abbrev pub HeadAt : ℕ → State → ℕ → Type 0
HeadAt phase m a = (1 ≤ (queue m a).len) × ((head_view m a).phase ≡ phase)

abbrev pub Needs : State → Step → Type 0
Needs m (Send from to own word causes) = Unit
Needs m (Receive k) = (view m (number k 1)).phase ≡ 0
Needs m (PreCheck a) = HeadAt 1 m a
Needs m (SendRecord a) = HeadAt 2 m a
Needs m (Timeout a p) = HeadAt 3 m a
Needs m (TakeRecord p k r) = 1 ≤ record_copies m p (number k r)
Needs m (TakeAck p k r) = 1 ≤ ack_copies m p (number k r)
Needs m (PostCheck a) = HeadAt 4 m a
Needs m (TakeRepair k r) = (repair m (number k r)).flying ≡ true
Needs m (SendUpdate k r) = (entry m (number k r)).status ≡ ToSend
Needs m (TakeUpdate p k r) = 1 ≤ update_copies m p (number k r)
Needs m (TakeUack p k r) = 1 ≤ uack_copies m p (number k r)
Needs m (Expire k r) = (entry m (number k r)).status ≡ Waiting
Needs m (Lose w p k r) = 1 ≤ copies m w p (number k r)
Needs m (Crash p) = Unit
Needs m (Restart p) = Unit
Needs m (Checkpoint p) = Unit
Needs m (Duplicate w p k r) = 1 ≤ copies m w p (number k r)

pub data Applies (m : State) : Step → ℕ → Type 0 where
  -- 1 broken machine value
  is_broken : {s : Step} → broken_of m ≡ true → Applies m s 1
  -- 2 actor, store, key, role or what not in this machine
  is_outside : {s : Step} (x : Thing) → Names s x → (In m x → ⊥) → Applies m s 2
  -- 3 from equals to
  to_itself : (from to own word causes : ℕ) → from ≡ to → Applies m (Send from to own word causes) 3
  -- 4 sixteen interactions made
  is_full : (from to own word causes : ℕ) → 16 ≤ m.made → Applies m (Send from to own word causes) 4
  -- 5 store down (6, 11, 15, 17)
  record_down : (p k r : ℕ) → is_up m p ≡ false → Applies m (TakeRecord p k r) 5
  update_down : (p k r : ℕ) → is_up m p ≡ false → Applies m (TakeUpdate p k r) 5
  crash_down : (p : ℕ) → is_up m p ≡ false → Applies m (Crash p) 5
  checkpoint_down : (p : ℕ) → is_up m p ≡ false → Applies m (Checkpoint p) 5
  -- 6 restart of a store that is up
  restart_up : (p : ℕ) → is_up m p ≡ true → Applies m (Restart p) 6
  -- 7 the phase, status or copy that the rule needs isn't there
  is_missing : {s : Step} → (Needs m s → ⊥) → Applies m s 7
  -- 8 store not in the list, or in a timeout the current one at three tries
  own_unlisted : (from to own word causes : ℕ) → bit (list m from) own ≡ false → Applies m (Send from to own word causes) 8
  timeout_unlisted : (a p : ℕ) → bit (list m a) p ≡ false → Applies m (Timeout a p) 8
  timeout_current : (a p : ℕ) → (head_view m a).store ≡ p → 3 ≤ (head_view m a).tries → Applies m (Timeout a p) 8
  -- 9 a cause that from hasn't received, or that isn't made
  unreceived : (from to own word causes j : ℕ) → j < 16 → bit causes j ≡ true → (ReceivedBy m from j → ⊥) → Applies m (Send from to own word causes) 9

-- The lowest number that applies is given.
abbrev pub StepRefusals : Type 0
StepRefusals = (m : State) (s : Step) → IsLowest (Applies m s) (step_of m s).answer
