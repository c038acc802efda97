-- When a step of each kind is taken: the rules' conditions, kind by kind, as plain facts of an unbroken machine.
use Rattle.std.specs.Prelude.{ℕ, ◌≤◌, ◌<◌, ◌≡◌, ◌≢◌, true, false}
use Rattle.protocol.specs.Words.{bit}
use Rattle.protocol.specs.Slots.{number, list, is_up, queue, view, repair, entry, record_copies, ack_copies, update_copies, uack_copies}
use Rattle.protocol.specs.declared.State.{State}
use Rattle.protocol.specs.declared.Status.TheVariants.{ToSend, Waiting}
use Rattle.protocol.specs.Rule.{head_view}
use Rattle.protocol.specs.Lose.{copies}
use Rattle.protocol.specs.declared.Step.{Step}
use Rattle.protocol.specs.declared.Step.TheVariants.{Send, Receive, PreCheck, SendRecord, Timeout, TakeRecord, TakeAck, PostCheck, TakeRepair, SendUpdate, TakeUpdate, TakeUack, Expire, Lose, Crash, Restart, Checkpoint, Duplicate}

-- the head of an actor's queue is there and in this phase
pub record HeadIn (phase : ℕ) (m : State) (a : ℕ) : Type 0 where
  pub actor_in : a < m.actors
  pub queued : 1 ≤ (queue m a).len
  pub head_phase : (head_view m a).phase ≡ phase

-- a view of this machine, by its key and role; a view at a store
pub record ViewOf (m : State) (k r : ℕ) : Type 0 where
  pub key_in : k < m.made
  pub role_in : r < 2

pub record PlaceOf (m : State) (p k r : ℕ) : Type 0 where
  pub store_in : p < m.stores
  pub key_in : k < m.made
  pub role_in : r < 2

-- an interaction that the actor has received
pub record ReceivedBy (m : State) (a j : ℕ) : Type 0 where
  pub key_in : j < m.made
  pub received : 1 ≤ (view m (number j 1)).phase
  pub by_actor : (view m (number j 1)).actor ≡ a

-- 1 send: own is in from's list; each cause is an interaction that from has received
pub record SendTaken (m : State) (from to own causes : ℕ) : Type 0 where
  pub from_in : from < m.actors
  pub to_in : to < m.actors
  pub own_in : own < m.stores
  pub others : from ≢ to
  pub room : m.made < 16
  pub listed : bit (list m from) own ≡ true
  pub known : (j : ℕ) → j < 16 → bit causes j ≡ true → ReceivedBy m from j

-- 2 receive: not yet received
pub record ReceiveTaken (m : State) (k : ℕ) : Type 0 where
  pub key_in : k < m.made
  pub unreceived : (view m (number k 1)).phase ≡ 0

-- 5 timeout: head in phase 3; the store is in the list; the current one may be named up to three times
pub record TimeoutTaken (m : State) (a p : ℕ) : Type 0 where
  pub head : HeadIn 3 m a
  pub store_in : p < m.stores
  pub listed : bit (list m a) p ≡ true
  pub tries : (head_view m a).store ≡ p → (head_view m a).tries < 3

-- 6 store takes record: store up, a copy in flight
pub record TakeRecordTaken (m : State) (p k r : ℕ) : Type 0 where
  pub place : PlaceOf m p k r
  pub up : is_up m p ≡ true
  pub copy : 1 ≤ record_copies m p (number k r)

-- 7 actor takes ack: a copy in flight
pub record TakeAckTaken (m : State) (p k r : ℕ) : Type 0 where
  pub place : PlaceOf m p k r
  pub copy : 1 ≤ ack_copies m p (number k r)

-- 9 coordinator takes repair: one in flight
pub record TakeRepairTaken (m : State) (k r : ℕ) : Type 0 where
  pub view : ViewOf m k r
  pub flying : (repair m (number k r)).flying ≡ true

-- 10 send update: to-send
pub record SendUpdateTaken (m : State) (k r : ℕ) : Type 0 where
  pub view : ViewOf m k r
  pub due : (entry m (number k r)).status ≡ ToSend

-- 11 store takes update: store up, a copy in flight
pub record TakeUpdateTaken (m : State) (p k r : ℕ) : Type 0 where
  pub place : PlaceOf m p k r
  pub up : is_up m p ≡ true
  pub copy : 1 ≤ update_copies m p (number k r)

-- 12 coordinator takes uack: a copy in flight
pub record TakeUackTaken (m : State) (p k r : ℕ) : Type 0 where
  pub place : PlaceOf m p k r
  pub copy : 1 ≤ uack_copies m p (number k r)

-- 13 coordinator timeout: waiting
pub record ExpireTaken (m : State) (k r : ℕ) : Type 0 where
  pub view : ViewOf m k r
  pub waits : (entry m (number k r)).status ≡ Waiting

-- 14 lose, 18 duplicate: a copy of what is named is in flight
pub record CopyThere (m : State) (what p k r : ℕ) : Type 0 where
  pub what_in : what < 4
  pub place : PlaceOf m p k r
  pub copy : 1 ≤ copies m what p (number k r)

-- 15 crash, 17 checkpoint: up. 16 restart: down
pub record StoreUp (m : State) (p : ℕ) : Type 0 where
  pub store_in : p < m.stores
  pub up : is_up m p ≡ true

pub record RestartTaken (m : State) (p : ℕ) : Type 0 where
  pub store_in : p < m.stores
  pub down : is_up m p ≡ false

-- the condition of a step: 3, 4 and 8 ask for the head in phase 1, 2 and 4
abbrev pub Taken : State → Step → Type 0
Taken m (Send from to own word causes) = SendTaken m from to own causes
Taken m (Receive k) = ReceiveTaken m k
Taken m (PreCheck a) = HeadIn 1 m a
Taken m (SendRecord a) = HeadIn 2 m a
Taken m (Timeout a p) = TimeoutTaken m a p
Taken m (TakeRecord p k r) = TakeRecordTaken m p k r
Taken m (TakeAck p k r) = TakeAckTaken m p k r
Taken m (PostCheck a) = HeadIn 4 m a
Taken m (TakeRepair k r) = TakeRepairTaken m k r
Taken m (SendUpdate k r) = SendUpdateTaken m k r
Taken m (TakeUpdate p k r) = TakeUpdateTaken m p k r
Taken m (TakeUack p k r) = TakeUackTaken m p k r
Taken m (Expire k r) = ExpireTaken m k r
Taken m (Lose what p k r) = CopyThere m what p k r
Taken m (Crash p) = StoreUp m p
Taken m (Restart p) = RestartTaken m p
Taken m (Checkpoint p) = StoreUp m p
Taken m (Duplicate what p k r) = CopyThere m what p k r
