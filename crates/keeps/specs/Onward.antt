-- What no step undoes: the setup and the interactions made, what a record says, how far it has come, that it has an entry. What lasts in
-- a store stands in Lasting.antt.
use Rattle.std.specs.Prelude.{ℕ, ◌*◌, ◌≤◌, ◌<◌, ◌≡◌, ◌≢◌, true, false}
use Rattle.protocol.specs.Slots.{number, status_number, view, repair, entry}
use Rattle.protocol.specs.Broken.{broken_of}
use Rattle.protocol.specs.Closed.{closed_of}
use Rattle.protocol.specs.declared.State.{State}
use Rattle.protocol.specs.declared.View.{View}
use Rattle.protocol.specs.Step.{step_of}
use Rattle.protocol.specs.declared.Step.{Step}

-- a view's record w becomes x
pub record ViewOn (w x : View) : Type 0 where
  pub actor : x.actor ≡ w.actor
  -- a phase never falls back, but from 3 to 2
  pub phase : (c : ℕ) → c ≢ 3 → c ≤ w.phase → c ≤ x.phase
  -- what is said stays; changed, once set, stays set; the links stay once they are checked
  pub word : 1 ≤ w.phase → x.word ≡ w.word
  pub causes : 1 ≤ w.phase → x.causes ≡ w.causes
  pub viewlink : 1 ≤ w.phase → x.viewlink ≡ w.viewlink
  pub changed : 1 ≤ w.phase → w.changed ≡ true → x.changed ≡ true
  pub links : 2 ≤ w.phase → x.links ≡ w.links
  -- what is acknowledged moves no more, and what is settled doesn't change
  pub store : 4 ≤ w.phase → x.store ≡ w.store
  pub unmoved : 4 ≤ w.phase → x.changed ≡ w.changed
  pub settled : w.phase ≡ 5 → x ≡ w

pub record Onward (m n : State) : Type 0 where
  -- the setup
  pub stores : n.stores ≡ m.stores
  pub actors : n.actors ≡ m.actors
  pub homes : n.homes ≡ m.homes
  pub lists : n.lists ≡ m.lists
  -- the number of interactions never falls, and each view goes on
  pub made : m.made ≤ n.made
  pub views : (v : ℕ) → v < m.made * 2 → ViewOn (view m v) (view n v)
  -- an entry is never forgotten
  pub entered : (v : ℕ) → v < 32 → 1 ≤ status_number (entry m v).status → 1 ≤ status_number (entry n v).status

-- a view rests: in phase 5, no repair in flight, and no entry that is to-send (1) or waiting (2)
pub record Resting (m : State) (v : ℕ) : Type 0 where
  pub phase : (view m v).phase ≡ 5
  pub repair : (repair m v).flying ≡ false
  pub due : status_number (entry m v).status ≢ 1
  pub awaited : status_number (entry m v).status ≢ 2

-- an interaction is closed: both of its views rest
pub record Closed (m : State) (k : ℕ) : Type 0 where
  pub key_in : k < m.made
  pub sender : Resting m (number k 0)
  pub receiver : Resting m (number k 1)

abbrev pub ClosedSays : Type 0
ClosedSays = (m : State) (k : ℕ) → broken_of m ≡ false → (closed_of m k ≡ true → Closed m k) × (Closed m k → closed_of m k ≡ true)

-- every step, taken or refused, of every machine
abbrev pub StepOnward : Type 0
StepOnward = (m : State) (s : Step) → Onward m (step_of m s).state

-- closed stays closed
abbrev pub ClosedStays : Type 0
ClosedStays = (m : State) (s : Step) (k : ℕ) → closed_of m k ≡ true → closed_of (step_of m s).state k ≡ true
