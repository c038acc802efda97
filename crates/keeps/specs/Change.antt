-- What a step can change. Each taken step is a chain of these changes, and each of them leaves an unbroken machine unbroken; so a
-- law that a change keeps, every step keeps, and no proof walks the kinds again.
use Rattle.std.specs.Prelude.{ℕ, ◌*◌, ◌-◌, ◌≤◌, ◌<◌, ◌≡◌, true, List, get_or, set}
use Rattle.protocol.specs.Slots.{number, place, links_place, no_links, view, entry, shelf, record_copies, ack_copies, update_copies, uack_copies, contents, is_held, is_up}
use Rattle.protocol.specs.Writes.{with_view, with_entry, with_shelf, with_contents_at, with_cause_links, with_records, with_acks, with_updates, with_uacks}
use Rattle.protocol.specs.declared.State.{State}
use Rattle.protocol.specs.declared.View.{View}
use Rattle.protocol.specs.declared.Status.{Status}
use Rattle.protocol.specs.declared.Status.TheVariants.{ToSend, Waiting, Done}
use Rattle.protocol.specs.Views.{phased}
use Rattle.protocol.specs.Rule.{head, head_view, more}
use Rattle.protocol.specs.Send.{sent}
use Rattle.protocol.specs.Receive.{received_of}
use Rattle.protocol.specs.PreCheck.{checked_view}
use Rattle.protocol.specs.Timeout.{timed_view}
use Rattle.protocol.specs.TakeRecord.{written_contents, written_links, taken_in}
use Rattle.protocol.specs.TakeUpdate.{updated_in}
use Rattle.protocol.specs.Crash.{crashed}
use Rattle.protocol.specs.Restart.{restarted}
use Rattle.protocol.specs.Checkpoint.{checkpointed}
use Rattle.protocol.specs.PostCheck.{post_checked}
use Rattle.protocol.specs.TakeRepair.{repair_taken}
use Rattle.protocol.specs.SendUpdate.{in_status}
use Rattle.keeps.specs.Taken.{HeadIn, ViewOf, PlaceOf, SendTaken, ReceiveTaken, TimeoutTaken, TakeRepairTaken}

-- the record of a queue's head goes on: checked (3), sent (4), timed out (5), acknowledged by its current store (7)
pub data HeadMove (m : State) (a : ℕ) : View → Type 0 where
  is_checked : HeadIn 1 m a → HeadMove m a (checked_view m (head_view m a))
  is_sent : HeadIn 2 m a → HeadMove m a (phased 3 (head_view m a))
  is_timed : (p : ℕ) → TimeoutTaken m a p → HeadMove m a (timed_view p (head_view m a))
  is_acked : (p : ℕ) → HeadIn 3 m a → (head_view m a).store ≡ p → 1 ≤ ack_copies m p (head m a) → HeadMove m a (phased 4 (head_view m a))

-- the copies in flight, of all four
abbrev pub with_flight : State → List ℕ → List ℕ → List ℕ → List ℕ → State
with_flight m records acks updates uacks = with_uacks (with_updates (with_acks (with_records m records) acks) updates) uacks

-- a copy comes: of a record to the current store of a view in phase 3, of an update to the destination of an entry that waits.
-- Or, where there are copies, their number becomes another, up to fifteen: one goes, or one comes twice
pub data FlightMove (m : State) : List ℕ → List ℕ → List ℕ → List ℕ → Type 0 where
  record_comes : (p v : ℕ) → p < m.stores → v < m.made * 2 → (view m v).phase ≡ 3 → (view m v).store ≡ p
      → FlightMove m (set m.records (place p v) (more (record_copies m p v))) m.acks m.updates m.uacks
  update_comes : (p k r : ℕ) → PlaceOf m p k r → (entry m (number k r)).status ≡ Waiting → (entry m (number k r)).destination ≡ p
      → FlightMove m m.records m.acks (set m.updates (place p (number k r)) (more (update_copies m p (number k r)))) m.uacks
  records_there : (p k r n : ℕ) → PlaceOf m p k r → 1 ≤ record_copies m p (number k r) → n ≤ 15
      → FlightMove m (set m.records (place p (number k r)) n) m.acks m.updates m.uacks
  acks_there : (p k r n : ℕ) → PlaceOf m p k r → 1 ≤ ack_copies m p (number k r) → n ≤ 15
      → FlightMove m m.records (set m.acks (place p (number k r)) n) m.updates m.uacks
  updates_there : (p k r n : ℕ) → PlaceOf m p k r → 1 ≤ update_copies m p (number k r) → n ≤ 15
      → FlightMove m m.records m.acks (set m.updates (place p (number k r)) n) m.uacks
  uacks_there : (p k r n : ℕ) → PlaceOf m p k r → 1 ≤ uack_copies m p (number k r) → n ≤ 15
      → FlightMove m m.records m.acks m.updates (set m.uacks (place p (number k r)) n)

-- a store once it has taken a view's record, and once it has taken the update of a view's entry; the copy goes by itself
abbrev pub with_taken : State → ℕ → ℕ → ℕ → State
with_taken m p k r =
    let v = number k r in
    with_shelf
    (with_cause_links
    (with_contents_at m p v (written_contents (is_held m p v) (contents m p v) (view m v)))
    p k (written_links r (is_held m p v) (view m v) (get_or m.links (links_place p k) no_links)))
    p (taken_in (shelf m p) v (view m v))

abbrev pub with_updated : State → ℕ → ℕ → ℕ → State
with_updated m p k r = with_shelf m p (updated_in (shelf m p) (number k r) (number k (1 - r)) (entry m (number k r)).own)

-- an entry's status: the update is sent (10), the wait is over (13), the destination has answered (12)
pub data StatusMove (m : State) (v : ℕ) : Status → Type 0 where
  is_waiting : (entry m v).status ≡ ToSend → StatusMove m v Waiting
  is_expired : (entry m v).status ≡ Waiting → StatusMove m v ToSend
  is_done : (p : ℕ) → p < m.stores → (entry m v).status ≡ Waiting → (entry m v).destination ≡ p → 1 ≤ uack_copies m p v → StatusMove m v Done

pub data Change (m : State) : State → Type 0 where
  on_send : (from to own word causes : ℕ) → SendTaken m from to own causes → Change m (sent m from to own word causes)
  on_receive : (k : ℕ) → ReceiveTaken m k → Change m (received_of m k)
  on_head : (a : ℕ) (w : View) → HeadMove m a w → Change m (with_view m (head m a) w)
  on_settle : (a : ℕ) → HeadIn 4 m a → Change m (post_checked m a)
  on_flight : (records acks updates uacks : List ℕ) → FlightMove m records acks updates uacks → Change m (with_flight m records acks updates uacks)
  on_taken : (p k r : ℕ) → PlaceOf m p k r → 1 ≤ record_copies m p (number k r) → Change m (with_taken m p k r)
  on_updated : (p k r : ℕ) → PlaceOf m p k r → 1 ≤ update_copies m p (number k r) → Change m (with_updated m p k r)
  on_status : (k r : ℕ) (t : Status) → ViewOf m k r → StatusMove m (number k r) t → Change m (with_entry m (number k r) (in_status t (entry m (number k r))))
  on_repair : (k r : ℕ) → TakeRepairTaken m k r → Change m (repair_taken m k r)
  on_crash : (p : ℕ) → p < m.stores → Change m (crashed m p)
  on_restart : (p : ℕ) → p < m.stores → Change m (restarted m p)
  on_checkpoint : (p : ℕ) → p < m.stores → is_up m p ≡ true → Change m (checkpointed m p)

-- a chain of changes
pub data Changes (m : State) : State → Type 0 where
  nothing : Changes m m
  then : (n o : State) → Changes m n → Change n o → Changes m o
