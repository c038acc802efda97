-- The guarantees bite: five easy ways to get a rule wrong, each as a rule, with a run on which a guarantee fails by it.
use Rattle.std.specs.Prelude.{ℕ, ◌+◌, ◌-◌, ◌≡◌, ◌≢◌, true, List, [], ◌∷◌, ◌++◌, get_or}
use Rattle.protocol.specs.Words.{bit}
use Rattle.protocol.specs.Slots.{number, shelf, view, entry, lasting_viewlink as viewlink}
use Rattle.protocol.specs.Stores.{relinked_at}
use Rattle.protocol.specs.Writes.{with_view, with_entry, with_shelf}
use Rattle.protocol.specs.Closed.{closed_of}
use Rattle.protocol.specs.declared.State.{State}
use Rattle.protocol.specs.Views.{phased}
use Rattle.protocol.specs.Rule.{head, head_view}
use Rattle.protocol.specs.TakeRecord.{record_taken}
use Rattle.protocol.specs.TakeAck.{acked_view, ack_taken}
use Rattle.protocol.specs.TakeRepair.{repair_taken}
use Rattle.protocol.specs.TakeUack.{finished_entry, uack_taken}
use Rattle.protocol.specs.Step.{after_of}
use Rattle.protocol.specs.Kinds.{on_pre_check, on_take_record, on_take_ack, on_take_repair, on_take_uack}
use Rattle.protocol.specs.declared.Step.{Step}
use Rattle.protocol.specs.declared.Step.TheVariants.{Receive, SendRecord, Timeout, TakeAck, PostCheck, TakeRepair, SendUpdate, TakeUpdate, TakeUack, Lose, Checkpoint}
use Rattle.bites.specs.Setting.{M, S, sends, moves, keeps, settles, updates}
use Rattle.bites.specs.Witnesses.{moved_receipt}
use Rattle.bites.specs.Variants.{Rules, right, run_by, accepted_by, AckedIn, CauseLinksBy, ViewLinksBy}

-- 1. Letting a late record overwrite a viewlink that an update wrote first: the viewlink is written, whatever was there.
unfoldable pub overwritten : State → ℕ → ℕ → ℕ → State
overwritten m p k r =
    let n = record_taken m p k r in
    with_shelf n p (relinked_at (shelf n p) (number k r) ((view m (number k r)).viewlink + 1))

abbrev pub overwriting : Rules
overwriting m s = on_take_record s (overwritten m) (after_of m s)

-- The sender's view moves to store 2 and store 1 is told so, before the receiver's record comes there.
abbrev pub late_record : List Step
late_record = S ∷ Receive 0 ∷ sends 0 ++ moves 0 0 0 0 2 ++ settles 0 0 0 2 ++ TakeRepair 0 0 ∷ updates 0 0 1 ++ sends 1 ++ settles 1 0 1 1

-- 2. Finishing an update on a uack from a destination that has since been replaced: any uack counts as the destination's.
unfoldable pub finished_early : State → ℕ → ℕ → ℕ → State
finished_early m p k r = let e = entry m (number k r) in with_entry (uack_taken m p k r) (number k r) (finished_entry e.destination e)

abbrev pub finishing : Rules
finishing m s = on_take_uack s (finished_early m) (after_of m s)

-- Store 1 is told that the sender's view moved, then the receiver's view moves too; the uack from 1 comes after the update was
-- sent on to store 2, and that update is lost.
abbrev pub replaced_destination : List Step
replaced_destination =
    S ∷ Receive 0 ∷ sends 0 ++ moves 0 0 0 0 2 ++ settles 0 0 0 2 ++ TakeRepair 0 0 ∷ SendUpdate 0 0 ∷ TakeUpdate 1 0 0 ∷ Checkpoint 1 ∷ sends 1
    ++ moves 1 0 1 1 2 ++ settles 1 0 1 2 ++ TakeRepair 0 1 ∷ SendUpdate 0 0 ∷ TakeUack 1 0 0 ∷ Lose 2 2 0 0 ∷ updates 0 1 2

-- 3. On the second repair, redirecting one entry and leaving the other.
unfoldable pub one_redirected : State → ℕ → ℕ → State
one_redirected m k r = let o = number k (1 - r) in with_entry (repair_taken m k r) o (entry m o)

abbrev pub leaving : Rules
leaving m s = on_take_repair s (one_redirected m) (after_of m s)

-- Both views move to store 2, and the update for the receiver's goes to store 1.
abbrev pub second_repair : List Step
second_repair =
    S ∷ Receive 0 ∷ sends 0 ++ moves 0 0 0 0 2 ++ settles 0 0 0 2 ++ sends 1 ++ moves 1 0 1 1 2 ++ settles 1 0 1 2
    ++ TakeRepair 0 0 ∷ TakeRepair 0 1 ∷ updates 0 0 1 ++ updates 0 1 2

-- 4. Setting cause links at sending only, though the receipt moved stores later: the pre-check leaves them.
unfoldable pub unchecked : State → ℕ → State
unchecked m a = with_view m (head m a) (phased 2 (head_view m a))

abbrev pub sending_only : Rules
sending_only m s = on_pre_check s (unchecked m) (after_of m s)

-- Its run is `moved_receipt`: actor 1 sends an effect of interaction 0, and then its receipt of 0 moves from store 1 to store 2.

-- 5. Accepting an ack from a store that was left: any ack counts as the current store's.
unfoldable pub accepted_late : State → ℕ → ℕ → ℕ → State
accepted_late m p k r = let v = number k r in with_view (ack_taken m p k r) v (acked_view m (view m v).store v)

abbrev pub accepting : Rules
accepting m s = on_take_ack s (accepted_late m) (after_of m s)

-- The sender times out from store 0 to store 2, the ack comes from store 0, and the record to store 2 is lost.
abbrev pub left_store : List Step
left_store =
    S ∷ Receive 0 ∷ sends 0 ++ keeps 0 0 0 ++ Timeout 0 2 ∷ SendRecord 0 ∷ TakeAck 0 0 0 ∷ Lose 0 2 0 0 ∷ PostCheck 0 ∷ sends 1
    ++ settles 1 0 1 1 ++ TakeRepair 0 0 ∷ updates 0 0 1

-- A run by these rules on which 5 fails: interaction 0 is closed and its views were acknowledged by these stores, yet the viewlink
-- beside the receiver's view, 0 for none and p + 1 for store p, doesn't name the store that acknowledged the sender's.
pub record BreaksViewLinks (rules : Rules) (steps : List Step) (sender receiver link : ℕ) : Type 0 where
  pub closed : closed_of (run_by rules M steps) 0 ≡ true
  pub sent : AckedIn rules M steps (number 0 0) sender
  pub received : AckedIn rules M steps (number 0 1) receiver
  pub beside : viewlink (run_by rules M steps) receiver (number 0 1) ≡ link
  pub elsewhere : link ≢ sender + 1
  -- so guarantee 5 is false of these rules
  pub refuted : ¬ ViewLinksBy rules

-- A run by these rules, and a step after it, on which 3 fails: the ack of interaction 1's record is accepted, and its link for the
-- cause 0 doesn't name the store that acknowledged the receipt of 0.
pub record BreaksCauseLinks (rules : Rules) (steps : List Step) (step : Step) (store receipt link : ℕ) : Type 0 where
  pub accepts : accepted_by rules (run_by rules M steps) step (number 1 0) ≡ store ∷ []
  pub caused : bit (view (run_by rules M steps) (number 1 0)).causes 0 ≡ true
  pub received : AckedIn rules M steps (number 0 1) receipt
  pub names : get_or (view (run_by rules M steps) (number 1 0)).links 0 0 ≡ link
  pub elsewhere : link ≢ receipt
  -- so guarantee 3 is false of these rules
  pub refuted : ¬ CauseLinksBy rules

pub record Bites : Type 0 where
  -- by the rules themselves the two are the guarantees, and hold
  pub cause_links : CauseLinksBy right
  pub view_links : ViewLinksBy right
  -- by each wrong rule one of them fails
  pub overwritten : BreaksViewLinks overwriting late_record 2 1 1
  pub finished_early : BreaksViewLinks finishing replaced_destination 2 2 1
  pub one_redirected : BreaksViewLinks leaving second_repair 2 2 1
  pub unchecked : BreaksCauseLinks sending_only moved_receipt (TakeAck 1 1 0) 1 2 1
  pub accepted_late : BreaksViewLinks accepting left_store 0 1 3
