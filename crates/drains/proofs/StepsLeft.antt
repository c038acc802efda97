-- The steps that a drain has left, at most, for an interaction: each of its steps lowers the number, which is never above 22.
-- By cases on what the drain sees of the view that the step is about; assumes nothing.
use Prim.Native.Nat.{ℕ, ◌+◌, ◌*◌, ◌≤◌, ◌<◌}
use mathlib.Core.Path.{◌≡◌}
use mathlib.Core.Bool.{Bool, true, false, ◌&&◌, ◌||◌, not}
use mathlib.Core.Logic.{◌≢◌}
use native.Mathlib.Omega.{arith}
use lib.Dec.{eqb}
use borrow.Author.Tests.{ne_eqb}
use Rattle.std.proofs.Common.{rules}
use Rattle.protocol.specs.Words.{pick, one}
use Rattle.protocol.specs.Slots.{status_number}
use Rattle.protocol.specs.declared.Status.{Status}
use Rattle.protocol.specs.declared.Status.TheVariants.{Nothing, ToSend, Waiting, Done}

-- what the drain sees of a view: its job, whether its repair is in flight, its entry, whether an ack is in flight from its store, is
-- owed there, and a copy of its record is in flight to it, and the same of a uack and an update at its entry's destination
pub record Seen : Type 0 where
  pub phase : ℕ
  pub changed : Bool
  pub repair : Bool
  pub status : Status
  pub ack : Bool
  pub ack_owed : Bool
  pub sent : Bool
  pub uack : Bool
  pub uack_owed : Bool
  pub update : Bool

abbrev pub seen : ℕ → Bool → Bool → Status → Bool → Bool → Bool → Bool → Bool → Bool → Seen
seen phase changed repair status ack ack_owed sent uack uack_owed update =
    record {
      phase = phase;
      changed = changed;
      repair = repair;
      status = status;
      ack = ack;
      ack_owed = ack_owed;
      sent = sent;
      uack = uack;
      uack_owed = uack_owed;
      update = update;
    }

-- steps left of the job
unfoldable pub job_left : Seen → ℕ
job_left s =
    pick (eqb s.phase 0) 7
    (pick (eqb s.phase 1) 6
    (pick (eqb s.phase 2) 5
    (pick (eqb s.phase 3) (pick s.ack 2 (pick s.ack_owed 3 (pick s.sent 4 6)))
    (pick (eqb s.phase 4) 1 0))))

-- a repair is in flight or will be
unfoldable pub repair_to_come : Seen → Bool
repair_to_come s = pick (eqb s.phase 5) s.repair (s.changed || (eqb s.phase 3 && not s.ack && not s.ack_owed && not s.sent))

abbrev pub has_entry : Status → Bool
has_entry s = not (eqb (status_number s) 0)

-- steps left of an entry that no repair will turn
abbrev pub entry_left : Status → Bool → Bool → Bool → ℕ
entry_left Nothing uack owed update = 0
entry_left ToSend uack owed update = 4
entry_left Waiting uack owed update = pick uack 1 (pick owed 2 (pick update 3 5))
entry_left Done uack owed update = 0

-- steps left of the coordinator for two views: a repair that is to come is one step, and each entry is then to-send again
unfoldable pub coordinator_left : Bool → Bool → Bool → Bool → ℕ → ℕ → ℕ
coordinator_left f g h i x y = pick (f || g) (one f + one g + 4 * one (f || h) + 4 * one (g || i)) (x + y)

abbrev pub own_left : Seen → ℕ
own_left s = entry_left s.status s.uack s.uack_owed s.update

unfoldable pub steps_left : Seen → Seen → ℕ
unfolding job_left repair_to_come coordinator_left
steps_left s t =
    job_left s + job_left t
    + coordinator_left (repair_to_come s) (repair_to_come t) (has_entry s.status) (has_entry t.status) (own_left s) (own_left t)

-- it is one number for both views
coordinator_either : (f g h i : Bool) (x y : ℕ) → coordinator_left f g h i x y ≡ coordinator_left g f i h y x
unfolding coordinator_left
coordinator_either f g h i x y = search rules

pub left_either : (s t : Seen) → steps_left s t ≡ steps_left t s
unfolding steps_left
left_either s t =
    let e = coordinator_either (repair_to_come s) (repair_to_come t) (has_entry s.status) (has_entry t.status) (own_left s) (own_left t) in
    omega arith

-- the job's steps: receive, pre-check, send record, timeout, the store takes the record, the actor the ack, post-check
module _ (t : Seen) (p : Bool) (s : Status) (u e d : Bool) where
  pub receive_lowers : (a o r x y z : Bool) → steps_left (seen 1 false p s a o r u e d) t < steps_left (seen 0 false p s x y z u e d) t
  unfolding steps_left
  receive_lowers a o r x y z = omega arith

  pub pre_check_lowers : (c a o r : Bool) → steps_left (seen 2 c p s a o r u e d) t < steps_left (seen 1 c p s a o r u e d) t
  unfolding steps_left
  pre_check_lowers true a o r = omega arith
  pre_check_lowers false a o r = omega arith

  pub send_record_lowers : (c a o r : Bool) → steps_left (seen 3 c p s a o true u e d) t < steps_left (seen 2 c p s a o r u e d) t
  unfolding steps_left
  send_record_lowers c a o r = search rules

  pub timeout_lowers : (c a o r : Bool) → steps_left (seen 2 true p s a o r u e d) t < steps_left (seen 3 c p s false false false u e d) t
  unfolding steps_left
  timeout_lowers true a o r = omega arith
  timeout_lowers false a o r = omega arith

  pub take_record_lowers : (c r : Bool) → steps_left (seen 3 c p s false true r u e d) t < steps_left (seen 3 c p s false false true u e d) t
  unfolding steps_left
  take_record_lowers true r = omega arith
  take_record_lowers false r = omega arith

  pub take_ack_lowers : (c o r a : Bool) → steps_left (seen 4 c p s a o r u e d) t < steps_left (seen 3 c p s true o r u e d) t
  unfolding steps_left
  take_ack_lowers true o r a = omega arith
  take_ack_lowers false o r a = omega arith

  pub post_check_lowers : (c a o r : Bool) → steps_left (seen 5 c c s a o r u e d) t < steps_left (seen 4 c p s a o r u e d) t
  unfolding steps_left
  post_check_lowers true a o r = omega arith
  post_check_lowers false a o r = omega arith

-- the entry's steps, once the other view has no repair to come: send update, the store takes it, the coordinator the uack, expire
module _ (t : Seen) (none : repair_to_come t ≡ false) (c a o r : Bool) where
  pub send_update_lowers : (u e d : Bool) → steps_left (seen 5 c false Waiting a o r u e true) t < steps_left (seen 5 c false ToSend a o r u e d) t
  unfolding steps_left
  send_update_lowers true e d = rw none (omega arith)
  send_update_lowers false true d = rw none (omega arith)
  send_update_lowers false false d = rw none (omega arith)

  pub take_update_lowers : (d : Bool) → steps_left (seen 5 c false Waiting a o r false true d) t < steps_left (seen 5 c false Waiting a o r false false true) t
  unfolding steps_left
  take_update_lowers d = rw none (omega arith)

  pub take_uack_lowers : (e d u : Bool) → steps_left (seen 5 c false Done a o r u e d) t < steps_left (seen 5 c false Waiting a o r true e d) t
  unfolding steps_left
  take_uack_lowers e d u = rw none (omega arith)

  pub expire_lowers : steps_left (seen 5 c false ToSend a o r false false false) t < steps_left (seen 5 c false Waiting a o r false false false) t
  unfolding steps_left
  expire_lowers = rw none (omega arith)

-- the coordinator takes a repair: the other view has no entry and stays, or has one that is to-send again
module _ (c a o r u e d x y z : Bool) (s : Status) (n : ℕ) (g f i h j k q l : Bool) where
  pub repair_lowers : steps_left (seen 5 c false ToSend a o r x y z) (seen n g f Nothing i h j k q l) < steps_left (seen 5 c true s a o r u e d) (seen n g f Nothing i h j k q l)
  unfolding steps_left
  repair_lowers = search rules

  pub second_repair_lowers : (t : Status) (v w m : Bool) → has_entry t ≡ true
      → steps_left (seen 5 c false ToSend a o r x y z) (seen n g f ToSend i h j v w m) < steps_left (seen 5 c true s a o r u e d) (seen n g f t i h j k q l)
  unfolding steps_left
  second_repair_lowers t v w m e = search rules

-- At most 22, eleven for each view, where only a settled view has an entry and one in phase 0 has not changed.
one_most : (b : Bool) → one b ≤ 1
one_most true = omega arith
one_most false = omega arith

entry_most : (s : Status) (u e d : Bool) → entry_left s u e d ≤ 5
entry_most s u e d = search rules

started_most : (b c d e a o r : Bool) → pick b 6 (pick c 5 (pick d (pick a 2 (pick o 3 (pick r 4 6))) (pick e 1 0))) ≤ 6
started_most b c d e a o r = search rules

job_most : (s : Seen) → s.phase ≢ 0 → job_left s ≤ 6
unfolding job_left
job_most s n = rw (ne_eqb s.phase 0 n) (started_most (eqb s.phase 1) (eqb s.phase 2) (eqb s.phase 3) (eqb s.phase 4) s.ack s.ack_owed s.sent)

pub record Regular (s : Seen) : Type 0 where
  pub fresh : s.phase ≡ 0 → s.changed ≡ false
  pub entered : has_entry s.status ≡ true → s.phase ≡ 5

repaired_most : (s : Seen) → Regular s → job_left s + one (repair_to_come s) + 4 * one (repair_to_come s || has_entry s.status) ≤ 11
unfolding job_left repair_to_come
repaired_most s e = search (rules, one_most, job_most)

entered_most : (s : Seen) → Regular s → job_left s + own_left s ≤ 11
unfolding job_left
entered_most s e = search (rules, job_most, entry_most)

add_up : (f g h i : Bool) (x y j k : ℕ) → j + one f + 4 * one (f || h) ≤ 11 → k + one g + 4 * one (g || i) ≤ 11 → j + x ≤ 11 → k + y ≤ 11
    → j + k + coordinator_left f g h i x y ≤ 22
unfolding coordinator_left
add_up true g h i x y j k p q r s = omega arith
add_up false true h i x y j k p q r s = omega arith
add_up false false h i x y j k p q r s = omega arith

pub left_most : (s t : Seen) → Regular s → Regular t → steps_left s t ≤ 22
unfolding steps_left
left_most s t v w =
    add_up (repair_to_come s) (repair_to_come t) (has_entry s.status) (has_entry t.status) (own_left s) (own_left t) (job_left s) (job_left t)
    (repaired_most s v) (repaired_most t w) (entered_most s v) (entered_most t w)
