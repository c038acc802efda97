-- The drain: steps one after another, each the first that applies, until none does.
use Rattle.std.specs.List.{range_with_len}
use Rattle.std.specs.Prelude.{find, unwrap_or, ℕ, zero, suc, ◌*◌, ◌/◌, ◌%◌, Bool, ◌&&◌, ◌||◌, not, List, [], ◌∷◌, ltb, leb, eqb, length, get_or, Some, None, Option}
use Rattle.protocol.specs.Words.{pick, bit, all}
use Rattle.protocol.specs.Slots.{number, no_view, no_queue, no_repair, no_entry, status_number, list, entry, record_copies, ack_copies, update_copies, uack_copies, owes_ack, owes_uack}
use Rattle.protocol.specs.Broken.{broken_of}
use Rattle.protocol.specs.declared.State.{State}
use Rattle.protocol.specs.declared.View.{View}
use Rattle.protocol.specs.declared.Queue.{Queue}
use Rattle.protocol.specs.declared.Repair.{Repair}
use Rattle.protocol.specs.declared.Entry.{Entry}
use Rattle.protocol.specs.declared.Store.{Store}
use Rattle.protocol.specs.Rule.{head, head_view}
use Rattle.protocol.specs.Step.{step_of}
use Rattle.protocol.specs.declared.Step.{Step}
use Rattle.protocol.specs.declared.Step.TheVariants.{Receive, PreCheck, SendRecord, Timeout, TakeRecord, TakeAck, PostCheck, TakeRepair, SendUpdate, TakeUpdate, TakeUack, Expire, Checkpoint}

-- the lowest number below n of which p holds, n where there is none
unfoldable pub lowest : ℕ → (ℕ → Bool) → ℕ
lowest n p = unwrap_or (find p (range_with_len 0 n)) n

-- a view's key and role
abbrev pub key_of : ℕ → ℕ
key_of v = v / 2

abbrev pub role_of : ℕ → ℕ
role_of v = v % 2

-- (a) step 2 for the lowest unreceived key
abbrev pub unreceived_in : List View → ℕ → Bool
unreceived_in views k = eqb (get_or views (number k 1) no_view).phase 0

abbrev pub unreceived : State → ℕ
unreceived m = lowest m.made (unreceived_in m.views)

-- (b) the lowest actor with a queue
abbrev pub busy_in : List Queue → ℕ → Bool
busy_in queues a = not (eqb (get_or queues a no_queue).len 0)

abbrev pub busy : State → ℕ
busy m = lowest m.actors (busy_in m.queues)

-- phase 3: take an ack from the current store if one is in flight, else step 17 for that store if it owes one,
-- else that store takes a record copy if one is in flight, else timeout to the lowest other store in the list
abbrev pub other_in : ℕ → ℕ → ℕ → Bool
other_in listed current p = bit listed p && not (eqb current p)

abbrev pub spare : State → ℕ → ℕ
spare m a = lowest m.stores (other_in (list m a) (head_view m a).store)

-- for the head v of actor a, current store p, copies in flight there, and whether an ack is owed there
abbrev pub awaiting_in : (stores listed a v p acks : ℕ) → Bool → (records : ℕ) → Step
awaiting_in stores listed a v p acks owed records =
    pick (not (eqb acks 0)) (TakeAck p (key_of v) (role_of v))
    (pick owed (Checkpoint p)
    (pick (not (eqb records 0)) (TakeRecord p (key_of v) (role_of v)) (Timeout a (lowest stores (other_in listed p)))))

abbrev pub awaiting : State → ℕ → Step
awaiting m a =
    let v = head m a in
    let p = (head_view m a).store in
    awaiting_in m.stores (list m a) a v p (ack_copies m p v) (owes_ack m p v) (record_copies m p v)

-- phase 1 pre-check, phase 2 send, phase 4 post-check
unfoldable pub job_step : State → ℕ → Step
job_step m a =
    let phase = (head_view m a).phase in
    pick (eqb phase 1) (PreCheck a) (pick (eqb phase 2) (SendRecord a) (pick (eqb phase 4) (PostCheck a) (awaiting m a)))

-- (c) step 9, lowest key, role 0 first
abbrev pub repair_in : List Repair → ℕ → Bool
repair_in repairs v = (get_or repairs v no_repair).flying

abbrev pub repair_due : State → ℕ
repair_due m = lowest (m.made * 2) (repair_in m.repairs)

-- (d) lowest key, role 0 first, to-send: step 10; waiting: uack from the destination, else step 17 for it if it owes one,
-- else update there, else step 13
abbrev pub is_unfinished : Entry → Bool
is_unfinished e = eqb (status_number e.status) 1 || eqb (status_number e.status) 2

abbrev pub unfinished_in : List Entry → ℕ → Bool
unfinished_in entries v = is_unfinished (get_or entries v no_entry)

abbrev pub unfinished : State → ℕ → Bool
unfinished m v = unfinished_in m.entries v

abbrev pub entry_due : State → ℕ
entry_due m = lowest (m.made * 2) (unfinished m)

-- for the entry e of view v, copies in flight at its destination, and whether a uack is owed there
abbrev pub entry_in : ℕ → Entry → (uacks : ℕ) → Bool → (updates : ℕ) → Step
entry_in v e uacks owed updates =
    pick (eqb (status_number e.status) 1) (SendUpdate (key_of v) (role_of v))
    (pick (not (eqb uacks 0)) (TakeUack e.destination (key_of v) (role_of v))
    (pick owed (Checkpoint e.destination)
    (pick (not (eqb updates 0)) (TakeUpdate e.destination (key_of v) (role_of v)) (Expire (key_of v) (role_of v)))))

unfoldable pub entry_step : State → ℕ → Step
entry_step m v =
    let p = (entry m v).destination in
    entry_in v (entry m v) (uack_copies m p v) (owes_uack m p v) (update_copies m p v)

-- each time the first that applies: (a), (b), then what the coordinator does, (c) and (d)
abbrev pub coordinator_turn : State → Option Step
coordinator_turn m =
    pick (ltb (repair_due m) (m.made * 2)) (Some (TakeRepair (key_of (repair_due m)) (role_of (repair_due m))))
    (pick (ltb (entry_due m) (m.made * 2)) (Some (entry_step m (entry_due m))) None)

unfoldable pub turn_of : State → Option Step
turn_of m =
    pick (ltb (unreceived m) m.made) (Some (Receive (unreceived m)))
    (pick (ltb (busy m) m.actors) (Some (job_step m (busy m))) (coordinator_turn m))

-- the steps that the drain takes, at most n of them, and the machine after them
pub record Course : Type 0 where
  pub state : State
  pub steps : List Step

abbrev pub stays : State → Course
stays m = record { state = m; steps = [] }

abbrev pub after : Step → Course → Course
after step c = record { state = c.state; steps = step ∷ c.steps }

abbrev pub on_turn : {A : Type 0} → Option Step → A → (Step → A) → A
on_turn None none some = none
on_turn (Some step) none some = some step

unfoldable pub course : ℕ → State → Course
course zero m = stays m
course (suc n) m = on_turn (turn_of m) (stays m) (λ step. after step (course n (step_of m step).state))

-- refused with 1, then with 5 if any store is down
abbrev pub up_in : ℕ → ℕ → Store → Bool
up_in stores p s = leb stores p || s.up

abbrev pub all_up : State → Bool
all_up m = all (up_in m.stores) m.shelves

-- what a drain gives: the machine after it, its number, and how many steps it took
pub record Drained : Type 0 where
  pub state : State
  pub answer : ℕ
  pub count : ℕ

-- its result carries the count
abbrev pub drained : Course → Drained
drained c = record { state = c.state; answer = 0; count = length c.steps }

-- until none of these applies; it stops at 22 steps for each interaction in any case
unfoldable pub drain_of : State → Drained
drain_of m =
    pick (broken_of m) (record { state = m; answer = 1; count = 0 })
    (pick (not (all_up m)) (record { state = m; answer = 5; count = 0 })
    (drained (course (m.made * 22) m)))
