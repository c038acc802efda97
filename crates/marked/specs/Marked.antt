-- The twelve marked runs of docs/RUNS.md as one table, over the definitions that the contracts cite.
use Rattle.std.specs.Prelude.{ℕ, ◌+◌, ◌≡◌, Bool, true, false, ◌&&◌, not, List, [], ◌∷◌, ◌++◌, eqb, take, replicate}
use Rattle.protocol.specs.Slots.{number, view, is_lasting, lasting_viewlink}
use Rattle.protocol.specs.Setup.{setup_of}
use Rattle.protocol.specs.Broken.{broken_of}
use Rattle.protocol.specs.declared.State.{State}
use Rattle.protocol.specs.declared.Setup.{Setup}
use Rattle.protocol.specs.Step.{step_of}
use Rattle.protocol.specs.declared.Step.{Step}
use Rattle.protocol.specs.declared.Step.TheVariants.{Send, Receive, PreCheck, SendRecord, Timeout, TakeRecord, TakeAck, Lose, Crash, Restart, Checkpoint}
use Rattle.protocol.specs.Drain.{drain_of}
use Rattle.protocol.specs.Walk.{walk_of}

-- a step, and the number that it must answer
pub record Asked : Type 0 where
  pub step : Step
  pub answer : ℕ

infix 20 ◌⇒◌
abbrev pub ◌⇒◌ : Step → ℕ → Asked
s ⇒ n = record { step = s; answer = n }

-- what may be said of a machine: that it is the empty one; a view's phase and current store; that a store has a view, and the
-- viewlink beside it, in its checkpointed state; a walk's refusal, and a walk's keys
pub data Fact : Type 0 where
  empty : Fact
  phase : (key role n : ℕ) → Fact
  at : (key role store : ℕ) → Fact
  has : (store key role link : ℕ) → Fact
  refuses : (key n : ℕ) → Fact
  walks : (key : ℕ) → List ℕ → Fact

-- after the steps: nothing more, or a drain with its count and what holds then
pub data Then : Type 0 where
  rests : Then
  drained : ℕ → List Fact → Then

pub record Row : Type 0 where
  pub setup : Setup
  pub answer : ℕ
  pub steps : List Asked
  pub facts : List Fact
  pub next : Then

-- Setup M: three stores, actor 0 home 0 list 5, actor 1 home 1 list 6.
abbrev pub setup_with : ℕ → Setup
setup_with list = record { stores = 3; actors = 2; homes = 0 ∷ 1 ∷ replicate 6 0; lists = list ∷ 6 ∷ replicate 6 0 }

abbrev pub on_m : List Asked → List Fact → Then → Row
on_m steps facts next = record { setup = setup_with 5; answer = 0; steps = steps; facts = facts; next = next }

-- S: send 0 to 1, own 0, data 7, no causes.
abbrev pub S : Step
S = Send 0 1 0 7 0

abbrev pub tries_again : List Asked
tries_again = (SendRecord 0 ⇒ 0) ∷ (Timeout 0 0 ⇒ 0) ∷ []

abbrev pub prepares_record : ℕ → List Asked
prepares_record a = (PreCheck a ⇒ 0) ∷ (SendRecord a ⇒ 0) ∷ []

abbrev pub rows : List Row
rows =
    -- W1 M drained: 0 steps.
    on_m [] [] (drained 0 [])
    -- W2 S, drain: 13. Store 0 has the sender view, link 1; store 1 the receiver view, link 0.
    ∷ on_m ((S ⇒ 0) ∷ []) [] (drained 13 (has 0 0 0 1 ∷ has 1 0 1 0 ∷ []))
    -- W3 S, receive, both pre-checked, sent and both records lost; drain: 22, both views at store 2, both links 2.
    ∷ on_m
    ((S ⇒ 0) ∷ (Receive 0 ⇒ 0) ∷ prepares_record 0 ++ prepares_record 1 ++ (Lose 0 0 0 0 ⇒ 0) ∷ (Lose 0 1 0 1 ⇒ 0) ∷ [])
    []
    (drained 22 (at 0 0 2 ∷ at 0 1 2 ∷ has 2 0 0 2 ∷ has 2 0 1 2 ∷ []))
    -- W4 S, receive, only the sender's pre-checked, sent and lost; drain: 17. Sender at 2 link 1; receiver at 1 link 2.
    ∷ on_m
    ((S ⇒ 0) ∷ (Receive 0 ⇒ 0) ∷ prepares_record 0 ++ (Lose 0 0 0 0 ⇒ 0) ∷ [])
    []
    (drained 17 (at 0 0 2 ∷ has 2 0 0 1 ∷ at 0 1 1 ∷ has 1 0 1 2 ∷ []))
    -- W5 S, pre-check, send, store 0 takes it and makes a checkpoint, without which no ack would be in flight, timeout to 2, ack
    -- from 0: taken, phase stays 2.
    ∷ on_m
    ((S ⇒ 0) ∷ prepares_record 0 ++ (TakeRecord 0 0 0 ⇒ 0) ∷ (Checkpoint 0 ⇒ 0) ∷ (Timeout 0 2 ⇒ 0) ∷ (TakeAck 0 0 0 ⇒ 0) ∷ [])
    (phase 0 0 2 ∷ [])
    rests
    -- W6 send 0 to 0: 3. Own store 1 for actor 0: 8.
    ∷ on_m ((Send 0 0 0 7 0 ⇒ 3) ∷ (Send 0 1 1 7 0 ⇒ 8) ∷ []) [] rests
    -- W7 timeout in phase 2: 7; in phase 3 to the current store: taken three times with a send between, then 8.
    ∷ on_m ((S ⇒ 0) ∷ (PreCheck 0 ⇒ 0) ∷ (Timeout 0 2 ⇒ 7) ∷ tries_again ++ tries_again ++ tries_again ++ (SendRecord 0 ⇒ 0) ∷ (Timeout 0 0 ⇒ 8) ∷ []) [] rests
    -- W8 after S, actor 1 sends with cause 0: 9; after receive: taken.
    ∷ on_m ((S ⇒ 0) ∷ (Send 1 0 1 7 1 ⇒ 9) ∷ (Receive 0 ⇒ 0) ∷ (Send 1 0 1 7 1 ⇒ 0) ∷ []) [] rests
    -- W9 sixteen sends taken, the next 4; the next from 0 to 0: 3.
    ∷ on_m (replicate 16 (S ⇒ 0) ++ (S ⇒ 4) ∷ (Send 0 0 0 7 0 ⇒ 3) ∷ []) [] rests
    -- W10 crash twice: 0, 5. Restart twice: 0, 6.
    ∷ on_m ((Crash 0 ⇒ 0) ∷ (Crash 0 ⇒ 5) ∷ (Restart 0 ⇒ 0) ∷ (Restart 0 ⇒ 6) ∷ []) [] rests
    -- W11 list 1 for actor 0: 11, with the empty machine.
    ∷ record { setup = setup_with 1; answer = 11; steps = []; facts = empty ∷ []; next = rests }
    -- W12 S, receive, 1 sends to 0 own 1 cause 0. Walk of 1: 13. Drain: 25. Walk of 1: 1, 0. Walk of 2: 2.
    ∷ on_m
    ((S ⇒ 0) ∷ (Receive 0 ⇒ 0) ∷ (Send 1 0 1 7 1 ⇒ 0) ∷ [])
    (refuses 1 13 ∷ [])
    (drained 25 (walks 1 (1 ∷ 0 ∷ []) ∷ refuses 2 2 ∷ []))
    ∷ []

unfoldable pub same : List ℕ → List ℕ → Bool
same [] [] = true
same [] (y ∷ ys) = false
same (x ∷ xs) [] = false
same (x ∷ xs) (y ∷ ys) = eqb x y && same xs ys

-- no stores, actors or interactions, and so nothing in any slot, since it isn't broken
abbrev pub is_empty : State → Bool
is_empty m = eqb m.stores 0 && eqb m.actors 0 && eqb m.made 0 && not (broken_of m)

-- whether a fact holds of a machine
unfoldable pub holds : State → Fact → Bool
unfolding same
holds m empty = is_empty m
holds m (phase k r n) = eqb (view m (number k r)).phase n
holds m (at k r p) = eqb (view m (number k r)).store p
holds m (has p k r q) = is_lasting m p (number k r) && eqb (lasting_viewlink m p (number k r)) (q + 1)
holds m (refuses k n) = let w = walk_of m k in eqb w.answer n && eqb w.count 0
holds m (walks k keys) = let w = walk_of m k in eqb w.answer 0 && same (take w.count w.keys) keys

unfoldable pub hold_all : State → List Fact → Bool
hold_all m [] = true
hold_all m (fact ∷ facts) = holds m fact && hold_all m facts

unfoldable pub concludes : State → Then → Bool
concludes m rests = true
concludes m (drained n facts) = let d = drain_of m in eqb d.answer 0 && eqb d.count n && hold_all d.state facts

-- the steps answer as they must, then the facts hold, then what follows does
unfoldable pub goes : State → List Asked → List Fact → Then → Bool
goes m [] facts next = hold_all m facts && concludes m next
goes m (asked ∷ steps) facts next = let r = step_of m asked.step in eqb r.answer asked.answer && goes r.state steps facts next

unfoldable pub row_holds : Row → Bool
row_holds row = let u = setup_of row.setup in eqb u.answer row.answer && goes u.state row.steps row.facts row.next

unfoldable pub table_holds : List Row → Bool
table_holds [] = true
table_holds (row ∷ rest) = row_holds row && table_holds rest

-- the one claim
abbrev pub Claim : Type 0
Claim = table_holds rows ≡ true
