-- The laws of the drain, for every unbroken machine with all stores up: it takes each of its steps, it ends because nothing
-- applies and within 22 steps for an interaction, it closes every interaction made, and a second drain has nothing to do.
use Rattle.std.specs.Prelude.{ℕ, ◌*◌, ◌≤◌, ◌<◌, ◌≡◌, true, false, List, length, replicate, Some, None}
use Rattle.protocol.specs.Setup.{answered}
use Rattle.protocol.specs.Broken.{broken_of}
use Rattle.protocol.specs.Closed.{closed_of}
use Rattle.protocol.specs.declared.State.{State}
use Rattle.protocol.specs.Step.{number_of, after_of, step_of}
use Rattle.protocol.specs.declared.Step.{Step}
use Rattle.protocol.specs.Run.{ran, answers}
use Rattle.protocol.specs.Drain.{turn_of, course, all_up, drain_of}

-- what the drain asks of a machine
pub record Drainable (m : State) : Type 0 where
  pub unbroken : broken_of m ≡ false
  pub up : all_up m ≡ true

-- a step of the drain is taken, and the machine after it may be drained on, with the same interactions
pub record StepTaken (m : State) (s : Step) : Type 0 where
  pub number : number_of m s ≡ 0
  pub step : step_of m s ≡ answered 0 (after_of m s)
  pub drainable : Drainable (after_of m s)
  pub made : (after_of m s).made ≡ m.made

abbrev pub TakesEachStep : Type 0
TakesEachStep = (m : State) (s : Step) → Drainable m → turn_of m ≡ Some s → StepTaken m s

-- the drain's steps, and the machine after them
abbrev pub steps_of : State → List Step
steps_of m = (course (m.made * 22) m).steps

abbrev pub end_of : State → State
end_of m = (course (m.made * 22) m).state

pub record Ends (m : State) : Type 0 where
  -- the drain is taken, and its count is that of its steps
  pub result : drain_of m ≡ record { state = end_of m; answer = 0; count = length (steps_of m) }
  -- it ends because nothing applies, and not because of the stop: with more room it would do the same
  pub rests : turn_of (end_of m) ≡ None
  pub unstopped : (n : ℕ) → m.made * 22 ≤ n → course n m ≡ course (m.made * 22) m
  -- at most 22 steps for each interaction
  pub count : length (steps_of m) ≤ m.made * 22
  -- its end is the run of its steps, and every one of them is answered 0
  pub run : end_of m ≡ ran m (steps_of m)
  pub taken : answers m (steps_of m) ≡ replicate (length (steps_of m)) 0
  -- the machine after may be drained again, with the same interactions, each of them closed
  pub drainable : Drainable (end_of m)
  pub made : (end_of m).made ≡ m.made
  pub closes : (k : ℕ) → k < m.made → closed_of (end_of m) k ≡ true

abbrev pub DrainEnds : Type 0
DrainEnds = (m : State) → Drainable m → Ends m

-- draining a drained machine takes 0 steps and changes nothing
abbrev pub DrainsOnce : Type 0
DrainsOnce = (m : State) → Drainable m → drain_of (drain_of m).state ≡ record { state = (drain_of m).state; answer = 0; count = 0 }

-- .. and of any machine it takes no more than 22 steps for each interaction, since it stops there
abbrev pub CountIsFew : Type 0
CountIsFew = (m : State) → (drain_of m).count ≤ m.made * 22
