-- What lasts in a store. A crash throws back to the checkpoint, and a checkpoint takes the working state: so what the checkpointed state
-- has stays for ever where the working state has it too. A value that no run reaches may lack it there, and then a checkpoint drops it.
use Rattle.std.specs.Prelude.{ℕ, ◌≤◌, ◌<◌, ◌≡◌, true}
use Rattle.protocol.specs.Slots.{number, is_held, viewlink, is_kept, kept_viewlink, is_lasting, lasting_contents, lasting_cause_links, lasting_viewlink}
use Rattle.protocol.specs.declared.State.{State}
use Rattle.protocol.specs.Step.{step_of}
use Rattle.protocol.specs.declared.Step.{Step}
use Rattle.unbroken.specs.Blank.{Blank}

-- what the checkpointed state of a store has, the working state has too
pub record Backed (m : State) : Type 0 where
  pub held : (p v : ℕ) → p < 8 → v < 32 → is_kept m p v ≡ true → is_held m p v ≡ true
  pub linked : (p v : ℕ) → p < 8 → v < 32 → 1 ≤ kept_viewlink m p v → 1 ≤ viewlink m p v

-- contents that last stay, with their cause links; a viewlink that lasts is never taken away
pub record Lasts (m n : State) : Type 0 where
  pub lasting : (p v : ℕ) → p < 8 → v < 32 → is_lasting m p v ≡ true → is_lasting n p v ≡ true
  pub contents : (p v : ℕ) → p < 8 → v < 32 → is_lasting m p v ≡ true → lasting_contents n p v ≡ lasting_contents m p v
  pub links : (p k : ℕ) → p < 8 → k < 16 → is_lasting m p (number k 0) ≡ true → lasting_cause_links n p k ≡ lasting_cause_links m p k
  pub linked : (p v : ℕ) → p < 8 → v < 32 → 1 ≤ lasting_viewlink m p v → 1 ≤ lasting_viewlink n p v

-- a machine with nothing in its stores is backed, and every step, taken or refused, keeps that
abbrev pub BlankBacked : Type 0
BlankBacked = (m : State) → Blank m → Backed m

abbrev pub StepBacked : Type 0
StepBacked = (m : State) (s : Step) → Backed m → Backed (step_of m s).state

-- .. and undoes nothing that lasts
abbrev pub StepLasts : Type 0
StepLasts = (m : State) (s : Step) → Backed m → Lasts m (step_of m s).state
