-- When a refusal number applies to a setup, and what a refused setup gives.
use Rattle.std.specs.Prelude.{ℕ, ◌≡◌, ◌≢◌, length}
use Rattle.protocol.specs.Setup.{empty_machine, setup_of}
use Rattle.protocol.specs.declared.Setup.{Setup}
use Rattle.unbroken.specs.Unbroken.{LegalSetup}
use Rattle.unbroken.specs.Lowest.{IsLowest}

pub data Applies (u : Setup) : ℕ → Type 0 where
  -- 11 setup illegal
  is_illegal : (LegalSetup u.stores u.actors u.homes u.lists → ⊥) → Applies u 11

-- of a setup with a row for each of eight actors, as a value of the code has them
abbrev pub SetupRefusals : Type 0
SetupRefusals = (u : Setup) → length u.homes ≡ 8 → IsLowest (Applies u) (setup_of u).answer

-- A refused setup gives the empty machine.
abbrev pub RefusedSetup : Type 0
RefusedSetup = (u : Setup) → (setup_of u).answer ≢ 0 → (setup_of u).state ≡ empty_machine
