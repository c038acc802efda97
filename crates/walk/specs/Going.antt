-- What the walk keeps on its way: as many keys as were met, and as many lookups as these take.
use Rattle.std.specs.Prelude.{ℕ, ◌+◌, ◌*◌, ◌≡◌, false, Result, Ok, Err, length, get_or}
use Rattle.protocol.specs.Walk.{Met}
use Rattle.protocol.specs.declared.refusal.Refusal.{Refusal}
use Rattle.protocol.specs.declared.refusal.Refusal.TheVariants.{OpenInteraction}
use Rattle.reaches.specs.Tally.{Tally}
use Rattle.walk.specs.declared.met.Walk.{Walk}
use Rattle.walk.specs.Told.{told_met}

-- one lookup for the first key and two for each behind it
pub record Kept (w : Walk) : Type 0 where
  pub tally : Tally (told_met w)
  pub looked : w.lookups + 1 ≡ 2 * length w.keys.items

-- a key that was not met may be visited: its receipt is looked up
pub record Ready (w : Walk) (key : ℕ) : Type 0 where
  pub tally : Tally (told_met w)
  pub looked : w.lookups ≡ 2 * length w.keys.items
  pub unmet : get_or (told_met w).met key false ≡ false

-- what is met, or that something is missing
abbrev pub Comes : Result Unit Refusal → Walk → Met → Type 0
Comes (Ok _) w met = told_met w ≡ met
Comes (Err r) w met = (r ≡ OpenInteraction) × (met.fine ≡ false)
