-- What a clause sees of a walk.
use Rattle.std.specs.Prelude.{ℕ}
use Rattle.arrayvec.specs.ArrayVec.{ArrayVec}

pub record Answer : Type 0 where
  pub keys : ArrayVec ℕ
  pub lookups : ℕ
