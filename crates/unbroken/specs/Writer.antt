-- A writer of one field: what is written is read, what stands there written again changes nothing, the last writing stays. That it
-- leaves every other field is not said here; `Writes` of protocol shows it, since each writer there names the one field.
use Rattle.std.specs.Prelude.{◌≡◌}

pub record Writer {S A : Type 0} (read : S → A) (write : S → A → S) : Type 0 where
  pub reads : (s : S) (a : A) → read (write s a) ≡ a
  pub same : (s : S) → write s (read s) ≡ s
  pub last : (s : S) (a b : A) → write (write s a) b ≡ write s b
