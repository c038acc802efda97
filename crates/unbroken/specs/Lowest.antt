-- The lowest number that applies is given, and only where it applies.
use Rattle.std.specs.Prelude.{ℕ, ◌<◌, ◌≡◌, ◌≢◌, ◌↔◌}

-- an answer is n exactly if n applies and none lower does, and 0 exactly if none does
pub record IsLowest (Applies : ℕ → Type 0) (answer : ℕ) : Type 0 where
  pub given : (n : ℕ) → n ≢ 0 → (answer ≡ n) ↔ (Applies n × ((i : ℕ) → i < n → Applies i → ⊥))
  pub none : (answer ≡ 0) ↔ ((n : ℕ) → Applies n → ⊥)
