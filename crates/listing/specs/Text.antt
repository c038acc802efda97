-- The text of a listing or of a refusal in the making: 1,024 bytes at most.
use Rattle.std.specs.Prelude.{ℕ, List, []}
use Rattle.arrayvec.specs.ArrayVec.{ArrayVec}
use Rattle.lending.specs.Text.{wrote as wrote_in}

-- nothing is written
abbrev pub no_text : ArrayVec ℕ
no_text = record { items = [] }

-- bytes, one after another, while there is room
abbrev pub wrote : ArrayVec ℕ → List ℕ → ArrayVec ℕ
wrote t bytes = record { items = wrote_in 1024 t.items bytes }
