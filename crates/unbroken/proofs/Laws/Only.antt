-- No two results can both satisfy a promise: each says that the result is a definition's value. Assumes nothing.
use mathlib.Core.Path.{◌≡◌, sym, ◌∙◌}

pub only : {A : Type 0} (d x y : A) → x ≡ d → y ≡ d → x ≡ y
only d x y e f = e ∙ sym f
