-- What a call tells leads back to its answer, so that what is told alike is the same. Assumes nothing.
use Rattle.std.proofs.Common.{◌≡◌, ℕ, Result, Ok, Err, refl, ap, sym, ◌∙◌}
use Rattle.protocol.specs.Lent.{Written}
use Rattle.protocol.specs.Refusal.{answer_of}
use Rattle.protocol.specs.declared.refusal.Refusal.{Refusal}
use Rattle.protocol.proofs.Numbers.{giving, refused_back}
use Rattle.provn.specs.Told.{told_written, OneWritten}

abbrev back : Written → Result ℕ Refusal
back o = giving o.len (answer_of o.answer)

told_back : (r : Result ℕ Refusal) → back (told_written r) ≡ r
told_back (Ok n) = refl
told_back (Err r) = refused_back 0 r

pub one_written : OneWritten
unfolding OneWritten
one_written m key buffer a b e f = sym (told_back a) ∙ ap back (e ∙ sym f) ∙ told_back b
