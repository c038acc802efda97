-- What is told of a check leads back to its answer, so that what is told alike is the same. Assumes nothing.
use Rattle.std.proofs.Common.{◌≡◌, ℕ, Bool, false, Result, Ok, Err, ◌==◌, if◌then◌else◌, refl, ap, sym, ◌∙◌}
use Rattle.protocol.specs.Refusal.{number, answer_of}
use Rattle.protocol.specs.declared.refusal.Refusal.{Refusal}
use Rattle.pairing.specs.Pair.{Checked}
use Rattle.protocol.proofs.Numbers.{answer_back}
use Rattle.pair_rule.specs.Told.{told_check, OneCheck}
use Rattle.pair_rule.specs.declared.CheckRefusal.{CheckRefusal}
use Rattle.pair_rule.specs.declared.CheckRefusal.TheVariants.{UnknownRule, Walk, NotForecast}

-- a number that is no refusal's of the walk is the check's own, or says that the forecast was looked at
abbrev told_by : ℕ → Bool → Result Unit Refusal → Result Bool CheckRefusal
told_by n passes (Ok _) = if n == 19 then Err UnknownRule else if n == 20 then Err NotForecast else Ok passes
told_by n passes (Err r) = Err (Walk r)

abbrev back : Checked → Result Bool CheckRefusal
back o = told_by o.answer o.passes (answer_of o.answer)

told_back : (r : Result Bool CheckRefusal) → back (told_check r) ≡ r
told_back (Ok passes) = refl
told_back (Err UnknownRule) = refl
told_back (Err (Walk r)) = ap (told_by (number r) false) (answer_back (Err r))
told_back (Err NotForecast) = refl

pub one_check : OneCheck
unfolding OneCheck
one_check m rule key a b e f = sym (told_back a) ∙ ap back (e ∙ sym f) ∙ told_back b
