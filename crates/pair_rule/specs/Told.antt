-- A check's answers, rules and kinds as the definitions have them: by their numbers.
use Rattle.std.specs.Prelude.{ℕ, ◌≡◌, Bool, List, Result, Ok, Err, ◌==◌, if◌then◌else◌, length}
use Rattle.protocol.specs.Refusal.{number}
use Rattle.protocol.specs.Walk.{Walked}
use Rattle.protocol.specs.declared.State.{State}
use Rattle.protocol.specs.declared.Contents.{Contents}
use Rattle.pairing.specs.Pair.{Checked, met_of, answered_check, refused_check, check_of}
use Rattle.walk.specs.Told.{padded}
use Rattle.pair_rule.specs.declared.CheckRefusal.{CheckRefusal}
use Rattle.pair_rule.specs.declared.CheckRefusal.TheVariants.{UnknownRule, Walk, NotForecast}
use Rattle.pair_rule.specs.declared.Rule.{Rule}
use Rattle.pair_rule.specs.declared.Rule.TheVariants.{One, Two}
use Rattle.pair_rule.specs.declared.kinds.Kind.{Kind}
use Rattle.pair_rule.specs.declared.kinds.Kind.TheVariants.{Weights, Scaler, Forecast}

abbrev pub check_number : CheckRefusal → ℕ
check_number UnknownRule = 19
check_number (Walk r) = number r
check_number NotForecast = 20

abbrev pub told_check : Result Bool CheckRefusal → Checked
told_check (Ok passes) = answered_check passes
told_check (Err r) = refused_check (check_number r)

abbrev pub rule_number : Rule → ℕ
rule_number One = 1
rule_number Two = 2

-- the rule that a number names
abbrev pub rule_named : ℕ → Result Rule CheckRefusal
rule_named n =
    if n == 1 then Ok One else
    if n == 2 then Ok Two else Err UnknownRule

abbrev pub kind_number : Kind → ℕ
kind_number Weights = 1
kind_number Scaler = 2
kind_number Forecast = 3

-- a walk that met these keys, and the records that the rules look at
abbrev pub walked : List ℕ → Walked
walked keys = record { answer = 0; keys = padded keys; count = length keys; lookups = 0 }

abbrev pub records_met : State → List ℕ → List Contents
records_met m keys = met_of m (walked keys)

-- nothing is left out: two results that tell what the definition gives are one
unfoldable pub OneCheck : Type 0
OneCheck = (m : State) (rule key : ℕ) (a b : Result Bool CheckRefusal) → told_check a ≡ check_of m rule key → told_check b ≡ check_of m rule key → a ≡ b
