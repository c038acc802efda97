-- The promises bite: three easy ways to get the store wrong, each as a rule, by which one of them fails.
use Rattle.std.specs.Prelude.{Bool, true, false, ◌&&◌, cond, eqb, ◌+◌}
use Rattle.activities.specs.Activity.{by_client}
use Rattle.activities.specs.Side.{additions, side_taken}
use Rattle.activities.specs.Complete.{complete}
use Rattle.activities.specs.Receive.{to_both}
use Rattle.activities.specs.declared.Said.{Said}
use Rattle.activities.specs.declared.Said.TheVariants.{Negotiation, Invocation, Result, Finished, Additional}
use Rattle.activities.specs.declared.Message.{Message}
use Rattle.activities.specs.declared.Side.{Side}
use Rattle.activities.specs.declared.Finishing.{Finishing}
use Rattle.completes_bites.specs.Variants.{Rules, AtLastBy, RepeatsBy}

-- 1. Told to one side: the finished acknowledgement goes to the sender alone.
abbrev pub to_sender : Message → Bool → Finishing
to_sender m now = cond (by_client m) (record { client = now; service = false }) (record { client = false; service = now })

abbrev pub one_sided : Rules
one_sided = record { taken = side_taken; complete = complete; told = to_sender }

-- 2. Complete at three of the four: nobody asks for the negotiation.
abbrev pub three_of_four : Side → Bool
three_of_four x = x.invocation.held && x.result.held && x.finished.held && eqb x.finished.count (4 + additions x.additional)

abbrev pub too_early : Rules
too_early = record { taken = side_taken; complete = λ e. three_of_four e.client && three_of_four e.service; told = λ m now. to_both now }

-- 3. A repeat overwrites: a negotiation is written, whatever was there.
unfoldable pub overwritten : Side → Said → Side
overwritten x (Negotiation list accepted extra) =
    record {
      negotiation = record { held = true; list = list; accepted = accepted; extra = extra };
      invocation = x.invocation;
      result = x.result;
      finished = x.finished;
      additional = x.additional;
    }
overwritten x (Invocation extra word) = side_taken x (Invocation extra word)
overwritten x (Result extra word) = side_taken x (Result extra word)
overwritten x (Finished count) = side_taken x (Finished count)
overwritten x (Additional extra) = side_taken x (Additional extra)

abbrev pub overwriting : Rules
overwriting = record { taken = overwritten; complete = complete; told = λ m now. to_both now }

pub record Wrong : Type 0 where
  pub one_sided : AtLastBy one_sided → ⊥
  pub too_early : AtLastBy too_early → ⊥
  pub overwriting : RepeatsBy overwriting → ⊥
