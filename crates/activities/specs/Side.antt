-- An activity's row in one table, client_T[ai] or service_T[ai], and what a message puts into it.
use Rattle.std.specs.Prelude.{ℕ, ◌+◌, min, Bool, true, false, cond, List, leb, set, take, replicate}
use Rattle.activities.specs.declared.Said.{Said}
use Rattle.activities.specs.declared.Said.TheVariants.{Negotiation, Invocation, Result, Finished, Additional}
use Rattle.activities.specs.declared.Negotiated.{Negotiated}
use Rattle.activities.specs.declared.Transmitted.{Transmitted}
use Rattle.activities.specs.declared.Announced.{Announced}
use Rattle.activities.specs.declared.Added.{Added}
use Rattle.activities.specs.declared.Side.{Side}

-- The initial state: ai → ∅.
abbrev pub not_transmitted : Transmitted
not_transmitted = record { held = false; extra = 0; word = 0 }

abbrev pub empty_side : Side
empty_side =
    record {
      negotiation = record { held = false; list = 0; accepted = 0; extra = 0 };
      invocation = not_transmitted;
      result = not_transmitted;
      finished = record { held = false; count = 0 };
      additional = record { count = 0; extras = replicate 8 0 };
    }

-- how many additional messages a row holds: a count beyond its room of eight is eight
abbrev pub additions : Added → ℕ
additions l = min l.count 8

-- .. and which
abbrev pub extras_of : Side → List ℕ
extras_of x = take (additions x.additional) x.additional.extras

-- A message of a kind goes where nothing of the kind is: a second one changes nothing.
abbrev pub negotiated : Negotiated → Negotiated → Negotiated
negotiated there said = cond there.held there said

abbrev pub transmitted : Transmitted → Transmitted → Transmitted
transmitted there said = cond there.held there said

abbrev pub announced : Announced → Announced → Announced
announced there said = cond there.held there said

-- An additional message goes behind the others, repeats too.
abbrev pub added : Added → ℕ → Added
added l extra = record { count = l.count + 1; extras = set l.extras l.count extra }

-- table update: table_T[ai].rec_neg := rec_neg(..), and so for each kind; the other fields stay
unfoldable pub side_taken : Side → Said → Side
side_taken x (Negotiation list accepted extra) =
    record {
      negotiation = negotiated x.negotiation (record { held = true; list = list; accepted = accepted; extra = extra });
      invocation = x.invocation;
      result = x.result;
      finished = x.finished;
      additional = x.additional;
    }
side_taken x (Invocation extra word) =
    record {
      negotiation = x.negotiation;
      invocation = transmitted x.invocation (record { held = true; extra = extra; word = word });
      result = x.result;
      finished = x.finished;
      additional = x.additional;
    }
side_taken x (Result extra word) =
    record {
      negotiation = x.negotiation;
      invocation = x.invocation;
      result = transmitted x.result (record { held = true; extra = extra; word = word });
      finished = x.finished;
      additional = x.additional;
    }
side_taken x (Finished count) =
    record {
      negotiation = x.negotiation;
      invocation = x.invocation;
      result = x.result;
      finished = announced x.finished (record { held = true; count = count });
      additional = x.additional;
    }
side_taken x (Additional extra) =
    record {
      negotiation = x.negotiation;
      invocation = x.invocation;
      result = x.result;
      finished = x.finished;
      additional = added x.additional extra;
    }

-- no room for a side's ninth additional message
abbrev pub full : Side → Said → Bool
full x (Negotiation list accepted extra) = false
full x (Invocation extra word) = false
full x (Result extra word) = false
full x (Finished count) = false
full x (Additional extra) = leb 8 x.additional.count
