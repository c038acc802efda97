-- The runs are computed. Assumes nothing.
use mathlib.Core.Path.{◌≡◌, refl, sym, ap, ◌∙◌}
use mathlib.Core.Bool.{true}
use native.Mathlib.Omega.{arith}
use mathlib.Core.List.{List, [], ◌∷◌, ◌++◌}
use Rattle.activities.specs.Activity.{same}
use Rattle.activities.specs.Side.{side_taken}
use Rattle.activities.specs.Complete.{complete_side, complete}
use Rattle.activities.specs.Store.{empty_store, place, exchange_of, written}
use Rattle.activities.specs.Receive.{exchange_taken, no_room, completes, receive}
use Rattle.activities.specs.Run.{after}
use Rattle.activities.specs.declared.Message.{Message}
use Rattle.activities.specs.declared.Store.{Store}
use Rattle.activities.specs.Outcome.{Outcome}
use Rattle.completes.specs.Order.{gather}
use Rattle.completes.specs.Sends.{NothingRefused}
use Rattle.completes.specs.Promises.{finishings}
use Rattle.completes.proofs.Orders.{around}
use Rattle.completes_bites.specs.Setting.{clients, services, last, run}
use Rattle.completes_bites.specs.Variants.{right, exchange_by, accepted_by, receive_by, after_by}
use Rattle.completes_bites.specs.Witnesses.{Witnesses}
use Rattle.completes_bites.proofs.Refusals.{all_taken, nothing_refused}

-- the right rules are the store's
right_receive : (s : Store) (m : Message) → receive_by right s m ≡ receive s m
unfolding receive_by accepted_by exchange_by receive exchange_taken completes
right_receive s m = refl

right_after : (s : Store) (l : List Message) → after_by right s l ≡ after s l
unfolding after_by after
right_after s [] = refl
right_after s (m ∷ l) = right_after (receive_by right s m).store l ∙ ap (λ (r : Outcome). after r.store l) (right_receive s m)

taken_run : (l : List Message) → all_taken right empty_store l ≡ true → NothingRefused empty_store l
taken_run l h before m rest e =
    ap (λ (r : Outcome). r.answer) (sym (right_receive (after empty_store before) m))
    ∙ (ap (λ (s : Store). (receive_by right s m).answer) (sym (right_after empty_store before)) ∙ nothing_refused right empty_store l h before m rest e)

pub witnesses : Witnesses
unfolding same side_taken complete_side complete place exchange_of written exchange_taken no_room completes receive after gather finishings exchange_by accepted_by receive_by after_by all_taken
witnesses =
    record {
      sends =
          record {
            differ = omega arith;
            client = record { negotiation = refl; invocation = refl; result = refl; finished = refl };
            service = record { negotiation = refl; invocation = refl; result = refl; finished = refl };
          };
      taken = taken_run run refl;
      reordered = around clients (services ++ (last ∷ [])) [];
      known = refl;
      repeat = refl;
      refused = omega arith;
      other = refl;
      finished = refl;
    }
