-- Every promise, proved. Assumes nothing.
use Rattle.completes.specs.Promises.{Promises}
use Rattle.completes.proofs.Steps.{refused_changes_nothing, others_stay}
use Rattle.completes.proofs.Repeats.{repeats_change_nothing}
use Rattle.completes.proofs.Once.{at_most_once}
use Rattle.completes.proofs.AnyOrder.{any_order_completes, own_order_completes}
use Rattle.completes.proofs.Refusing.{no_order_refuses}
use Rattle.completes.proofs.Told.{one_result}

pub promises : Promises
promises =
    record {
      refused = refused_changes_nothing;
      others = others_stay;
      repeats = repeats_change_nothing;
      once = at_most_once;
      any_order = any_order_completes;
      no_order = no_order_refuses;
      own_order = own_order_completes;
      one_result = one_result;
    }
