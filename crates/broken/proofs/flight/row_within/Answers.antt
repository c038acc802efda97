use Rattle.std.proofs.Common.{rules, tests, ◌&&◌, true, ◌∙◌}
use Rattle.std.specs.List.{enumerate_from}
use Rattle.std.proofs.lemmas.Iterator.{YieldsList-from_slice}
use Rattle.std.proofs.lemmas.Iterator.Consumers.{YieldsList-from_enumerate, fold_from_yields_List}
use Rattle.protocol.specs.Words.{all_from}
use Rattle.broken.specs.Rooms.{row_within}
use Rattle.broken.proofs.Words.{fold_all}
use Rattle.broken.proofs.flight.row_within.Goals as goal

pub returns : goal.returns
unfolding all_from
returns c =
    let rooms = c.args.rooms.now in
    let row = c.args.row.now in
    fold_from_yields_List _ (λ fine q. fine && row_within rooms q.0 q.1) true _ c.fold.ensures.ran (YieldsList-from_enumerate (YieldsList-from_slice row (cc)) (cc)) (λ a x b q k. search (rules, tests))
    ∙ fold_all (λ q. row_within rooms q.0 q.1) (enumerate_from 0 row)
