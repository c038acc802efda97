use Rattle.std.proofs.Common.{rules, tests, ◌&&◌, true, ◌∙◌}
use Rattle.std.specs.List.{enumerate_from}
use Rattle.std.proofs.lemmas.Iterator.{YieldsList-from_slice}
use Rattle.std.proofs.lemmas.Iterator.Consumers.{YieldsList-from_enumerate, fold_from_yields_List}
use Rattle.protocol.specs.Broken.{viewlink_fine}
use Rattle.protocol.specs.Words.{all_from}
use Rattle.broken.proofs.Words.{fold_all}
use Rattle.broken.proofs.held.viewlinks_fine.Goals as goal

pub returns-clause-each : goal.returns-clause-each
unfolding all_from
returns-clause-each c =
    let m = c.args.m.now in
    let links = c.args.links.now in
    fold_from_yields_List _ (λ fine q. fine && viewlink_fine m.stores m.made c.args.p q.0 q.1) true _ c.fold.ensures.ran (YieldsList-from_enumerate (YieldsList-from_slice links (cc)) (cc)) (λ a x b q k. search (rules, tests))
    ∙ fold_all (λ q. viewlink_fine m.stores m.made c.args.p q.0 q.1) (enumerate_from 0 links)
