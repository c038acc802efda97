use Rattle.std.proofs.Common.{rules, tests, ◌∙◌}
use Rattle.std.proofs.lemmas.Iterator.{YieldsList-from_slice}
use Rattle.std.proofs.lemmas.Iterator.Consumers.{YieldsList-from_enumerate}
use Rattle.std.proofs.lemmas.Iterator.Search.{all_from_yields_List}
use Rattle.protocol.specs.Words.{all_from}
use Rattle.broken.specs.Sets.{store_noted}
use Rattle.broken.proofs.Members.{stores_same}
use Rattle.broken.proofs.held.stores_fine.Goals as goal

pub returns-clause-each : goal.returns-clause-each
unfolding all_from
returns-clause-each c =
    let m = c.args.m.now in
    let acked = c.ready-acked.result in
    let uacked = c.entered-uacked.result in
    all_from_yields_List (λ q. store_noted acked uacked m.stores m.made q.0 q.1) _ _ _ c.all.ensures.ran (YieldsList-from_enumerate (YieldsList-from_slice m.shelves (cc)) (cc)) (λ x b q k. search (rules, tests))
    ∙ stores_same m.stores m.made m.views m.entries acked uacked c.ready-acked.ensures c.entered-uacked.ensures m.shelves
