use Rattle.std.proofs.Common.{rules, tests, ◌≡◌, ◌/◌, leb, ltb, length, get_or, ap, ◌∙◌}
use Rattle.std.specs.Simd.{first_chunks}
use Rattle.std.proofs.lemmas.Iterator.{YieldsList-from_slice}
use Rattle.std.proofs.lemmas.Iterator.Consumers.{YieldsList-from_enumerate}
use Rattle.std.proofs.lemmas.Iterator.Search.{all_from_yields_List}
use Rattle.protocol.specs.Words.{all, all_from, pick}
use Rattle.broken.proofs.Rooms.{rows_same}
use Rattle.broken.proofs.flight.within.Goals as goal

pub returns : goal.returns
unfolding all_from
returns c =
    let stores = c.args.stores in
    let rooms = c.args.rooms.now in
    let copies = c.args.copies.now in
    let long : length copies ≡ 256 = search rules in
    let front = c.as_chunks.ensures.front ∙ ap (λ n. first_chunks 32 (n / 32) copies) long in
    all_from_yields_List (λ q. all (λ v n. leb n (pick (ltb q.0 stores) (get_or rooms v 0) 0)) q.1) _ _ _ c.all.ensures.ran (YieldsList-from_enumerate (YieldsList-from_slice c.as_chunks.result.0.now (cc)) (cc)) (λ x b q k. search (rules, tests))
    ∙ ap (all (λ p row. all (λ v n. leb n (pick (ltb p stores) (get_or rooms v 0) 0)) row)) front
    ∙ rows_same (λ p v n. leb n (pick (ltb p stores) (get_or rooms v 0) 0)) copies long
