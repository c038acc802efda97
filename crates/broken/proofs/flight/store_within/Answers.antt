use Rattle.std.proofs.Common.{ℕ, leb, ltb, get_or, replicate, ap, sym, ◌∙◌, arith}
use borrow.Author.Tests.{le-ltb}
use lib.ListN.{get_or-replicate}
use Rattle.protocol.specs.Words.{pick}
use Rattle.broken.specs.Rooms.{row_within}
use Rattle.broken.proofs.Words.{all_same}
use Rattle.broken.proofs.flight.store_within.Goals as goal

pub returns-else-p-stores : goal.returns-else-p-stores
returns-else-p-stores c =
    let rooms = c.args.rooms.now in
    let row = c.args.row.now in
    c.row_within-else-p-stores.ensures
    ∙ all_same (row_within (replicate 32 0)) (λ v n. leb n (pick (ltb c.args.p c.args.stores) (get_or rooms v 0) 0)) row 0
    (λ v h. ap (leb (get_or row v 0)) (get_or-replicate {A = ℕ} 32 v 0 0 (omega arith)) ∙ sym (ap (λ t. leb (get_or row v 0) (pick t (get_or rooms v 0) 0)) (le-ltb _ _ c.if-p-stores.false)))
