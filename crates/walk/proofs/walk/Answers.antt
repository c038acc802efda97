-- The walk is the visit from nothing met (Onward), and its answer what the walk was seen as.
use Rattle.std.proofs.Common.{◌<◌, Ok, refl, sym, ap, ◌∙◌, arith}
use Rattle.std.proofs.lemmas.Result.{err_from_is_err_and}
use Rattle.unbroken.proofs.Laws.Room.{bounds}
use Rattle.walk.specs.Told.{told_walk}
use Rattle.walk.proofs.Onward.{at_first, first_ready, walk_ok, walk_err}
use Rattle.walk.proofs.walk.Goals as goal

pub visit-requires-clause-ready : goal.visit-requires-clause-ready
visit-requires-clause-ready c = first_ready _ _ c.new.ensures refl

pub returns-in_err-visit : goal.returns-in_err-visit
returns-in_err-visit c =
    let whole = sym c.is_broken.ensures ∙ c.if-is_broken.false in
    let low : c.args.key < 16 = omega (arith, c.if-m-key.false, (bounds c.args.m.now whole).made16) in
    let p = err_from_is_err_and c.from_residual.result c.from_residual.ensures.1 in
    rw (p.1, p.2) (walk_err c.args.m.now c.args.key whole c.if-m-key.false low _ c.visit.new.walk (at_first _ c.new.ensures refl) _ c.in_err-visit.ensures.met)

pub returns : goal.returns
returns c =
    let whole = sym c.is_broken.ensures ∙ c.if-is_broken.false in
    let low : c.args.key < 16 = omega (arith, c.if-m-key.false, (bounds c.args.m.now whole).made16) in
    ap (λ keys. told_walk (Ok (record { keys = keys; lookups = c.walk.inside.lookups }))) c.from.ensures ∙ ap (λ w. told_walk (Ok w)) c.walk.view_is
    ∙ walk_ok c.args.m.now c.args.key whole c.if-m-key.false low _ c.visit.new.walk (at_first _ c.new.ensures refl) c.in_ok-visit.ensures.met
