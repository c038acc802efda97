-- `visit` and `causes` go on as `visit_of` and `each` do (Onward).
use Rattle.std.proofs.Common.{refl, sym, ap, ◌∙◌, arith, ◌&&◌}
use Rattle.std.proofs.lemmas.Result.{err_from_is_err_and}
use Rattle.protocol.specs.Words.{bit}
use Rattle.protocol.specs.Walk.{is_due}
use Rattle.walk.specs.Told.{told_met}
use Rattle.walk.proofs.Onward.{look_kept, look_ready, add_room, kept, visit_found, visit_missing, held, not_due, visited, missing, ended}
use Rattle.walk.proofs.+walk.Goals.{causes-then-is_due+in_ok-visit, causes-else-is_due}
use Rattle.walk.proofs.+walk.Goals as goal

pub causes-look_up-requires : goal.causes-look_up-requires
causes-look_up-requires t c = look_kept c.loop-cause.invariant.kept

pub causes-returns-in_err-visit-clause-met : goal.causes-returns-in_err-visit-clause-met
causes-returns-in_err-visit-clause-met t c =
    let p = err_from_is_err_and c.from_residual.result c.from_residual.ensures.1 in
    let met = c.in_err-visit.ensures.met in
    let set = held c.args.m.now c.args.key c.args.link in
    let due = ap (λ s. bit s c.loop-cause.cause && is_due (told_met c.loop-cause.walk) c.loop-cause.cause) (sym set) ∙ sym c.is_due.ensures ∙ c.if-is_due.true in
    rw (p.1, p.2) (λ depth d. (
      (met c.args.key c.loop-cause-test.true).0,
      missing c.loop-cause.invariant c.loop-cause-test.true _ _ due c.look_up.ensures c.hop.ensures (λ deep b. (met deep b).1) depth d,
    ))

pub causes-loop-cause-preserved : goal.causes-loop-cause-preserved
causes-loop-cause-preserved t c =
    let going = c.loop-cause.invariant in
    let set = held c.args.m.now c.args.key c.args.link in
    let due = ap (λ s. bit s c.loop-cause.cause && is_due (told_met c.loop-cause.walk) c.loop-cause.cause) (sym set) ∙ sym c.is_due.ensures in
    elim c.if-is_due.branch [
      | causes-then-is_due+in_ok-visit w ↦
          rw w.walk-is (visited going c.loop-cause-test.true _ _ (due ∙ w.if-is_due.true) w.look_up.ensures w.hop.ensures _ w.in_ok-visit.ensures.kept w.in_ok-visit.ensures.met)
      | causes-else-is_due w ↦ rw w.walk-is (not_due going c.loop-cause-test.true (due ∙ w.if-is_due.false))
    ]

pub causes-returns-clause-met : goal.causes-returns-clause-met
causes-returns-clause-met t c = ended c.loop-cause.invariant c.loop-cause-test.false

pub visit-returns-then-not-is_found-clause-met : goal.visit-returns-then-not-is_found-clause-met
visit-returns-then-not-is_found-clause-met t c = λ depth d.
    (refl, visit_missing c.args.m.now c.args.key c.args.link _ (sym c.is_found.ensures.same ∙ c.if-not-is_found.true) depth d)

pub visit-look_up-requires : goal.visit-look_up-requires
visit-look_up-requires t c = look_ready c.requires.ready

pub visit-add-requires : goal.visit-add-requires
visit-add-requires t c = add_room _ _ _ c.look_up.ensures c.requires.ready c.requires.low

pub visit-causes-requires : goal.visit-causes-requires
visit-causes-requires t c =
    (omega arith, (c.requires.low, (c.is_found.ensures.bounded c.if-not-is_found.false, kept _ _ _ c.look_up.ensures _ c.requires.ready c.requires.low c.add.ensures)))

pub visit-returns-clause-met : goal.visit-returns-clause-met
visit-returns-clause-met t c =
    visit_found c.args.m.now c.args.key c.args.link _ _ _ _ _ (sym c.is_found.ensures.same ∙ c.if-not-is_found.false) c.look_up.ensures c.add.ensures c.causes.ensures.met
