-- The loop leaves at the first place that breaks the queue, and marks the views of those before. Assumes nothing.
use Rattle.std.proofs.Common.{◌≡◌, true, false, rules, sym, ap, ◌∙◌}
use lib.ListN.{get_or}
use lib.Seq.{get_or-take}
use Rattle.protocol.specs.Words.{joined}
use Rattle.broken.specs.Marks.{place_met}
use Rattle.broken.proofs.Meet.{meet_step, meet_stop, meet_end, meet_marks}
use Rattle.broken.proofs.queues.standing_met.Goals as goal

pub returns-then-not-place_met-clause-none : goal.returns-then-not-place_met-clause-none
returns-then-not-place_met-clause-none c =
    let test = place_met c.args.m.now.views c.args.a c.loop-i.marks c.loop-i.i in
    let same = get_or-take c.args.q.now.len c.args.q.now.views c.loop-i.i 0 c.loop-i-test.true in
    let unmet : test (get_or c.args.q.now.views c.loop-i.i 0) ≡ false = search rules in
    sym (meet_stop c.loop-i.invariant c.loop-i-test.true (ap test same ∙ unmet))

pub loop-i-preserved : goal.loop-i-preserved
loop-i-preserved c =
    let test = place_met c.args.m.now.views c.args.a c.loop-i.marks c.loop-i.i in
    let same = get_or-take c.args.q.now.len c.args.q.now.views c.loop-i.i 0 c.loop-i-test.true in
    let met : test (get_or c.args.q.now.views c.loop-i.i 0) ≡ true = search rules in
    meet_step c.loop-i.invariant c.loop-i-test.true (ap test same ∙ met) (c.with-marks.ensures ∙ sym (ap (joined c.loop-i.marks) same))

pub returns-clause-some : goal.returns-clause-some
returns-clause-some c = (sym (meet_end c.loop-i.invariant c.loop-i-test.false), meet_marks c.loop-i.invariant c.loop-i-test.false)
