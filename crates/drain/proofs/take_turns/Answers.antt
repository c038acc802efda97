use Rattle.std.specs.Prelude.{Some, None}
use Rattle.std.proofs.Common.{◌≡◌, ◌*◌, ap, rules, arith}
use Rattle.unbroken.proofs.Laws.{bounds}
use Rattle.protocol.specs.Drain.{turn_of}
use Rattle.drain.proofs.Draining.{going_start, going_on, going_rest, going_end}
use Rattle.drain.proofs.take_turns.Goals as goal

pub loop-count-init : goal.loop-count-init
loop-count-init c = going_start _ _

pub turn-requires : goal.turn-requires
turn-requires c = bounds _ c.loop-count.answered.machine.unbroken

pub returns-in_default : goal.returns-in_default
returns-in_default c =
    let rests : turn_of c.loop-count.answered.machine.state ≡ None = search rules in
    going_rest c.loop-count.invariant (omega arith) rests

pub loop-count-preserved : goal.loop-count-preserved
loop-count-preserved c =
    let takes : turn_of c.loop-count.answered.machine.state ≡ Some c.in-Some.step = search rules in
    going_on c.loop-count.invariant c.in-Some.step _ (omega arith) takes (ap (λ o. o.state) c.step-answered.ensures)

pub returns : goal.returns
returns c =
    let all : c.from-limit.result * 22 ≡ c.loop-count.count = omega arith in
    rw all (going_end c.loop-count.invariant (omega arith))
