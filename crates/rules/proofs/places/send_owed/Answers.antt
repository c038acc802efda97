use Rattle.std.proofs.Common.{arith}
use Rattle.rules.proofs.Written.{all_written, none_owed}
use Rattle.rules.proofs.places.send_owed.Goals as goal

pub returns : goal.returns
returns c = all_written c.loop-v.invariant (omega arith)

pub returns-then-owed-eq0 : goal.returns-then-owed-eq0
returns-then-owed-eq0 c = none_owed c.args.owed c.args.p c.args.copies.now c.told-copies c.if-owed-eq0.true
