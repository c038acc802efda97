-- The key falls from a visit to those of its causes.
use Rattle.std.proofs.Common.{◌+◌, ◌*◌}
use Rattle.walk.proofs.Onward.{Onward}
use Rattle.walk.proofs.+walk.Given as goal

abbrev pub decreases-causes : goal.decreases-causes
decreases-causes l = 2 * l.key

abbrev pub decreases-visit : goal.decreases-visit
decreases-visit l = 2 * l.key + 1

abbrev pub invariant-causes-loop-cause : goal.invariant-causes-loop-cause
invariant-causes-loop-cause l = Onward l.m l.key l.link l.fn.walk l.walk l.cause
