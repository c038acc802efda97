-- Each call tells the same. Assumes nothing.
use Rattle.std.proofs.Common.{rules}
use Rattle.bench.specs.Turns.{step_told}
use Rattle.bench.proofs.on_sound.Goals as goal

pub returns : goal.returns
returns c = c.calls.ensures (λ left. step_told c.args.s c.args.m.state) (λ left n e. search rules)
