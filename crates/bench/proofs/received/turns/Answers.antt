-- Each call tells of its message. Assumes nothing.
use Rattle.std.proofs.Common.{rules}
use Rattle.bench.specs.Received.{negotiation, receive_told}
use Rattle.bench.proofs.received.turns.Goals as goal

pub returns : goal.returns
returns c = c.calls.ensures (λ left. receive_told (negotiation c.args.session left) c.args.s) (λ left n e. search rules)
