-- What a call that leaves nothing tells is all that a turn makes. Assumes nothing.
use Rattle.std.proofs.Common.{rules, ap, ◌∙◌}
use Rattle.bench.specs.Turns.{summed}
use Rattle.bench.proofs.Turning.{same_turns}
use Rattle.bench.proofs.turns.calls.Goals as goal

pub returns : goal.returns
returns g c of h =
    c.turns.ensures (λ left x. (x.0, summed x.1 (of left))) (λ p q left sum n e. ap (λ k. (tt, summed sum k)) (h left n (search rules))) ∙ same_turns tt of c.args.times 0
