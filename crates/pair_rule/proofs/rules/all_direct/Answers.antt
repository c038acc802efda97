-- The places behind the last key pass (Seen).
use Rattle.std.proofs.Common.{refl, sym, ◌∙◌}
use Rattle.pairing.specs.Pair.{is_direct}
use Rattle.pair_rule.proofs.Seen.{all_met}
use Rattle.pair_rule.proofs.rules.all_direct.Goals as goal

pub returns : goal.returns
returns c = c.each_direct.ensures ∙ sym (all_met c.args.m.now c.args.keys.now (is_direct c.args.causes) (λ _. refl) c.requires)
