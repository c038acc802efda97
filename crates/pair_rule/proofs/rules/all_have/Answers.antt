-- The places behind the last key pass (Seen).
use Rattle.std.proofs.Common.{refl, sym, ◌∙◌}
use Rattle.pairing.specs.Pair.{has_bundle}
use Rattle.pair_rule.proofs.Seen.{all_met}
use Rattle.pair_rule.proofs.rules.all_have.Goals as goal

pub returns : goal.returns
returns c = c.each_has.ensures ∙ sym (all_met c.args.m.now c.args.keys.now (λ _ r. has_bundle c.args.number r) (λ _. refl) c.requires)
