-- The places behind the last key are of no kind (Seen).
use Rattle.std.proofs.Common.{rules, ◌≡◌, sym, ap, ◌∙◌}
use Rattle.std.specs.Option.{option_map_or}
use Rattle.pairing.specs.Pair.{record_of}
use Rattle.pair_rule.specs.Told.{kind_number}
use Rattle.pair_rule.proofs.Seen.{last_met, no_kind}
use Rattle.pair_rule.proofs.rules.sender.Goals as goal

pub returns : goal.returns
returns c =
    let asserter : c.map_or.result ≡ option_map_or (λ k. (record_of c.args.m.now k).asserter) c.last.result 0 = search rules in
    asserter ∙ ap (λ o. option_map_or (λ k. (record_of c.args.m.now k).asserter) o 0) c.last.ensures ∙ sym (last_met c.args.m.now c.args.keys.now (kind_number c.args.kind) (no_kind c.args.kind) c.requires)
