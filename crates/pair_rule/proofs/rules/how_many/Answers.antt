-- The places behind the last key are of no kind (Seen).
use Rattle.std.proofs.Common.{rules, ◌≡◌, sym, ◌∙◌}
use Rattle.std.specs.Prelude.{count_by}
use Rattle.pairing.specs.Pair.{is_a, record_of}
use Rattle.pair_rule.specs.Told.{kind_number}
use Rattle.pair_rule.proofs.Seen.{counted_met, no_kind}
use Rattle.pair_rule.proofs.rules.how_many.Goals as goal

pub returns : goal.returns
returns c =
    let counted : c.count.result ≡ count_by (λ k. is_a (kind_number c.args.kind) (record_of c.args.m.now k)) c.args.keys.now = search rules in
    counted ∙ sym (counted_met c.args.m.now c.args.keys.now (is_a (kind_number c.args.kind)) (no_kind c.args.kind) c.requires)
