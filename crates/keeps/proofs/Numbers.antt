-- A number tells the answer: no two answers have one number. Assumes nothing.
use Rattle.std.proofs.Common.{ap, sym, ◌∙◌}
use Rattle.keeps.specs.Laws.{OneAnswer}
use Rattle.protocol.specs.Refusal.{answer_of}
use Rattle.protocol.proofs.Numbers.{answer_back}

pub one_answer : OneAnswer
one_answer a b same = sym (answer_back a) ∙ ap answer_of same ∙ answer_back b
