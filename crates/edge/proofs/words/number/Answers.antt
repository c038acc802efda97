-- The word is the number's that it is read as. Assumes nothing.
use Rattle.std.proofs.Common.{rules}
use Rattle.edge.proofs.Decimal.{is_read}
use Rattle.edge.proofs.words.number.Goals as goal

pub returns-in_default-clause-every : goal.returns-in_default-clause-every
returns-in_default-clause-every c = λ n b e. search (rules, is_read c.args.word.now c.parse.result c.parse.ensures.value.0 n b e, e)
