-- A number that prints as the word is what the word is read as. Assumes nothing.
use Rattle.std.proofs.Common.{◌≡◌, ◌<◌, ◌^◌, ℕ, List, Result, Ok, arith}
use Rattle.std.specs.Fmt.{decimal}
use Rattle.std.specs.Str.Parse.{ParsesUnsigned}
use Rattle.std.proofs.lemmas.Fmt.{parse-decimal}

pub is_read : {E : Type 0} (word : List ℕ) (r : Result ℕ E) → ParsesUnsigned 8 10 word r → (n : ℕ) → n < 256 → word ≡ decimal n → r ≡ Ok n
is_read word r p n b e = parse-decimal 8 n word r b (omega arith) e p
