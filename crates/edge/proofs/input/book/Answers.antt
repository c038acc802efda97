-- So many bytes and one more are asked for: fewer of them are all that there are, and that one shows that there are more.
use Rattle.std.proofs.Common.{◌≡◌, ℕ, ◌+◌, ◌<◌, ◌≤◌, List, length, take, Option, Some, None, IfSome, arith, sym, ◌∙◌, length-take}
use lib.Seq.{take_all}
use Rattle.edge.proofs.input.book.Goals as goal

longer : (n : ℕ) (o : Option (List ℕ)) (read : List ℕ) → IfSome o (λ xs. read ≡ take (n + 1) xs) → n < length read → IfSome o (λ xs. n < length xs)
longer n (Some xs) read e h = let l : n < length (take (n + 1) xs) = rw (sym e) h in omega (arith, length-take (n + 1) xs)
longer n None read e h = tt

whole : (n : ℕ) (o : Option (List ℕ)) (read : List ℕ) → IfSome o (λ xs. read ≡ take (n + 1) xs) → length read ≤ n → IfSome o (λ xs. read ≡ xs)
whole n (Some xs) read e h =
    let l : length (take (n + 1) xs) ≤ n = rw (sym e) h in
    let k : length xs ≤ n + 1 = omega (arith, length-take (n + 1) xs) in
    e ∙ take_all (n + 1) xs k
whole n None read e h = tt

pub returns-then-more-clause-more : goal.returns-then-more-clause-more
returns-then-more-clause-more g c =
    let long : 65536 < length c.in_ok-bytes.bytes.items = omega arith in
    λ e. longer 65536 (g.R.Read.remaining c.args.reader) c.in_ok-bytes.bytes.items c.in_ok-bytes.ensures long

pub returns-clause-all : goal.returns-clause-all
returns-clause-all g c =
    let short : length c.in_ok-bytes.bytes.items ≤ 65536 = omega arith in
    whole 65536 (g.R.Read.remaining c.args.reader) c.in_ok-bytes.bytes.items c.in_ok-bytes.ensures short
