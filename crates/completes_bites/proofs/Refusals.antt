-- That nothing is refused, by one computed test of the run. Assumes nothing.
use mathlib.Core.Path.{◌≡◌, subst}
use mathlib.Core.Bool.{Bool, true, ◌&&◌}
use mathlib.Core.List.{List, [], ◌∷◌, head-eq_of_cons-eq, tail-eq_of_cons-eq, nil≢cons}
use borrow.Author.Tests.{eqb-true}
use lib.Dec.{eqb}
use Rattle.activities.specs.declared.Message.{Message}
use Rattle.activities.specs.declared.Store.{Store}
use Rattle.completes.proofs.Lists.{and_left, and_right}
use Rattle.completes_bites.specs.Variants.{Rules, receive_by, after_by, NothingRefusedBy}

unfoldable pub all_taken : Rules → Store → List Message → Bool
all_taken rules s [] = true
all_taken rules s (m ∷ l) = eqb (receive_by rules s m).answer 0 && all_taken rules (receive_by rules s m).store l

pub nothing_refused : (rules : Rules) (s : Store) (l : List Message) → all_taken rules s l ≡ true → NothingRefusedBy rules s l
unfolding all_taken after_by
nothing_refused rules s [] h [] m rest e = absurd (nil≢cons e)
nothing_refused rules s [] h (x ∷ before) m rest e = absurd (nil≢cons e)
nothing_refused rules s (y ∷ l) h [] m rest e =
    subst (λ (n : Message). (receive_by rules s n).answer ≡ 0) (head-eq_of_cons-eq e) (eqb-true (receive_by rules s y).answer 0 (and_left (eqb (receive_by rules s y).answer 0) _ h))
nothing_refused rules s (y ∷ l) h (x ∷ before) m rest e =
    subst (λ (n : Message). (receive_by rules (after_by rules (receive_by rules s n).store before) m).answer ≡ 0) (head-eq_of_cons-eq e)
    (nothing_refused rules (receive_by rules s y).store l (and_right (eqb (receive_by rules s y).answer 0) _ h) before m rest (tail-eq_of_cons-eq e))
