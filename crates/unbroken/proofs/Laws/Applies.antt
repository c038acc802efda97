-- The answer of a setup is 11 exactly if it is illegal, and then its machine is the empty one. By its one test; assumes nothing.
use Prim.Native.Nat.{ℕ}
use mathlib.Core.Path.{◌≡◌, refl, subst}
use mathlib.Core.Logic.{◌≢◌, inl}
use mathlib.Core.Bool.{Bool, true, false, not}
use mathlib.Core.List.{List, [], ◌∷◌}
use native.Mathlib.Omega.{arith}
use lib.ListN.{length}
use Rattle.protocol.specs.Words.{pick}
use Rattle.protocol.specs.Setup.{legal, fresh_with, empty_machine, answered, setup_of}
use Rattle.protocol.specs.declared.Setup.{Setup}
use Rattle.protocol.specs.Outcome.{Outcome}
use Rattle.unbroken.specs.Unbroken.{LegalSetup}
use Rattle.unbroken.specs.Lowest.{IsLowest}
use Rattle.unbroken.specs.Applies.{Applies, is_illegal, SetupRefusals, RefusedSetup}
use Rattle.unbroken.proofs.Laws.Says.{Says, not_says, un_splits}
use Rattle.unbroken.proofs.Laws.SlotTests.{legal_says}
use Rattle.unbroken.proofs.Laws.Lowest.{lowest, lowest_put, Test, ◌if◌, first, Has, each_has, has_low, tests_lowest}

module _ (u : Setup) where
  abbrev is_legal : Bool
  is_legal = legal u.stores u.actors u.homes u.lists

  abbrev given : Bool → Outcome
  given fine = pick fine (answered 0 (fresh_with u.stores u.actors u.homes u.lists)) (answered 11 empty_machine)

  abbrev tests : Bool → List Test
  tests fine = (11 if not fine) ∷ []

  answer_is : (fine : Bool) → first (tests fine) ≡ (given fine).answer
  answer_is true = refl
  answer_is false = refl

  gives_empty : (fine : Bool) → (given fine).answer ≢ 0 → (given fine).state ≡ empty_machine
  gives_empty true n = absurd (n refl)
  gives_empty false n = refl

  module _ (eight : length u.homes ≡ 8) where
    illegal_says : Says (not is_legal) (LegalSetup u.stores u.actors u.homes u.lists → ⊥)
    illegal_says = not_says (un_splits (legal_says u.stores u.actors u.homes u.lists eight))

    told : {n : ℕ} → Applies u n → Has n (tests is_legal)
    told (is_illegal h) = inl (refl, illegal_says.told h)

pub setup_refusals : SetupRefusals
unfolding setup_of
setup_refusals u eight =
    subst (IsLowest (Applies u)) (answer_is u (is_legal u))
    (lowest (λ a. omega (arith, has_low (tests u (is_legal u)) 1 0 refl (told u eight a)))
    (lowest_put (λ n h. each_has (Applies u) (tests u (is_legal u)) n (λ e. is_illegal ((illegal_says u eight).tells e), tt) h) (λ n l a. told u eight a)
    (tests_lowest (tests u (is_legal u)) 1 (omega arith) refl)))

pub refused_setup : RefusedSetup
unfolding setup_of
refused_setup u n = gives_empty u (is_legal u) n
