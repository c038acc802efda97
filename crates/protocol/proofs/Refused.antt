-- No refusal has the number 0. By cases; assumes nothing.
use Rattle.std.proofs.Common.{◌≡◌, false, eqb, refl}
use Rattle.protocol.specs.Refusal.{number}
use Rattle.protocol.specs.declared.refusal.Refusal.{Refusal}
use Rattle.protocol.specs.declared.refusal.Refusal.TheVariants.{BrokenMachine, NotInMachine, SameEnds, NoKeyLeft, StoreDown, StoreUp, NotReady, NotListed, UnknownCause, MalformedBook, IllegalSetup, FewAnswers, OpenInteraction, ShortBuffer}

pub never_zero : (r : Refusal) → eqb (number r) 0 ≡ false
never_zero BrokenMachine = refl
never_zero NotInMachine = refl
never_zero SameEnds = refl
never_zero NoKeyLeft = refl
never_zero StoreDown = refl
never_zero StoreUp = refl
never_zero NotReady = refl
never_zero NotListed = refl
never_zero UnknownCause = refl
never_zero MalformedBook = refl
never_zero IllegalSetup = refl
never_zero FewAnswers = refl
never_zero OpenInteraction = refl
never_zero ShortBuffer = refl
