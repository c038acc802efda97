-- A number leads back to its refusal, so that what is told of an answer leads back to it. Assumes nothing.
use Rattle.std.proofs.Common.{◌≡◌, Result, Ok, Err, refl, ap}
use Rattle.protocol.specs.Refusal.{number, answer, answer_of}
use Rattle.protocol.specs.declared.refusal.Refusal.{Refusal}
use Rattle.protocol.specs.declared.refusal.Refusal.TheVariants.{BrokenMachine, NotInMachine, SameEnds, NoKeyLeft, StoreDown, StoreUp, NotReady, NotListed, UnknownCause, MalformedBook, IllegalSetup, FewAnswers, OpenInteraction, ShortBuffer}

pub answer_back : (r : Result Unit Refusal) → answer_of (answer r) ≡ r
answer_back (Ok _) = refl
answer_back (Err BrokenMachine) = refl
answer_back (Err NotInMachine) = refl
answer_back (Err SameEnds) = refl
answer_back (Err NoKeyLeft) = refl
answer_back (Err StoreDown) = refl
answer_back (Err StoreUp) = refl
answer_back (Err NotReady) = refl
answer_back (Err NotListed) = refl
answer_back (Err UnknownCause) = refl
answer_back (Err MalformedBook) = refl
answer_back (Err IllegalSetup) = refl
answer_back (Err FewAnswers) = refl
answer_back (Err OpenInteraction) = refl
answer_back (Err ShortBuffer) = refl

-- x where nothing is refused
abbrev pub giving : {A : Type 0} → A → Result Unit Refusal → Result A Refusal
giving x (Ok _) = Ok x
giving x (Err r) = Err r

pub refused_back : {A : Type 0} (x : A) (r : Refusal) → giving x (answer_of (number r)) ≡ Err r
refused_back x r = ap (giving x) (answer_back (Err r))
