-- The numbers of the refusals; an answer as a number, and what a call tells by it.
use Rattle.std.specs.Prelude.{ℕ, Result, Ok, Err, ◌==◌, if◌then◌else◌}
use Rattle.protocol.specs.Setup.{answered}
use Rattle.protocol.specs.Outcome.{Outcome}
use Rattle.protocol.specs.declared.State.{State}
use Rattle.protocol.specs.declared.refusal.Refusal.{Refusal}
use Rattle.protocol.specs.declared.refusal.Refusal.TheVariants.{BrokenMachine, NotInMachine, SameEnds, NoKeyLeft, StoreDown, StoreUp, NotReady, NotListed, UnknownCause, MalformedBook, IllegalSetup, FewAnswers, OpenInteraction, ShortBuffer}

abbrev pub number : Refusal → ℕ
number BrokenMachine = 1
number NotInMachine = 2
number SameEnds = 3
number NoKeyLeft = 4
number StoreDown = 5
number StoreUp = 6
number NotReady = 7
number NotListed = 8
number UnknownCause = 9
number MalformedBook = 10
number IllegalSetup = 11
number FewAnswers = 12
number OpenInteraction = 13
number ShortBuffer = 14

-- 0 where it is taken
abbrev pub answer : Result Unit Refusal → ℕ
answer (Ok _) = 0
answer (Err r) = number r

-- an answer and a machine, as the definitions have them
abbrev pub told : Result Unit Refusal → State → Outcome
told r m = answered (answer r) m

-- the answer of a number, `Ok` of every other
abbrev pub answer_of : ℕ → Result Unit Refusal
answer_of n =
    if n == 1 then Err BrokenMachine else
    if n == 2 then Err NotInMachine else
    if n == 3 then Err SameEnds else
    if n == 4 then Err NoKeyLeft else
    if n == 5 then Err StoreDown else
    if n == 6 then Err StoreUp else
    if n == 7 then Err NotReady else
    if n == 8 then Err NotListed else
    if n == 9 then Err UnknownCause else
    if n == 10 then Err MalformedBook else
    if n == 11 then Err IllegalSetup else
    if n == 12 then Err FewAnswers else
    if n == 13 then Err OpenInteraction else
    if n == 14 then Err ShortBuffer else Ok tt
