-- The three demands of docs/GUARANTEES.md as one record: a field for each statement, under the sentence that it states. Each field is
-- named as the theorem that proves it, and the statements stand with their laws. One that is no field here could lose its proof
-- unnoticed.
use Rattle.std.specs.Prelude.{ℕ, ◌≡◌, true, false, List, length}
use Rattle.protocol.specs.declared.State.{State}
use Rattle.protocol.specs.Setup.{legal, fresh_with, empty_machine}
use Rattle.protocol.specs.Broken.{broken_of}
use Rattle.unbroken.specs.Unbroken.{Unbroken}
use Rattle.unbroken.specs.Bounds.{Bounds}
use Rattle.unbroken.specs.Blank.{Blank, OneEmpty}
use Rattle.unbroken.specs.Applies.{SetupRefusals, RefusedSetup}
use Rattle.keeps.specs.Keeps.{Keeps, StepKeeps, RefusalGivesBack}
use Rattle.keeps.specs.Laws.{TakenExactly, TakenGives, RefusedGives, BrokenGives, AnswerZero, JointSame}
use Rattle.keeps.specs.Laws.{MadeCounts, SendsNewKey, SendWritesLinks, ReceiveWritesLink, StoreWritesLinks}
use Rattle.keeps.specs.Laws.{Program, RefuserOut, ConstantOut, PretenderOut, ResultsDiffer}
use Rattle.keeps.specs.Laws.{OneAnswer}
use Rattle.keeps.specs.Laws.{OneResult as OneStep}
use Rattle.keeps.specs.Onward.{StepOnward, ClosedSays, ClosedStays}
use Rattle.keeps.specs.Lasting.{BlankBacked, StepBacked, StepLasts}
use Rattle.keeps.specs.Applies.{StepRefusals}
use Rattle.reads.specs.Reading.{ReadsAlike, WritesAgain, OneReading, ReadAsItself, FormedExactly, BookIsShort}
use Rattle.reads.specs.Run.{RunFolds, AnswersFold, BehindStay, RefusedBook, TakenAreZeros, ExampleRuns, IdleShutOut}
use Rattle.reads.specs.Run.{OneResult as OneRun}
use Rattle.reads.specs.Applies.{BookRefusals, MalformedExactly}
use Rattle.drains.specs.Drains.{TakesEachStep, DrainEnds, DrainsOnce, CountIsFew}
use Rattle.drains.specs.Applies.{DrainRefusals, RefusedDrain}
use Rattle.reaches.specs.Reaches.{AnsweredReaches, KeysFew, RefusedEmpty, LookupsExactly}
use Rattle.reaches.specs.Reaches.{OneResult as OneWalk}
use Rattle.reaches.specs.Applies.{WalkRefusals, KeysLookedUp}
use Rattle.marked.specs.Marked.{Claim}
use Rattle.guarantees.specs.Guarantees.{OneAcknowledgement, KeptForEver, AckInFlight, UackInFlight, CrashLosesNothing, LastsForEver, AsSent, CauseLinks, StaysClosed, ViewLinks, Lookup, TheDrain, Recovery, TheWalk, EveryWalk, Books, EveryCall}
use Rattle.bites.specs.Witnesses.{Witnesses, BoundMet}
use Rattle.bites.specs.Wrong.{Bites}
use Rattle.bites.specs.Further.{BitesFurther}
use Rattle.bites.specs.Checkpoints.{BitesCheckpoints}
use Rattle.bites.specs.Duplicates.{BitesDuplicates}

pub record Demands : Type 0 where
  -- 1. Answers. Every call ends and answers, for every machine value, step and run book, and no two results satisfy its promise.
  pub every_call : EveryCall
  pub one_answer : OneAnswer
  pub one_step : OneStep
  pub one_run : OneRun
  pub one_walk : OneWalk
  -- Bad input is refused by the numbers of docs/REFUSALS.md, the lowest that applies; a broken value, which is one that RULES.md,
  -- Broken values is about, by 1.
  pub setup_refusals : SetupRefusals
  pub step_refusals : StepRefusals
  pub book_refusals : BookRefusals
  pub drain_refusals : DrainRefusals
  pub walk_refusals : WalkRefusals
  pub broken_gives : BrokenGives
  pub unbroken : (m : State) → broken_of m ≡ false → Unbroken m
  pub whole : (m : State) → Unbroken m → broken_of m ≡ false
  -- A refused step or drain leaves the machine unchanged; a refused book leaves the answer buffer and, as a refused setup, gives
  -- the empty machine; a refused walk has no keys.
  pub refusal_gives_back : RefusalGivesBack
  pub refused_gives : RefusedGives
  pub refused_drain : RefusedDrain
  pub refused_setup : RefusedSetup
  pub refused_book : RefusedBook
  pub refused_empty : RefusedEmpty
  -- 2. Rules. A step is taken exactly when its rule allows it, and then gives exactly the machine which that rule states.
  pub taken_exactly : TakenExactly
  pub taken_gives : TakenGives
  pub answer_zero : AnswerZero
  pub joint_same : JointSame
  pub made_counts : MadeCounts
  pub sends_new_key : SendsNewKey
  pub send_writes_links : SendWritesLinks
  pub receive_writes_link : ReceiveWritesLink
  pub store_writes_links : StoreWritesLinks
  -- The bytes of a book have one reading, and its run is the fold of the steps that are read.
  pub reads_alike : ReadsAlike
  pub writes_again : WritesAgain
  pub one_reading : OneReading
  pub read_as_itself : ReadAsItself
  pub formed_exactly : FormedExactly
  pub malformed_exactly : MalformedExactly
  pub book_is_short : BookIsShort
  pub run_folds : RunFolds
  pub answers_fold : AnswersFold
  pub behind_stay : BehindStay
  pub taken_are_zeros : TakenAreZeros
  -- Programs that do less are shut out; the example book and the marked runs of docs/RUNS.md come out as they must.
  pub refuser_out : (f : Program) → RefuserOut f
  pub constant_out : (f : Program) → ConstantOut f
  pub pretender_out : (f : Program) → PretenderOut f
  pub results_differ : ResultsDiffer
  pub idle_shut_out : IdleShutOut
  pub example_runs : ExampleRuns
  pub marked_runs : Claim
  -- 3. Delivery. From a legal setup, after any steps with losses, timeouts, crashes, checkpoints and duplicates: the guarantees, in
  -- their order.
  pub one_acknowledgement : OneAcknowledgement
  pub kept_for_ever_holds : KeptForEver
  pub ack_in_flight : AckInFlight
  pub uack_in_flight : UackInFlight
  pub crash_loses_nothing : CrashLosesNothing
  pub lasts_for_ever : LastsForEver
  pub as_sent_holds : AsSent
  pub cause_links_holds : CauseLinks
  pub stays_closed_for_ever : StaysClosed
  pub view_links_holds : ViewLinks
  pub lookup : Lookup
  pub the_drain : TheDrain
  pub recovery : Recovery
  pub the_walk : TheWalk
  pub every_walk : EveryWalk
  pub books : Books
  -- They are neither empty nor blind.
  pub witnesses : Witnesses
  pub bites : Bites
  pub bites_further : BitesFurther
  pub bites_checkpoints : BitesCheckpoints
  pub bites_duplicates : BitesDuplicates
  pub bound_met : BoundMet
  -- What they stand on, for any unbroken machine: a legal setup's and the empty one are unbroken, and no step breaks one.
  pub fresh_unbroken : (stores actors : ℕ) (homes lists : List ℕ) → legal stores actors homes lists ≡ true → length homes ≡ 8 → length lists ≡ 8 → broken_of (fresh_with stores actors homes lists) ≡ false
  pub empty_unbroken : broken_of empty_machine ≡ false
  pub one_empty : OneEmpty
  pub fresh_blank : (stores actors : ℕ) (homes lists : List ℕ) → Blank (fresh_with stores actors homes lists)
  pub bounds : (m : State) → broken_of m ≡ false → Bounds m
  pub keeps : Keeps
  pub step_keeps : StepKeeps
  pub step_onward : StepOnward
  pub closed_says : ClosedSays
  pub closed_stays : ClosedStays
  pub blank_backed : BlankBacked
  pub step_backed : StepBacked
  pub step_lasts : StepLasts
  -- .. of the drain, and of the walk
  pub takes : TakesEachStep
  pub drain_ends : DrainEnds
  pub drains_once : DrainsOnce
  pub count_few : CountIsFew
  pub answered_reaches : AnsweredReaches
  pub keys_few : KeysFew
  pub keys_looked_up : KeysLookedUp
  pub lookups_exactly : LookupsExactly
