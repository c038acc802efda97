-- What RULES.md, Checkpoints says of stores bites: a crash, a step 6, a checkpoint and a walk that are wrong about the two states of
-- a store, each with a machine on which a law fails by it.
use Rattle.std.specs.Prelude.{ℕ, zero, suc, ◌≡◌, false, List, [], ◌∷◌, ◌++◌, replicate}
use Rattle.protocol.specs.Slots.{number, shelf, ack_copies}
use Rattle.protocol.specs.Stores.{reworked}
use Rattle.protocol.specs.Writes.{with_ack_copies, with_shelf}
use Rattle.protocol.specs.Sweep.{swept}
use Rattle.protocol.specs.Broken.{broken_of}
use Rattle.protocol.specs.declared.State.{State}
use Rattle.protocol.specs.declared.Store.{Store}
use Rattle.protocol.specs.Walk.{Walked, walk_of}
use Rattle.protocol.specs.Rule.{more}
use Rattle.protocol.specs.TakeRecord.{record_taken}
use Rattle.protocol.specs.Checkpoint.{checkpointed}
use Rattle.protocol.specs.Step.{after_of}
use Rattle.protocol.specs.Kinds.{on_take_record, on_crash, on_checkpoint}
use Rattle.protocol.specs.declared.Step.{Step}
use Rattle.protocol.specs.declared.Step.TheVariants.{Receive, TakeAck, Crash, Checkpoint}
use Rattle.unbroken.specs.Lowest.{IsLowest}
use Rattle.reaches.specs.Applies.{Applies}
use Rattle.guarantees.specs.Acknowledged.{after}
use Rattle.bites.specs.Setting.{M, S, sends, settles}
use Rattle.bites.specs.Witnesses.{taken_only, never_kept}
use Rattle.bites.specs.Variants.{Rules}
use Rattle.bites.specs.Wrong.{BreaksViewLinks}
use Rattle.bites.specs.Further.{BreaksKeptForEver}

-- 1. A crash that keeps the notes.
unfoldable pub still_owing : State → ℕ → State
still_owing m p = let s = shelf m p in swept (with_shelf m p (reworked false s.kept s.acksowed s.uacksowed s.keptlinks s)) p

abbrev pub owing_on : Rules
owing_on m s = on_crash s (still_owing m) (after_of m s)

-- Store 0 takes the sender's record, crashes and is up again; its next checkpoint acknowledges what it has lost.
abbrev pub owed_of_nothing : List Step
owed_of_nothing = never_kept ++ Checkpoint 0 ∷ []

-- 2. A step 6 that acknowledges before the checkpoint: the ack is sent at the taking.
unfoldable pub acked_early : State → ℕ → ℕ → ℕ → State
acked_early m p k r = let v = number k r in with_ack_copies (record_taken m p k r) p v (more (ack_copies m p v))

abbrev pub acking_early : Rules
acking_early m s = on_take_record s (acked_early m) (after_of m s)

-- Its run is `taken_only`: store 0 takes the sender's record, its ack is accepted, and it goes down.

-- 3. A checkpoint that forgets the viewlinks: those of the working state don't become the checkpointed ones.
abbrev pub unlinked : List ℕ → Store → Store
unlinked links s =
    record { up = s.up; held = s.held; kept = s.kept; acksowed = s.acksowed; uacksowed = s.uacksowed; viewlinks = s.viewlinks; keptlinks = links }

unfoldable pub forgotten : State → ℕ → State
forgotten m p = let n = checkpointed m p in with_shelf n p (unlinked (shelf m p).keptlinks (shelf n p))

abbrev pub forgetting : Rules
forgetting m s = on_checkpoint s (forgotten m) (after_of m s)

-- Both views settle at home.
abbrev pub settled : List Step
settled = S ∷ Receive 0 ∷ sends 0 ++ settles 0 0 0 0 ++ sends 1 ++ settles 1 0 1 1

-- 4. A walk that reads the working state: it answers as if every store had just made a checkpoint. This is refuted on a value that
-- isn't broken and that no run reaches: store 0 acknowledged the record of a closed interaction and has it in its working state alone.
unfoldable pub checkpointed_below : ℕ → State → State
checkpointed_below zero m = m
checkpointed_below (suc p) m = checkpointed (checkpointed_below p m) p

unfoldable pub working_walk : State → ℕ → Walked
working_walk m k = walk_of (checkpointed_below m.stores m) k

abbrev pub uncheckpointed : Store → Store
uncheckpointed s =
    record { up = s.up; held = s.held; kept = 0; acksowed = 0; uacksowed = 0; viewlinks = s.viewlinks; keptlinks = replicate 32 0 }

abbrev pub never_checkpointed : State
never_checkpointed = let m = after M settled in with_shelf m 0 (uncheckpointed (shelf m 0))

-- the lowest number that applies is given, by this walk
abbrev pub RefusalsBy : (State → ℕ → Walked) → Type 0
RefusalsBy walk = (m : State) (k : ℕ) → IsLowest (Applies m k) (walk m k).answer

pub record BreaksRefusals (walk : State → ℕ → Walked) (m : State) : Type 0 where
  pub unbroken : broken_of m ≡ false
  pub unfound : Applies m 0 13
  pub answered : (walk m 0).answer ≡ 0
  pub refuted : ¬ RefusalsBy walk

pub record BitesCheckpoints : Type 0 where
  -- of `walk_of` it holds (of the rules themselves, 2 and 5 are the guarantees, and hold)
  pub refusals : RefusalsBy walk_of
  -- by each wrong one its law fails
  pub still_owing : BreaksKeptForEver owing_on owed_of_nothing (TakeAck 0 0 0) []
  pub acked_early : BreaksKeptForEver acking_early taken_only (TakeAck 0 0 0) (Crash 0 ∷ [])
  pub forgotten : BreaksViewLinks forgetting settled 0 1 0
  pub working_walk : BreaksRefusals working_walk never_checkpointed
