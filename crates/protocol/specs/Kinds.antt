-- Which step it is: the kinds are listed here once, and a definition that asks about one kind goes by its name.
use Rattle.std.specs.Prelude.{ℕ, List, [], ◌∷◌, eqb, get_or}
use Rattle.protocol.specs.Words.{pick}
use Rattle.protocol.specs.declared.Step.{Step}
use Rattle.protocol.specs.declared.Step.TheVariants.{Send, Receive, PreCheck, SendRecord, Timeout, TakeRecord, TakeAck, PostCheck, TakeRepair, SendUpdate, TakeUpdate, TakeUack, Expire, Lose, Crash, Restart, Checkpoint, Duplicate}

-- the kind's number, 1 to 18, then its fields in their order
abbrev pub numbers : Step → List ℕ
numbers (Send from to own word causes) = 1 ∷ from ∷ to ∷ own ∷ word ∷ causes ∷ []
numbers (Receive k) = 2 ∷ k ∷ []
numbers (PreCheck a) = 3 ∷ a ∷ []
numbers (SendRecord a) = 4 ∷ a ∷ []
numbers (Timeout a p) = 5 ∷ a ∷ p ∷ []
numbers (TakeRecord p k r) = 6 ∷ p ∷ k ∷ r ∷ []
numbers (TakeAck p k r) = 7 ∷ p ∷ k ∷ r ∷ []
numbers (PostCheck a) = 8 ∷ a ∷ []
numbers (TakeRepair k r) = 9 ∷ k ∷ r ∷ []
numbers (SendUpdate k r) = 10 ∷ k ∷ r ∷ []
numbers (TakeUpdate p k r) = 11 ∷ p ∷ k ∷ r ∷ []
numbers (TakeUack p k r) = 12 ∷ p ∷ k ∷ r ∷ []
numbers (Expire k r) = 13 ∷ k ∷ r ∷ []
numbers (Lose what p k r) = 14 ∷ what ∷ p ∷ k ∷ r ∷ []
numbers (Crash p) = 15 ∷ p ∷ []
numbers (Restart p) = 16 ∷ p ∷ []
numbers (Checkpoint p) = 17 ∷ p ∷ []
numbers (Duplicate what p k r) = 18 ∷ what ∷ p ∷ k ∷ r ∷ []

abbrev pub kind : Step → ℕ
kind s = get_or (numbers s) 0 0

abbrev pub field : Step → ℕ → ℕ
field s i = get_or (numbers s) i 0

-- of a step of that kind what is said of its fields, of any other step the rest
abbrev pub on_send : {A : Type 0} → Step → ((from to own word causes : ℕ) → A) → A → A
on_send s said rest = pick (eqb (kind s) 1) (said (field s 1) (field s 2) (field s 3) (field s 4) (field s 5)) rest

abbrev pub on_pre_check : {A : Type 0} → Step → ((actor : ℕ) → A) → A → A
on_pre_check s said rest = pick (eqb (kind s) 3) (said (field s 1)) rest

abbrev pub on_take_record : {A : Type 0} → Step → ((store key role : ℕ) → A) → A → A
on_take_record s said rest = pick (eqb (kind s) 6) (said (field s 1) (field s 2) (field s 3)) rest

abbrev pub on_take_ack : {A : Type 0} → Step → ((store key role : ℕ) → A) → A → A
on_take_ack s said rest = pick (eqb (kind s) 7) (said (field s 1) (field s 2) (field s 3)) rest

abbrev pub on_take_repair : {A : Type 0} → Step → ((key role : ℕ) → A) → A → A
on_take_repair s said rest = pick (eqb (kind s) 9) (said (field s 1) (field s 2)) rest

abbrev pub on_take_uack : {A : Type 0} → Step → ((store key role : ℕ) → A) → A → A
on_take_uack s said rest = pick (eqb (kind s) 12) (said (field s 1) (field s 2) (field s 3)) rest

abbrev pub on_crash : {A : Type 0} → Step → ((store : ℕ) → A) → A → A
on_crash s said rest = pick (eqb (kind s) 15) (said (field s 1)) rest

abbrev pub on_restart : {A : Type 0} → Step → ((store : ℕ) → A) → A → A
on_restart s said rest = pick (eqb (kind s) 16) (said (field s 1)) rest

abbrev pub on_checkpoint : {A : Type 0} → Step → ((store : ℕ) → A) → A → A
on_checkpoint s said rest = pick (eqb (kind s) 17) (said (field s 1)) rest
