-- A call made turn after turn, on a machine after a book, and what is told of the turns: a sum.
use Rattle.std.specs.Borrow.{Bor, MutBor}
use Rattle.std.specs.Prelude.{◌≡◌, ℕ, zero, suc, ◌+◌, ◌%◌, ◌^◌, List, replicate, slice_set}
use Rattle.protocol.specs.Words.{one}
use Rattle.protocol.specs.Writes.{with_acks}
use Rattle.protocol.specs.Broken.{broken_of}
use Rattle.protocol.specs.declared.State.{State}
use Rattle.protocol.specs.declared.Step.{Step}
use Rattle.protocol.specs.Step.{step_of}
use Rattle.protocol.specs.Run.{run_of}
use Rattle.protocol.specs.Drain.{drain_of}
use Rattle.protocol.specs.Walk.{walk_of}
use Rattle.protocol.specs.Provn.{provn_of}

-- the machine after a book
abbrev pub after : List ℕ → State
after book = (run_of book 4096).state

-- turns n, n - 1, .., 1
unfoldable pub turns : {A : Type 0} → (ℕ → A → A) → ℕ → A → A
turns f zero a = a
turns f (suc n) a = turns f n (f (suc n) a)

abbrev pub summed : ℕ → ℕ → ℕ
summed sum n = (sum + n) % 2 ^ 32

-- the machine of a turn: the acks in flight at a place are 1 and 2 by turns
abbrev pub turned : ℕ → ℕ → State → State
turned at left m = with_acks m (slice_set m.acks at (left % 2 + 1))

-- a turn: what is told of its machine is added up
abbrev pub turn : (State → ℕ) → ℕ → ℕ → State × ℕ → State × ℕ
turn told at left x = (turned at left x.0, summed x.1 (told (turned at left x.0)))

-- what is told of each call
abbrev pub broken_told : State → ℕ
broken_told m = one (broken_of m)

abbrev pub walk_told : ℕ → State → ℕ
walk_told key m = (walk_of m key).count

-- .. of a document, written into a buffer that has room for the longest
abbrev pub lineage_told : ℕ → State → ℕ
lineage_told key m = (provn_of m key (replicate 6247 0)).len

abbrev pub drain_told : State → ℕ
drain_told m = (drain_of m).count + (drain_of m).state.made

abbrev pub step_told : Step → State → ℕ
step_told s m = (step_of m s).answer + (step_of m s).state.made

-- Each call of a turn leaves and tells what `made` says; `post` is the call's own promise.
abbrev pub Makes : {S : Type 0} → (MutBor S → ℕ → ℕ → MutBor S → Type 0) → (ℕ → S × ℕ → S × ℕ) → Type 0
Makes {S} post made =
    (p q : MutBor S) (left sum n : ℕ) → post p left n q → ◌≡◌ {A = S × ℕ} (q.now, summed sum n) (made left (p.now, sum))

-- .. and tells what `told` says of the machine that it is lent.
abbrev pub TellsOf : (Bor State → ℕ → Type 0) → (State → ℕ) → Type 0
TellsOf post told = (p : Bor State) (n : ℕ) → post p n → n ≡ told p.now

-- .. and tells what `told` says of the turns left.
abbrev pub Tells : (ℕ → ℕ → Type 0) → (ℕ → ℕ) → Type 0
Tells post told = (left n : ℕ) → post left n → n ≡ told left
