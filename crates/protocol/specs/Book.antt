-- How the bytes of a book are read: by position, where they stand.
use Rattle.std.specs.Prelude.{ℕ, zero, suc, ◌+◌, ◌*◌, Bool, false, ◌&&◌, ◌||◌, List, [], ◌∷◌, leb, ltb, eqb, length, get_or, Some, None, Option}
use Rattle.protocol.specs.Words.{pick, table}
use Rattle.protocol.specs.declared.Setup.{Setup}
use Rattle.protocol.specs.declared.Step.{Step}
use Rattle.protocol.specs.declared.Step.TheVariants.{Send, Receive, PreCheck, SendRecord, Timeout, TakeRecord, TakeAck, PostCheck, TakeRepair, SendUpdate, TakeUpdate, TakeUack, Expire, Lose, Crash, Restart, Checkpoint, Duplicate}

-- one byte each, but data four bytes and causes two, low first
abbrev pub byte : List ℕ → ℕ → ℕ
byte s i = get_or s i 0

abbrev pub low16 : List ℕ → ℕ → ℕ
low16 s i = byte s i + byte s (i + 1) * 256

abbrev pub low32 : List ℕ → ℕ → ℕ
low32 s i = low16 s i + low16 s (i + 2) * 65536

-- how many bytes the fields of a kind take; 0 for an unknown kind
abbrev pub widths : List ℕ
widths = 0 ∷ 9 ∷ 1 ∷ 1 ∷ 1 ∷ 2 ∷ 3 ∷ 3 ∷ 1 ∷ 2 ∷ 2 ∷ 3 ∷ 3 ∷ 2 ∷ 4 ∷ 1 ∷ 1 ∷ 1 ∷ 4 ∷ []

unfoldable pub width_of : ℕ → ℕ
width_of kind = get_or widths kind 0

-- kinds 9 to 18, whose fields are bytes: repair, loss, crash, restart, checkpoint and duplicate
unfoldable pub repair_made : ℕ → ℕ → ℕ → ℕ → ℕ → Step
repair_made kind a b c d =
    pick (eqb kind 9) (TakeRepair a b)
    (pick (eqb kind 10) (SendUpdate a b)
    (pick (eqb kind 11) (TakeUpdate a b c)
    (pick (eqb kind 12) (TakeUack a b c)
    (pick (eqb kind 13) (Expire a b)
    (pick (eqb kind 14) (Lose a b c d)
    (pick (eqb kind 15) (Crash a)
    (pick (eqb kind 16) (Restart a)
    (pick (eqb kind 17) (Checkpoint a)
    (Duplicate a b c d)))))))))

-- kinds 2 to 18, whose fields are bytes
unfoldable pub short_made : ℕ → ℕ → ℕ → ℕ → ℕ → Step
short_made kind a b c d =
    pick (eqb kind 2) (Receive a)
    (pick (eqb kind 3) (PreCheck a)
    (pick (eqb kind 4) (SendRecord a)
    (pick (eqb kind 5) (Timeout a b)
    (pick (eqb kind 6) (TakeRecord a b c)
    (pick (eqb kind 7) (TakeAck a b c)
    (pick (eqb kind 8) (PostCheck a)
    (repair_made kind a b c d)))))))

-- the step of a kind whose fields, in the order of the rules, start at i
unfoldable pub step_made : List ℕ → ℕ → ℕ → Step
step_made s kind i =
    pick (eqb kind 1) (Send (byte s i) (byte s (i + 1)) (byte s (i + 2)) (low32 s (i + 3)) (low16 s (i + 7)))
    (short_made kind (byte s i) (byte s (i + 1)) (byte s (i + 2)) (byte s (i + 3)))

-- the step at a position and the place behind it; none for an unknown kind, or where the bytes end before the fields do
abbrev pub read_kind : List ℕ → ℕ → ℕ → ℕ → Option (Step × ℕ)
read_kind s at kind width =
    pick (eqb width 0 || leb (length s) (at + width)) None (Some (step_made s kind (at + 1), at + 1 + width))

unfoldable pub read_step : List ℕ → ℕ → Option (Step × ℕ)
read_step s at = pick (leb (length s) at) None (read_kind s at (byte s at) (width_of (byte s at)))

abbrev pub on_read : {A : Type 0} → Option (Step × ℕ) → A → (Step → ℕ → A) → A
on_read None none some = none
on_read (Some (step, next)) none some = some step next

-- n steps stand from here to the end, and nothing behind them
unfoldable pub valid_from : List ℕ → ℕ → ℕ → Bool
valid_from s zero at = eqb at (length s)
valid_from s (suc n) at = on_read (read_step s at) false (λ step next. valid_from s n next)

-- the steps that stand from here
unfoldable pub steps_from : List ℕ → ℕ → ℕ → List Step
steps_from s zero at = []
steps_from s (suc n) at = on_read (read_step s at) [] (λ step next. step ∷ steps_from s n next)

-- Sections in a fixed order, each after its count: stores (one byte, no rows); actors (one byte), each home then list;
-- steps (two bytes, low first).
abbrev pub stores_read : List ℕ → ℕ
stores_read s = byte s 0

abbrev pub actors_read : List ℕ → ℕ
actors_read s = byte s 1

abbrev pub home_read : List ℕ → ℕ → ℕ
home_read s a = byte s (2 + 2 * a)

abbrev pub list_read : List ℕ → ℕ → ℕ
list_read s a = byte s (3 + 2 * a)

-- where the steps start, and how many there are
unfoldable pub start_of : List ℕ → ℕ
start_of s = 4 + 2 * actors_read s

unfoldable pub count_of : List ℕ → ℕ
count_of s = low16 s (2 + 2 * actors_read s)

-- Too short, too long, an unknown kind or too many steps is 10.
unfoldable pub well_formed : List ℕ → Bool
well_formed s = leb (start_of s) (length s) && leb (count_of s) 4096 && valid_from s (count_of s) (start_of s)

-- the setup that a book states; rows behind the eighth are not looked at, as nine actors are illegal
unfoldable pub setup_read : List ℕ → Setup
setup_read s =
    record {
      stores = stores_read s;
      actors = actors_read s;
      homes = table (λ a. pick (ltb a (actors_read s)) (home_read s a) 0) 8;
      lists = table (λ a. pick (ltb a (actors_read s)) (list_read s a) 0) 8;
    }

-- what the bytes of a book say: its counts, rows and steps
pub record Reading : Type 0 where
  pub stores : ℕ
  pub homes : List ℕ
  pub lists : List ℕ
  pub steps : List Step

unfoldable pub reading_of : List ℕ → Reading
reading_of s =
    record {
      stores = stores_read s;
      homes = table (home_read s) (actors_read s);
      lists = table (list_read s) (actors_read s);
      steps = steps_from s (count_of s) (start_of s);
    }
