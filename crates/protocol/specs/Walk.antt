-- The walk back from a key, over what the stores hold and what is closed.
use Rattle.std.specs.Prelude.{ℕ, zero, suc, ◌+◌, ◌-◌, Bool, true, false, List, ◌&&◌, not, leb, eqb, get_or, set, replicate}
use Rattle.protocol.specs.Words.{pick, bit}
use Rattle.protocol.specs.Slots.{number, view, is_lasting, lasting_contents, lasting_cause_links, lasting_viewlink}
use Rattle.protocol.specs.Closed.{closed_of}
use Rattle.protocol.specs.Broken.{broken_of}
use Rattle.protocol.specs.declared.State.{State}

-- The keys met so far, in the order first met, and how many store entries were looked up; fine until one isn't closed or an
-- entry or link is missing.
pub record Met : Type 0 where
  pub fine : Bool
  pub met : List Bool
  pub keys : List ℕ
  pub count : ℕ
  pub lookups : ℕ

-- what a walk answers: no keys and no lookups where it is refused
pub record Walked : Type 0 where
  pub answer : ℕ
  pub keys : List ℕ
  pub count : ℕ
  pub lookups : ℕ

-- a key is answered once, in the order first met
abbrev pub added : Met → ℕ → Met
added w k =
    record { fine = w.fine; met = set w.met k true; keys = set w.keys w.count k; count = w.count + 1; lookups = w.lookups }

abbrev pub spoiled : Met → Met
spoiled w = record { fine = false; met = w.met; keys = w.keys; count = w.count; lookups = w.lookups }

-- the number of store entries looked up (RULES.md, Lookups)
abbrev pub looked_up : Met → Met
looked_up w = record { fine = w.fine; met = w.met; keys = w.keys; count = w.count; lookups = w.lookups + 1 }

-- a sender record by a link, 0 for none and p + 1 for store p: the store holds its contents, and its key is closed
unfoldable pub found_of : State → ℕ → ℕ → Bool
found_of m k link = not (eqb link 0) && is_lasting m (link - 1) (number k 0) && closed_of m k

-- its causes, as the store holds them
abbrev pub causes_held : State → ℕ → ℕ → ℕ
causes_held m k link = (lasting_contents m (link - 1) (number k 0)).causes

-- by the receipt's viewlink to the opposite sender record; none where the receipt isn't held
unfoldable pub receipt_of : State → ℕ → ℕ → ℕ
receipt_of m p j = pick (is_lasting m p (number j 1)) (lasting_viewlink m p (number j 1)) 0

-- by the cause link to the receipt
unfoldable pub hop_of : State → ℕ → ℕ → ℕ → ℕ
hop_of m k link j = receipt_of m (get_or (lasting_cause_links m (link - 1) k) j 0) j

-- visit each of the n numbers from j that the set has, rising
unfoldable pub each : (ℕ → Met → Met) → ℕ → ℕ → ℕ → Met → Met
each visit causes zero j w = w
each visit causes (suc n) j w = each visit causes n (j + 1) (pick (bit causes j) (visit j w) w)

-- a cause is due: nothing was missing so far, and it isn't met. A key met again costs none.
abbrev pub is_due : Met → ℕ → Bool
is_due w j = w.fine && not (get_or w.met j false)

-- a cause that is due: its receipt is looked up, and the opposite sender record is visited
abbrev pub to_cause : (ℕ → ℕ → Met → Met) → State → ℕ → ℕ → ℕ → Met → Met
to_cause visit m k link j w = pick (is_due w j) (visit j (hop_of m k link j) (looked_up w)) w

-- The sender record is looked up; for each cause, rising, the walk goes on from that one's in the same way.
-- (The first number bounds the depth: a cause is below its key.)
unfoldable pub visit_of : ℕ → State → ℕ → ℕ → Met → Met
visit_of zero m k link w = w
visit_of (suc depth) m k link w =
    let onward = each (to_cause (visit_of depth m) m k link) (causes_held m k link) k 0 (added (looked_up w) k) in
    pick (found_of m k link) onward (spoiled w)

abbrev pub unmet : Met
unmet = record { fine = true; met = replicate 16 false; keys = replicate 16 0; count = 0; lookups = 0 }

-- it finds that interaction's sender record in its settled store
unfoldable pub walked_from : State → ℕ → Met
walked_from m k = visit_of 16 m k ((view m (number k 0)).store + 1) unmet

abbrev pub refused_walk : ℕ → Walked
refused_walk n = record { answer = n; keys = replicate 16 0; count = 0; lookups = 0 }

-- 13 if a key it meets isn't closed, or an entry or link it needs is missing
abbrev pub answer_of : Met → Walked
answer_of w = pick w.fine (record { answer = 0; keys = w.keys; count = w.count; lookups = w.lookups }) (refused_walk 13)

-- refused with 1, then 2 for a key not in this machine, then 13
unfoldable pub walk_of : State → ℕ → Walked
walk_of m k = let w = walked_from m k in pick (broken_of m) (refused_walk 1) (pick (leb m.made k) (refused_walk 2) (answer_of w))
