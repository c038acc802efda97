-- The marked form of the queues' clauses, which the code computes: the queues are gone over once, and the views met are marked in one
-- word, a bit each. No reader has to believe it: `marked_same` says that it is what `queued_once` and `queue_fine` say.
use Rattle.std.specs.Prelude.{◌+◌, ℕ, ◌-◌, ◌/◌, Bool, true, ◌&&◌, ◌||◌, not, List, [], ◌∷◌, ltb, leb, eqb, length, get_or}
use Rattle.protocol.specs.Words.{bit, joined, all}
use Rattle.protocol.specs.Slots.{no_view, standing}
use Rattle.protocol.specs.Broken.{links_fine, phase_fine, made_view, waits, waits_at}
use Rattle.protocol.specs.declared.View.{View}
use Rattle.protocol.specs.declared.Queue.{Queue}

-- p holds of i and the first element of l with the marks, of i + 1 and the second with the marks after the first, and so on
unfoldable pub all_met : {A : Type 0} → (ℕ → ℕ → A → Bool) → (ℕ → A → ℕ) → ℕ → ℕ → List A → Bool
all_met p next marks i [] = true
all_met p next marks i (x ∷ xs) = p marks i x && all_met p next (next marks x) (i + 1) xs

-- the marks after l
unfoldable pub marks_after : {A : Type 0} → (ℕ → A → ℕ) → ℕ → List A → ℕ
marks_after next marks [] = marks
marks_after next marks (x ∷ xs) = marks_after next (next marks x) xs

-- the view at place i of an actor's queue was not met before, and waits there
abbrev pub place_met : List View → ℕ → ℕ → ℕ → ℕ → Bool
place_met views a marks i v = not (bit marks v) && waits_at a i (get_or views v no_view)

-- blank behind the last actor, and behind the queue's end
abbrev pub blank_behind : ℕ → ℕ → Queue → Bool
blank_behind actors a q = (ltb a actors || eqb q.len 0) && all (λ i v. ltb i q.len || eqb v 0) q.views

unfoldable pub queue_met : ℕ → List View → ℕ → ℕ → Queue → Bool
queue_met actors views marks a q =
    eqb (length q.views) 16 && leb q.len 16 && blank_behind actors a q && all_met (place_met views a) joined marks 0 (standing q)

unfoldable pub queue_marks : ℕ → Queue → ℕ
queue_marks marks q = marks_after joined marks (standing q)

abbrev pub queues_met : ℕ → List View → List Queue → Bool
queues_met actors views queues = all_met (queue_met actors views) queue_marks 0 0 queues

abbrev pub marks_of : List Queue → ℕ
marks_of queues = marks_after queue_marks 0 queues

-- a view in phases 1 to 4 was met
abbrev pub waits_met : ℕ → ℕ → View → Bool
waits_met marks v w = not (waits w.phase) || bit marks v

unfoldable pub view_met : ℕ → ℕ → ℕ → List View → ℕ → ℕ → View → Bool
view_met stores actors made views marks v w =
    links_fine stores (v / 2) w.causes w.links && phase_fine stores w
    && made_view actors made (get_or views (v - 1) no_view).actor v w && waits_met marks v w
