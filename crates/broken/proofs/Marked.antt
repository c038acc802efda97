-- The marked form of the queues' clauses is what the definitions say: every view in phases 1 to 4 is exactly once in its own actor's
-- queue, and no other view stands there. The idea: a bit of the marks is how often its view was met, since none is met twice; and
-- a view is met in its own actor's queue only. By the lists; assumes nothing.
use Prim.Native.Nat.{ℕ, zero, suc, ◌+◌, ◌-◌, ◌≤◌, ◌<◌, ◌/◌}
use mathlib.Core.Path.{◌≡◌, refl, sym, ap, ap₂, ◌∙◌}
use mathlib.Core.Logic.{◌≢◌}
use mathlib.Core.Bool.{Bool, true, false, ◌&&◌, ◌||◌, not, false≢true}
use mathlib.Core.List.{List, [], ◌∷◌}
use native.Mathlib.Omega.{arith}
use native.Mathlib.Decide.{dec_lt}
use borrow.Author.Tests.{not-true, eqb-true, ltb-true, leb-true, eq-eqb, ne_eqb, lt-ltb}
use lib.Dec.{ltb, leb, eqb}
use lib.ListN.{length, take, get_or, get_or-eq_default}
use lib.Seq.{length-take-le, get_or-take}
use Rattle.protocol.specs.Words.{bit, joined, one, times, all_from, all}
use Rattle.protocol.specs.Slots.{no_view, no_queue, standing}
use Rattle.protocol.specs.Broken.{links_fine, phase_fine, made_view, waits, waits_at, queued_once, view_fine, stands_fine, queue_fine}
use Rattle.protocol.specs.declared.View.{View}
use Rattle.protocol.specs.declared.Queue.{Queue}
use Rattle.unbroken.proofs.Laws.Bits.{bit_none, joined_bit}
use Rattle.unbroken.proofs.Laws.Every.{all_at, all_each}
use Rattle.std.proofs.Math.Bool.{and-false}
use Rattle.std.proofs.lemmas.Bool.{and_from, and_parts, not_from_false, not_from_true}
use Rattle.unbroken.proofs.Laws.Tests.{or_else, or_of, pick_then, pick_else, pick_of, by_test}
use Rattle.broken.proofs.Words.{all_same, and_true}
use Rattle.broken.specs.Marks.{all_met, marks_after, place_met, queue_met, queue_marks, queues_met, marks_of, waits_met, view_met}

not_both : {P : Type 0} (c : Bool) → c ≡ true → c ≡ false → P
not_both c h k = absurd (false≢true (sym k ∙ h))

one_or : (a b : Bool) → (b ≡ true → a ≡ false) → one (a || b) ≡ one a + one b
one_or true true f = absurd (false≢true (sym (f refl)))
one_or true false f = refl
one_or false b f = omega arith

one_eqb : (b : Bool) (n : ℕ) → one b ≡ n → b ≡ eqb n 1
one_eqb true n e = ap (λ (k : ℕ). eqb k 1) e
one_eqb false n e = ap (λ (k : ℕ). eqb k 1) e

one_none : (b : Bool) → b ≡ false → one b ≡ 0
one_none b e = ap one e

one_few : (b : Bool) → one b ≡ 0 → b ≡ false
one_few true e = absurd (omega arith)
one_few false e = refl

-- a view that is not marked yet counts once more
mark_one : (marks v w : ℕ) → bit marks v ≡ false → one (bit (joined marks v) w) ≡ one (bit marks w) + one (eqb v w)
mark_one marks v w f = ap one (joined_bit marks v w) ∙ one_or (bit marks w) (eqb v w) (λ e. ap (λ (k : ℕ). bit marks k) (sym (eqb-true v w e)) ∙ f)

-- the views of a list wait at an actor, from place i on
abbrev waiting : List View → ℕ → ℕ → List ℕ → Bool
waiting views a i l = all_from (λ j v. waits_at a j (get_or views v no_view)) i l

abbrev met : List View → ℕ → ℕ → ℕ → List ℕ → Bool
met views a marks i l = all_met (place_met views a) joined marks i l

met_free : (views : List View) (a marks i v : ℕ) (l : List ℕ) → met views a marks i (v ∷ l) ≡ true → bit marks v ≡ false
unfolding all_met
met_free views a marks i v l e =
    not-true (bit marks v)
    (and_parts (not (bit marks v)) (waits_at a i (get_or views v no_view)) (and_parts (place_met views a marks i v) (met views a (joined marks v) (i + 1) l) e).0).0

met_rest : (views : List View) (a marks i v : ℕ) (l : List ℕ) → met views a marks i (v ∷ l) ≡ true → met views a (joined marks v) (i + 1) l ≡ true
unfolding all_met
met_rest views a marks i v l e = (and_parts (place_met views a marks i v) (met views a (joined marks v) (i + 1) l) e).1

met_bits : (views : List View) (a marks i : ℕ) (l : List ℕ) → met views a marks i l ≡ true → (w : ℕ) → one (bit (marks_after joined marks l) w) ≡ one (bit marks w) + times w l
unfolding marks_after times
met_bits views a marks i [] e w = omega arith
met_bits views a marks i (v ∷ l) e w =
    let r = met_bits views a (joined marks v) (i + 1) l (met_rest views a marks i v l e) w in
    let k = mark_one marks v w (met_free views a marks i v l e) in
    omega arith

met_waiting : (views : List View) (a marks i : ℕ) (l : List ℕ) → met views a marks i l ≡ true → waiting views a i l ≡ true
unfolding all_met all_from
met_waiting views a marks i [] e = refl
met_waiting views a marks i (v ∷ l) e =
    and_from (waits_at a i (get_or views v no_view)) (waiting views a (i + 1) l)
    (and_parts (not (bit marks v)) (waits_at a i (get_or views v no_view)) (and_parts (place_met views a marks i v) (met views a (joined marks v) (i + 1) l) e).0).1
    (met_waiting views a (joined marks v) (i + 1) l (met_rest views a marks i v l e))

waiting_met : (views : List View) (a marks i : ℕ) (l : List ℕ) → waiting views a i l ≡ true → ((w : ℕ) → one (bit marks w) + times w l ≤ 1) → met views a marks i l ≡ true
unfolding all_met all_from times
waiting_met views a marks i [] e few = refl
waiting_met views a marks i (v ∷ l) e few =
    let self = ap one (eq-eqb v v refl) in
    let once = few v in
    let free = one_few (bit marks v) (omega arith) in
    and_from (place_met views a marks i v) (met views a (joined marks v) (i + 1) l)
    (and_from (not (bit marks v)) (waits_at a i (get_or views v no_view)) (not_from_false (bit marks v) free) (and_parts (waits_at a i (get_or views v no_view)) (waiting views a (i + 1) l) e).0)
    (waiting_met views a (joined marks v) (i + 1) l (and_parts (waits_at a i (get_or views v no_view)) (waiting views a (i + 1) l) e).1 (λ w. let k = mark_one marks v w free in let q = few w in omega arith))

-- a queue whose places are fine is blank behind its end, and its views wait
abbrev behind : ℕ → ℕ → ℕ → Bool
behind len i v = ltb i len || eqb v 0

abbrev stands : List View → ℕ → ℕ → ℕ → Bool
stands views a i v = waits_at a i (get_or views v no_view)

fine_behind : (views : List View) (a len : ℕ) (l : List ℕ) → all (stands_fine views a len) l ≡ true → all (behind len) l ≡ true
fine_behind views a len l e =
    all_each (behind len) l 0 (λ j h. or_of (ltb j len) (eqb (get_or l j 0) 0) (λ f. pick_else (ltb j len) (stands views a j (get_or l j 0)) (eqb (get_or l j 0) 0) (all_at (stands_fine views a len) l 0 e j h) f))

fine_waiting : (views : List View) (a len : ℕ) (l : List ℕ) → len ≤ length l → all (stands_fine views a len) l ≡ true → waiting views a 0 (take len l) ≡ true
fine_waiting views a len l long e =
    all_each (stands views a) (take len l) 0 (λ j h.
    let b : j < len = omega (arith, length-take-le len l long) in
    ap (stands views a j) (get_or-take len l j 0 b) ∙ pick_then (ltb j len) (stands views a j (get_or l j 0)) (eqb (get_or l j 0) 0) (all_at (stands_fine views a len) l 0 e j (omega arith)) (lt-ltb j len b))

waiting_fine : (views : List View) (a len : ℕ) (l : List ℕ) → len ≤ length l → all (behind len) l ≡ true → waiting views a 0 (take len l) ≡ true → all (stands_fine views a len) l ≡ true
waiting_fine views a len l long e w =
    all_each (stands_fine views a len) l 0 (λ j h. pick_of (ltb j len) (stands views a j (get_or l j 0)) (eqb (get_or l j 0) 0)
    (λ f. let b = ltb-true j len f in sym (ap (stands views a j) (get_or-take len l j 0 b)) ∙ all_at (stands views a) (take len l) 0 w j (omega (arith, length-take-le len l long)))
    (λ f. or_else (ltb j len) (eqb (get_or l j 0) 0) (all_at (behind len) l 0 e j h) f))

-- what the two tests of a queue say
all_four : (l m r s : Bool) → l && m && r && s ≡ true → (l ≡ true) × (m ≡ true) × (r ≡ true) × (s ≡ true)
all_four false m r s e = absurd (false≢true e)
all_four true false r s e = absurd (false≢true e)
all_four true true false s e = absurd (false≢true e)
all_four true true true s e = (refl, refl, refl, e)

of_four : (l m r s : Bool) → l ≡ true → m ≡ true → r ≡ true → s ≡ true → l && m && r && s ≡ true
of_four l m r s e f g h = and_from (l && m && r) s (and_from (l && m) r (and_from l m e f) g) h

abbrev long : Queue → Bool
long q = eqb (length q.views) 16

abbrev row : ℕ → ℕ → Queue → Bool
row actors a q = ltb a actors || eqb q.len 0

room : (q : Queue) → long q ≡ true → leb q.len 16 ≡ true → q.len ≤ length q.views
room q e f = let m = eqb-true (length q.views) 16 e in let n = leb-true q.len 16 f in omega arith

queue_met_places : (actors : ℕ) (views : List View) (marks a : ℕ) (q : Queue) → queue_met actors views marks a q ≡ true → met views a marks 0 (standing q) ≡ true
unfolding queue_met
queue_met_places actors views marks a q e = (all_four (long q) (leb q.len 16) (row actors a q && all (behind q.len) q.views) (met views a marks 0 (standing q)) e).3

queue_met_fine : (actors : ℕ) (views : List View) (marks a : ℕ) (q : Queue) → queue_met actors views marks a q ≡ true → queue_fine actors views a q ≡ true
unfolding queue_met queue_fine
queue_met_fine actors views marks a q e =
    let x = all_four (long q) (leb q.len 16) (row actors a q && all (behind q.len) q.views) (met views a marks 0 (standing q)) e in
    of_four (long q) (leb q.len 16) (row actors a q) (all (stands_fine views a q.len) q.views) x.0 x.1 (and_parts (row actors a q) (all (behind q.len) q.views) x.2).0
    (waiting_fine views a q.len q.views (room q x.0 x.1) (and_parts (row actors a q) (all (behind q.len) q.views) x.2).1 (met_waiting views a marks 0 (standing q) x.3))

queue_fine_waiting : (actors : ℕ) (views : List View) (a : ℕ) (q : Queue) → queue_fine actors views a q ≡ true → waiting views a 0 (standing q) ≡ true
unfolding queue_fine
queue_fine_waiting actors views a q e =
    let x = all_four (long q) (leb q.len 16) (row actors a q) (all (stands_fine views a q.len) q.views) e in
    fine_waiting views a q.len q.views (room q x.0 x.1) x.3

queue_fine_met : (actors : ℕ) (views : List View) (marks a : ℕ) (q : Queue) → queue_fine actors views a q ≡ true → ((w : ℕ) → one (bit marks w) + times w (standing q) ≤ 1) → queue_met actors views marks a q ≡ true
unfolding queue_met queue_fine
queue_fine_met actors views marks a q e few =
    let x = all_four (long q) (leb q.len 16) (row actors a q) (all (stands_fine views a q.len) q.views) e in
    of_four (long q) (leb q.len 16) (row actors a q && all (behind q.len) q.views) (met views a marks 0 (standing q)) x.0 x.1
    (and_from (row actors a q) (all (behind q.len) q.views) x.2 (fine_behind views a q.len q.views x.3))
    (waiting_met views a marks 0 (standing q) (queue_fine_waiting actors views a q e) few)

-- how often a view stands in queues
times_in : ℕ → List Queue → ℕ
times_in v [] = 0
times_in v (q ∷ qs) = times v (standing q) + times_in v qs

abbrev all_queues_met : ℕ → List View → ℕ → ℕ → List Queue → Bool
all_queues_met actors views marks a qs = all_met (queue_met actors views) queue_marks marks a qs

abbrev all_fine : ℕ → List View → ℕ → List Queue → Bool
all_fine actors views a qs = all_from (queue_fine actors views) a qs

queues_bits : (actors : ℕ) (views : List View) (marks a : ℕ) (qs : List Queue) → all_queues_met actors views marks a qs ≡ true → (w : ℕ) → one (bit (marks_after queue_marks marks qs) w) ≡ one (bit marks w) + times_in w qs
unfolding all_met marks_after times_in queue_marks
queues_bits actors views marks a [] e w = omega arith
queues_bits actors views marks a (q ∷ qs) e w =
    let first = (and_parts (queue_met actors views marks a q) (all_queues_met actors views (queue_marks marks q) (a + 1) qs) e).0 in
    let k = met_bits views a marks 0 (standing q) (queue_met_places actors views marks a q first) w in
    let r = queues_bits actors views (queue_marks marks q) (a + 1) qs (and_parts (queue_met actors views marks a q) (all_queues_met actors views (queue_marks marks q) (a + 1) qs) e).1 w in
    omega arith

queues_fine : (actors : ℕ) (views : List View) (marks a : ℕ) (qs : List Queue) → all_queues_met actors views marks a qs ≡ true → all_fine actors views a qs ≡ true
unfolding all_met all_from
queues_fine actors views marks a [] e = refl
queues_fine actors views marks a (q ∷ qs) e =
    and_from (queue_fine actors views a q) (all_fine actors views (a + 1) qs)
    (queue_met_fine actors views marks a q (and_parts (queue_met actors views marks a q) (all_queues_met actors views (queue_marks marks q) (a + 1) qs) e).0)
    (queues_fine actors views (queue_marks marks q) (a + 1) qs (and_parts (queue_met actors views marks a q) (all_queues_met actors views (queue_marks marks q) (a + 1) qs) e).1)

queues_met_holds : (actors : ℕ) (views : List View) (marks a : ℕ) (qs : List Queue) → all_fine actors views a qs ≡ true → ((w : ℕ) → one (bit marks w) + times_in w qs ≤ 1) → all_queues_met actors views marks a qs ≡ true
unfolding all_met all_from times_in queue_marks
queues_met_holds actors views marks a [] e few = refl
queues_met_holds actors views marks a (q ∷ qs) e few =
    let fine = (and_parts (queue_fine actors views a q) (all_fine actors views (a + 1) qs) e).0 in
    let first = queue_fine_met actors views marks a q fine (λ w. let k = few w in omega arith) in
    and_from (queue_met actors views marks a q) (all_queues_met actors views (queue_marks marks q) (a + 1) qs) first
    (queues_met_holds actors views (queue_marks marks q) (a + 1) qs (and_parts (queue_fine actors views a q) (all_fine actors views (a + 1) qs) e).1
    (λ w. let k = met_bits views a marks 0 (standing q) (queue_met_places actors views marks a q first) w in let n = few w in omega arith))

-- a view stands in its own actor's queue only, and nowhere unless it waits
away : (views : List View) (a i v : ℕ) (l : List ℕ) → waiting views a i l ≡ true → ((j : ℕ) → stands views a j v ≡ false) → times v l ≡ 0
unfolding all_from times
away views a i v [] e none = refl
away views a i v (x ∷ l) e none =
    let r = away views a (i + 1) v l (and_parts (stands views a i x) (waiting views a (i + 1) l) e).1 none in
    let k = one_none (eqb x v) (by_test (eqb x v) (λ f. not_both (stands views a i x) (and_parts (stands views a i x) (waiting views a (i + 1) l) e).0 (ap (stands views a i) (eqb-true x v f) ∙ none i)) (λ f. f)) in
    omega arith

abbrev actor_of : List View → ℕ → ℕ
actor_of views v = (get_or views v no_view).actor

other_actor : (views : List View) (a v : ℕ) → actor_of views v ≢ a → (j : ℕ) → stands views a j v ≡ false
other_actor views a v h j = ap (λ (t : Bool). t && waits (get_or views v no_view).phase && (eqb j 0 || eqb (get_or views v no_view).phase 1)) (ne_eqb (actor_of views v) a h)

not_waiting : (views : List View) (a v : ℕ) → waits (get_or views v no_view).phase ≡ false → (j : ℕ) → stands views a j v ≡ false
not_waiting views a v h j = ap (λ (t : Bool). eqb (actor_of views v) a && t && (eqb j 0 || eqb (get_or views v no_view).phase 1)) h ∙ simp and-false

stands_nowhere : (actors : ℕ) (views : List View) (a v : ℕ) (qs : List Queue) → all_fine actors views a qs ≡ true → ((b j : ℕ) → a ≤ b → stands views b j v ≡ false) → times_in v qs ≡ 0
unfolding all_from times_in
stands_nowhere actors views a v [] e none = refl
stands_nowhere actors views a v (q ∷ qs) e none =
    let k = away views a 0 v (standing q) (queue_fine_waiting actors views a q (and_parts (queue_fine actors views a q) (all_fine actors views (a + 1) qs) e).0) (λ j. none a j (omega arith)) in
    let r = stands_nowhere actors views (a + 1) v qs (and_parts (queue_fine actors views a q) (all_fine actors views (a + 1) qs) e).1 (λ b j h. none b j (omega arith)) in
    omega arith

own_queue : (actors : ℕ) (views : List View) (a v k : ℕ) (qs : List Queue) → all_fine actors views a qs ≡ true → actor_of views v ≡ a + k → times_in v qs ≡ times v (standing (get_or qs k no_queue))
unfolding all_from times_in times
own_queue actors views a v k [] e h = refl
own_queue actors views a v zero (q ∷ qs) e h =
    let r = stands_nowhere actors views (a + 1) v qs (and_parts (queue_fine actors views a q) (all_fine actors views (a + 1) qs) e).1 (λ b j l. other_actor views b v (omega arith) j) in
    omega arith
own_queue actors views a v (suc k) (q ∷ qs) e h =
    let z = away views a 0 v (standing q) (queue_fine_waiting actors views a q (and_parts (queue_fine actors views a q) (all_fine actors views (a + 1) qs) e).0) (other_actor views a v (omega arith)) in
    let r = own_queue actors views (a + 1) v k qs (and_parts (queue_fine actors views a q) (all_fine actors views (a + 1) qs) e).1 (omega arith) in
    omega arith

-- .. so that a bit of the marks says whether its view stands once in its own actor's queue
abbrev own_times : List View → List Queue → ℕ → ℕ
own_times views queues v = times v (standing (get_or queues (actor_of views v) no_queue))

bit_own : (actors : ℕ) (views : List View) (queues : List Queue) → queues_met actors views queues ≡ true → (v : ℕ) → bit (marks_of queues) v ≡ eqb (own_times views queues v) 1
bit_own actors views queues e v =
    let n = queues_bits actors views 0 0 queues e v in
    let o = own_queue actors views 0 v (actor_of views v) queues (queues_fine actors views 0 0 queues e) (omega arith) in
    let z = one_none (bit 0 v) (bit_none v) in
    one_eqb (bit (marks_of queues) v) (own_times views queues v) (omega arith)

-- where the definitions' clauses hold, no view is met twice
once : (actors : ℕ) (views : List View) (queues : List Queue) → all (queue_fine actors views) queues ≡ true → ((v : ℕ) → v < length views → queued_once queues v (get_or views v no_view) ≡ true) → (v : ℕ) → times_in v queues ≤ 1
once actors views queues e f v =
    by_test (waits (get_or views v no_view).phase) (λ h. standing_once (dec_lt v (length views)) h) (λ h. let z = stands_nowhere actors views 0 v queues e (λ b j l. not_waiting views b v h j) in omega arith)
  where
    standing_once : Dec (v < length views) → waits (get_or views v no_view).phase ≡ true → times_in v queues ≤ 1
    standing_once (yes q) h =
        let o = own_queue actors views 0 v (actor_of views v) queues e (omega arith) in
        let n = eqb-true (own_times views queues v) 1 (or_else (not (waits (get_or views v no_view).phase)) (eqb (own_times views queues v) 1) (f v q) (not_from_true (waits (get_or views v no_view).phase) h)) in
        omega arith
    standing_once (no q) h = absurd (false≢true (sym (ap (λ (w : View). waits w.phase) (get_or-eq_default views no_view {n = v} (omega arith))) ∙ h))

-- the law: every view in phases 1 to 4 is exactly once in its own actor's queue, and no other view stands there. `part` is what else is
-- tested of a view beside it.
pub marked_same : (part : Bool → ℕ → View → Bool) → ((v : ℕ) (w : View) → part false v w ≡ false) → (actors : ℕ) (views : List View) (queues : List Queue)
    → (queues_met actors views queues && all (λ v w. part (waits_met (marks_of queues) v w) v w) views) ≡ (all (λ v w. part (queued_once queues v w) v w) views && all (queue_fine actors views) queues)
marked_same part strict actors views queues =
    by_test (queues_met actors views queues)
    (λ e. ap₂ ◌&&◌ e (all_same marked queued views no_view (λ v h. ap (λ (t : Bool). part (not (waits (get_or views v no_view).phase) || t) v (get_or views v no_view)) (bit_own actors views queues e v)))
    ∙ sym (ap (λ (t : Bool). all queued views && t) (queues_fine actors views 0 0 queues e) ∙ and_true (all queued views)))
    (λ e. ap (λ (t : Bool). t && all marked views) e ∙ sym (by_test (all queued views && all (queue_fine actors views) queues) (λ f. not_both (queues_met actors views queues) (whole f) e) (λ f. f)))
  where
    marked : ℕ → View → Bool
    marked v w = part (waits_met (marks_of queues) v w) v w

    queued : ℕ → View → Bool
    queued v w = part (queued_once queues v w) v w

    whole : (all queued views && all (queue_fine actors views) queues) ≡ true → queues_met actors views queues ≡ true
    whole f =
        let fine = (and_parts (all queued views) (all (queue_fine actors views) queues) f).1 in
        queues_met_holds actors views 0 0 queues fine (λ w.
        let z = one_none (bit 0 w) (bit_none w) in
        let n = once actors views queues fine (λ v h. by_test (queued_once queues v (get_or views v no_view)) (λ g. g)
        (λ g. not_both (queued v (get_or views v no_view)) (all_at queued views no_view (and_parts (all queued views) (all (queue_fine actors views) queues) f).0 v h)
        (ap (λ (t : Bool). part t v (get_or views v no_view)) g ∙ strict v (get_or views v no_view)))) w in
        omega arith)

-- .. and with the other clauses of a view
pub jobs_marked : (stores actors made : ℕ) (views : List View) (queues : List Queue)
    → (queues_met actors views queues && all (view_met stores actors made views (marks_of queues)) views) ≡ (all (view_fine stores actors made views queues) views && all (queue_fine actors views) queues)
unfolding view_met view_fine
jobs_marked stores actors made views queues =
    marked_same (λ t v w. links_fine stores (v / 2) w.causes w.links && phase_fine stores w && made_view actors made (get_or views (v - 1) no_view).actor v w && t)
    (λ v w. and-false (links_fine stores (v / 2) w.causes w.links && phase_fine stores w && made_view actors made (get_or views (v - 1) no_view).actor v w)) actors views queues

-- .. as the code asks: the queues first, and the views by their marks
pub jobs_met : (stores actors made : ℕ) (views : List View) (queues : List Queue) {marks : ℕ} → queues_met actors views queues ≡ true → marks ≡ marks_of queues
    → all (view_met stores actors made views marks) views ≡ (all (view_fine stores actors made views queues) views && all (queue_fine actors views) queues)
jobs_met stores actors made views queues e h =
    ap (λ n. all (view_met stores actors made views n) views) h
    ∙ (sym (ap (λ b. b && all (view_met stores actors made views (marks_of queues)) views) e) ∙ jobs_marked stores actors made views queues)

pub jobs_unmet : (stores actors made : ℕ) (views : List View) (queues : List Queue) → queues_met actors views queues ≡ false
    → (all (view_fine stores actors made views queues) views && all (queue_fine actors views) queues) ≡ false
jobs_unmet stores actors made views queues e =
    sym (jobs_marked stores actors made views queues) ∙ ap (λ b. b && all (view_met stores actors made views (marks_of queues)) views) e
