-- A second message of a kind finds its place taken, so that the row, both rows and the store stay. Assumes nothing.
use Prim.Native.Nat.{◌≤◌, ◌<◌, min}
use mathlib.Core.Path.{◌≡◌, refl, sym, ap, ◌∙◌}
use mathlib.Core.Bool.{Bool, true, false, ◌&&◌, not, cond, false≢true}
use native.Mathlib.Omega.{arith}
use native.Mathlib.Decide.{dec_lt}
use borrow.Author.Tests.{lt-ltb, lt-leb}
use lib.ListN.{get_or, set, length-take, get_or-eq_default}
use lib.Seq.{get_or-take, set-get_or}
use Rattle.activities.specs.Activity.{by_client}
use Rattle.activities.specs.Side.{empty_side, side_taken, full}
use Rattle.activities.specs.Complete.{complete}
use Rattle.activities.specs.Store.{fresh, holds, place_of, exchange_of, written}
use Rattle.activities.specs.Receive.{side_of, exchange_taken, no_room, ack_of, completes, to_both}
use Rattle.activities.specs.declared.Activity.{Activity}
use Rattle.activities.specs.declared.Said.{Said}
use Rattle.activities.specs.declared.Said.TheVariants.{Negotiation, Invocation, Result, Finished, Additional}
use Rattle.activities.specs.declared.Message.{Message}
use Rattle.activities.specs.declared.Side.{Side}
use Rattle.activities.specs.declared.Exchange.{Exchange}
use Rattle.activities.specs.declared.Store.{Store}
use Rattle.completes.specs.Promises.{Sized, second, RepeatsChangeNothing}
use Rattle.completes.proofs.Steps.{Takes, takes}

pub row_stays : (x : Side) (m : Said) → second x m ≡ true → side_taken x m ≡ x
unfolding side_taken
row_stays x (Negotiation list accepted extra) e = rw e
row_stays x (Invocation extra word) e = rw e
row_stays x (Result extra word) e = rw e
row_stays x (Finished count) e = rw e
row_stays x (Additional extra) e = absurd (false≢true e)

has_room : (x : Side) (m : Said) → second x m ≡ true → full x m ≡ false
has_room x (Negotiation list accepted extra) e = refl
has_room x (Invocation extra word) e = refl
has_room x (Result extra word) e = refl
has_room x (Finished count) e = refl
has_room x (Additional extra) e = absurd (false≢true e)

none_second : (m : Said) → second empty_side m ≡ false
none_second (Negotiation list accepted extra) = refl
none_second (Invocation extra word) = refl
none_second (Result extra word) = refl
none_second (Finished count) = refl
none_second (Additional extra) = refl

rows_stay : (e : Exchange) (m : Message) → second (side_of e m) m.said ≡ true → exchange_taken e m ≡ e
unfolding exchange_taken
rows_stay e m h = go (by_client m) h
  where
    go : (t : Bool) → second (cond t e.client e.service) m.said ≡ true
        → ◌≡◌ {A = Exchange} (record { activity = e.activity; client = cond t (side_taken e.client m.said) e.client; service = cond t e.service (side_taken e.service m.said) }) e
    go true q = rw (row_stays e.client m.said q)
    go false q = rw (row_stays e.service m.said q)

-- an activity with a message in a row is held
held : (s : Store) (m : Message) → Sized s → second (side_of (exchange_of s m.activity) m) m.said ≡ true → place_of s m.activity < min s.used 16
unfolding exchange_of
held s m long h = elim (dec_lt (place_of s m.activity) (min s.used 16)) [ yes b ↦ b | no b ↦ absurd (false≢true (sym (none (by_client m)) ∙ (ap (λ (e : Exchange). second (side_of e m) m.said) (sym (past (omega arith))) ∙ h))) ]
  where
    none : (t : Bool) → second (cond t empty_side empty_side) m.said ≡ false
    none true = none_second m.said
    none false = none_second m.said

    past : min s.used 16 ≤ place_of s m.activity → get_or (holds s) (place_of s m.activity) (fresh m.activity) ≡ fresh m.activity
    past b = get_or-eq_default (holds s) (fresh m.activity) (omega (arith, long, length-take (min s.used 16) s.exchanges))

store_stays : (s : Store) (a : Activity) → place_of s a < min s.used 16 → written s (place_of s a) (exchange_of s a) ≡ s
unfolding written exchange_of
store_stays s a h =
    let p = place_of s a in
    let there : set s.exchanges p (get_or (holds s) p (fresh a)) ≡ s.exchanges = rw (get_or-take (min s.used 16) s.exchanges p (fresh a) h) (set-get_or s.exchanges p (fresh a)) in
    let count : cond (lib.Dec.ltb p s.used) s.used (Prim.Native.Nat.◌+◌ p 1) ≡ s.used = rw (lt-ltb p s.used (omega arith)) refl in
    λ i. record { used = count i; exchanges = there i }

and_not : (t : Bool) → (t && not t) ≡ false
and_not true = refl
and_not false = refl

pub repeats_change_nothing : RepeatsChangeNothing
unfolding completes no_room
repeats_change_nothing s long m n h =
    let e = exchange_of s m.activity in
    let p = place_of s m.activity in
    let inside = held s m long h in
    let there = rows_stay e m h in
    let h_taken : Takes s m = takes s m n (rw (lt-leb 16 p (omega arith)) (has_room (side_of e m) m.said h)) in
    let store : written s p (exchange_taken e m) ≡ s = ap (written s p) there ∙ store_stays s m.activity inside in
    let now : (complete (exchange_taken e m) && not (complete e)) ≡ false = ap (λ (x : Exchange). complete x && not (complete e)) there ∙ and_not (complete e) in
    h_taken.answer ∙ λ i. record { store = store i; answer = 0; ack = ack_of m.said; finished = to_both (now i) }
