-- If nothing is refused in one order, nothing is in another: the senders, the activities and the additional messages are the same.
-- Assumes nothing.
use Prim.Native.Nat.{ℕ, ◌+◌, ◌≤◌, ◌<◌, min}
use mathlib.Core.Path.{◌≡◌, refl, sym, ap, subst, ◌∙◌}
use mathlib.Core.Bool.{Bool, true, false, ◌||◌, cond, false≢true}
use mathlib.Core.List.{List, [], ◌∷◌, ◌++◌, append_assoc, append-nil, head-eq_of_cons-eq, tail-eq_of_cons-eq, nil≢cons}
use native.Mathlib.Omega.{arith}
use borrow.Author.Tests.{lt-leb}
use lib.ListN.{length, length-take, length-append}
use Rattle.activities.specs.Activity.{same, by_client, neither}
use Rattle.activities.specs.Side.{empty_side, full}
use Rattle.activities.specs.Store.{empty_store, holds, place, place_of, exchange_of}
use Rattle.activities.specs.Receive.{side_of, exchange_taken, no_room, receive}
use Rattle.activities.specs.Run.{after}
use Rattle.activities.specs.declared.Activity.{Activity}
use Rattle.activities.specs.declared.Said.{Said}
use Rattle.activities.specs.declared.Said.TheVariants.{Negotiation, Invocation, Result, Finished, Additional}
use Rattle.activities.specs.declared.Message.{Message}
use Rattle.activities.specs.declared.Side.{Side}
use Rattle.activities.specs.declared.Exchange.{Exchange}
use Rattle.activities.specs.declared.Store.{Store}
use Rattle.activities.specs.Outcome.{Outcome}
use Rattle.completes.specs.Order.{Reordered, gather}
use Rattle.completes.specs.Sends.{said_one, extras, NothingRefused, NoneRefused}
use Rattle.completes.specs.Promises.{Sized, NoOrderRefuses}
use Rattle.completes.proofs.Lists.{gather_append, length_gather}
use Rattle.completes.proofs.Look.{same_itself, exchange_name, holds_written}
use Rattle.completes.proofs.Names.{among, among_reordered, named, of_messages, collected, among_collected, distinct_collected, no_more, names, length_names, names_put, place_found, place_last, length_named}
use Rattle.completes.proofs.Orders.{length_reordered, reordered_gather}
use Rattle.completes.proofs.Slots.{count_after}
use Rattle.completes.proofs.Steps.{takes, takes_zero, taken_answer, sized_receive}
use Rattle.completes.proofs.Rows.{served_one}
use Rattle.completes.proofs.Completes.{client_said, service_said, client_few, service_few}

-- the premise, message by message
unfoldable AllTaken : Store → List Message → Type 0
AllTaken s [] = Unit {0}
AllTaken s (m ∷ l) = ((receive s m).answer ≡ 0) × AllTaken (receive s m).store l

to_each : (s : Store) (l : List Message) → NothingRefused s l → AllTaken s l
unfolding AllTaken after
to_each s [] h = tt
to_each s (m ∷ l) h = (h [] m l refl, to_each (receive s m).store l (λ before n rest e. h (m ∷ before) n rest (ap (λ (k : List Message). m ∷ k) e)))

from_each : (s : Store) (l : List Message) → AllTaken s l → NothingRefused s l
unfolding AllTaken after
from_each s [] h [] m rest e = absurd (nil≢cons e)
from_each s [] h (x ∷ before) m rest e = absurd (nil≢cons e)
from_each s (y ∷ l) h [] m rest e = subst (λ (n : Message). (receive s n).answer ≡ 0) (head-eq_of_cons-eq e) h.0
from_each s (y ∷ l) h (x ∷ before) m rest e =
    subst (λ (n : Message). (receive (after (receive s n).store before) m).answer ≡ 0) (head-eq_of_cons-eq e)
    (from_each (receive s y).store l h.1 before m rest (tail-eq_of_cons-eq e))

one_more : (s : Store) (l : List Message) (m : Message) → AllTaken s l → (receive (after s l) m).answer ≡ 0 → AllTaken s (l ++ (m ∷ []))
unfolding AllTaken after
one_more s [] m h e = (e, tt)
one_more s (x ∷ l) m h e = (h.0, one_more (receive s x).store l m h.1 e)

-- the activities held after messages that are all taken
names_after : (s : Store) (l : List Message) → Sized s → AllTaken s l → names (holds (after s l)) ≡ collected (names (holds s)) l
unfolding AllTaken after collected exchange_taken
names_after s [] long h = refl
names_after s (m ∷ l) long h =
    let t = takes_zero s m h.0 in
    let put : names (holds (receive s m).store) ≡ named (names (holds s)) m.activity =
    ap (λ (r : Outcome). names (holds r.store)) t.answer
    ∙ (ap names (holds_written s m.activity _ long t.placed) ∙ names_put (holds s) m.activity _ (exchange_name s m.activity)) in
    names_after (receive s m).store l (sized_receive s m long) h.1 ∙ ap (λ (n : List Activity). collected n l) put

empty_collected : (l : List Message) → collected (names (holds empty_store)) l ≡ collected [] l
unfolding names
empty_collected l = refl

-- the messages of strangers
strangers : Message → List Message
strangers m = cond (neither m) (m ∷ []) []

no_strangers : (s : Store) (l : List Message) → AllTaken s l → length (gather strangers l) ≡ 0
unfolding AllTaken gather strangers
no_strangers s [] h = refl
no_strangers s (m ∷ l) h = rw (takes_zero s m h.0).known (no_strangers (receive s m).store l h.1)

-- there is room for what makes no ninth
roomy : (x : Side) (m : Said) → x.additional.count + length (extras m) ≤ 8 → full x m ≡ false
roomy x (Negotiation list accepted extra) h = refl
roomy x (Invocation extra word) h = refl
roomy x (Result extra word) h = refl
roomy x (Finished count) h = refl
roomy x (Additional extra) h = lt-leb 8 x.additional.count (omega arith)

-- the additional messages so far, this one and the rest
shares : (f : Message → List Said) (before : List Message) (m : Message) (rest : List Message) → f m ≡ m.said ∷ [] → length (gather extras (gather f (before ++ m ∷ rest))) ≡ length (gather extras (gather f before)) + length (extras m.said) + length (gather extras (gather f rest))
unfolding gather
shares f before m rest e =
    let split : gather f (before ++ m ∷ rest) ≡ gather f before ++ ((m.said ∷ []) ++ gather f rest) = gather_append f before (m ∷ rest) ∙ ap (λ (k : List Said). gather f before ++ (k ++ gather f rest)) e in
    ap (λ (k : List Said). length (gather extras k)) split
    ∙ (length_gather extras (gather f before) (m.said ∷ gather f rest) ∙ omega (arith, length-append (extras m.said) (gather extras (gather f rest))))

collected_one : (n : List Activity) (l : List Message) (m : Message) → collected n (l ++ (m ∷ [])) ≡ named (collected n l) m.activity
unfolding collected
collected_one n [] m = refl
collected_one n (x ∷ l) m = collected_one (named n x.activity) l m

or_some : (t u : Bool) → t ≡ true → (t || u) ≡ true
or_some true u e = refl
or_some false u e = absurd (false≢true e)

among_append : (a : Activity) (l k : List Activity) → among a (l ++ k) ≡ (among a l || among a k)
unfolding among
among_append a [] k = refl
among_append a (x ∷ l) k = go (same x a) (among_append a l k)
  where
    go : (t : Bool) → among a (l ++ k) ≡ (among a l || among a k) → (t || among a (l ++ k)) ≡ (t || among a l || among a k)
    go true e = refl
    go false e = e

-- the place of an activity that may be added and makes no seventeenth
placed_few : (l : List Exchange) (a : Activity) → length l ≤ 16 → length (named (names l) a) ≤ 16 → place l a < 16
placed_few l a few h = go (among a (names l)) refl
  where
    go : (t : Bool) → among a (names l) ≡ t → place l a < 16
    go true e = omega (arith, place_found l a e)
    go false e = omega (arith, place_last l a, length_named (names l) a e, length_names l)

module _ (l : List Message) (all : AllTaken empty_store l) (before : List Message) (m : Message) (rest : List Message) (r : Reordered l (before ++ m ∷ rest)) (sofar : AllTaken empty_store before) where
  known : neither m ≡ false
  unfolding gather strangers
  known = go (neither m) refl
    where
      none : length (gather strangers before) + (length (strangers m) + length (gather strangers rest)) ≡ 0
      none =
          sym (length_gather strangers before (m ∷ rest) ∙ ap (λ (n : ℕ). length (gather strangers before) + n) (length-append (strangers m) (gather strangers rest)))
          ∙ (sym (length_reordered (reordered_gather strangers r)) ∙ no_strangers empty_store l all)

      go : (t : Bool) → neither m ≡ t → neither m ≡ false
      go true e = absurd (omega (arith, none, ap (λ (t : Bool). length (cond t (m ∷ []) [])) e))
      go false e = e

  -- an activity so far, or this one, is one of the other order's
  inside : (a : Activity) → among a (collected [] (before ++ (m ∷ []))) ≡ true → among a (collected [] l) ≡ true
  unfolding among
  inside a e =
      let here : among a (of_messages (before ++ (m ∷ []))) ≡ true = sym (among_collected a [] (before ++ (m ∷ []))) ∙ e in
      let whole : among a (of_messages (before ++ m ∷ rest)) ≡ true =
      ap (λ (k : List Message). among a (of_messages k)) (sym (append_assoc before (m ∷ []) rest))
      ∙ (ap (among a) (gather_append (λ n. n.activity ∷ []) (before ++ (m ∷ [])) rest) ∙ (among_append a (of_messages (before ++ (m ∷ []))) (of_messages rest) ∙ or_some _ _ here)) in
      among_collected a [] l ∙ (among_reordered a (reordered_gather (λ n. n.activity ∷ []) r) ∙ whole)

  placed : place_of (after empty_store before) m.activity < 16
  placed =
      let s = after empty_store before in
      let t = after empty_store l in
      let here : names (holds s) ≡ collected [] before = names_after empty_store before refl sofar ∙ empty_collected before in
      let there : names (holds t) ≡ collected [] l = names_after empty_store l refl all ∙ empty_collected l in
      let few : length (collected [] l) ≤ 16 = omega (arith, ap length there, length_names (holds t), length-take (min t.used 16) t.exchanges) in
      let fewer : length (collected [] (before ++ (m ∷ []))) ≤ length (collected [] l) = no_more (collected [] (before ++ (m ∷ []))) (collected [] l) (distinct_collected [] (before ++ (m ∷ [])) tt) inside in
      let next : collected [] (before ++ (m ∷ [])) ≡ named (names (holds s)) m.activity = collected_one [] before m ∙ ap (λ (n : List Activity). named n m.activity) (sym here) in
      placed_few (holds s) m.activity (omega (arith, length-take (min s.used 16) s.exchanges)) (omega (arith, few, fewer, ap length next))

  own : (j : List Message) → AllTaken empty_store j → NoneRefused m.activity empty_store j
  own j h b n c e q = from_each empty_store j h b n c e

  client_fits : by_client m ≡ true → full (exchange_of (after empty_store before) m.activity).client m.said ≡ false
  client_fits c =
      let f = said_one m.activity.client m.activity in
      let x = (exchange_of (after empty_store before) m.activity).client in
      let count : x.additional.count ≡ length (gather extras (gather f before)) =
      ap (λ (y : Side). y.additional.count) (client_said m.activity before (own before sofar)) ∙ (count_after empty_side (gather f before) ∙ omega arith) in
      roomy x m.said
      (omega
      (arith, count, client_few m.activity l (own l all), length_reordered (reordered_gather extras (reordered_gather f r)), shares f before m rest (rw (same_itself m.activity, c) refl)))

  service_fits : by_client m ≡ false → full (exchange_of (after empty_store before) m.activity).service m.said ≡ false
  service_fits c =
      let f = served_one m.activity in
      let x = (exchange_of (after empty_store before) m.activity).service in
      let count : x.additional.count ≡ length (gather extras (gather f before)) =
      ap (λ (y : Side). y.additional.count) (service_said m.activity before (own before sofar)) ∙ (count_after empty_side (gather f before) ∙ omega arith) in
      roomy x m.said
      (omega
      (arith, count, service_few m.activity l (own l all), length_reordered (reordered_gather extras (reordered_gather f r)), shares f before m rest (rw (same_itself m.activity, c) refl)))

  fits : full (side_of (exchange_of (after empty_store before) m.activity) m) m.said ≡ false
  fits = go (by_client m) refl
    where
      go : (t : Bool) → by_client m ≡ t → full (cond t (exchange_of (after empty_store before) m.activity).client (exchange_of (after empty_store before) m.activity).service) m.said ≡ false
      go true c = client_fits c
      go false c = service_fits c

  next_taken : (receive (after empty_store before) m).answer ≡ 0
  unfolding no_room
  next_taken = taken_answer (takes (after empty_store before) m known (rw (lt-leb 16 (place_of (after empty_store before) m.activity) placed) fits))

-- message by message
onward : (l : List Message) → AllTaken empty_store l → (before rest : List Message) → Reordered l (before ++ rest) → AllTaken empty_store before → AllTaken empty_store (before ++ rest)
onward l all before [] r h = subst (AllTaken empty_store) (sym (append-nil before)) h
onward l all before (m ∷ rest) r h =
    let e = append_assoc before (m ∷ []) rest in
    subst (AllTaken empty_store) e
    (onward l all (before ++ (m ∷ [])) rest (subst (Reordered l) (sym e) r) (one_more empty_store before m h (next_taken l all before m rest r h)))

pub no_order_refuses : NoOrderRefuses
unfolding AllTaken
no_order_refuses l k h r = from_each empty_store k (onward l (to_each empty_store l h) [] k r tt)
