-- Once complete, an activity stays complete or has more additional messages than one side announced, for ever: it can't become complete
-- again. Assumes nothing.
use Prim.Native.Nat.{◌+◌, ◌≤◌, ◌<◌}
use mathlib.Core.Path.{◌≡◌, refl, sym, ap, subst, ◌∙◌}
use mathlib.Core.Logic.{◌⊎◌, inl, inr, ⊎_elim}
use mathlib.Core.Bool.{Bool, true, false, ◌&&◌, not, cond, true≢false}
use mathlib.Core.List.{List, [], ◌∷◌}
use native.Mathlib.Omega.{arith}
use native.Mathlib.Decide.{dec_lt}
use borrow.Author.Tests.{eqb-true, eq-eqb, ne_eqb}
use Rattle.activities.specs.Activity.{same, by_client}
use Rattle.activities.specs.Side.{side_taken, additions}
use Rattle.activities.specs.Complete.{complete_side, complete}
use Rattle.activities.specs.Store.{exchange_of}
use Rattle.activities.specs.Receive.{exchange_taken, completes, to_both, receive}
use Rattle.activities.specs.declared.Activity.{Activity}
use Rattle.activities.specs.declared.Said.{Said}
use Rattle.activities.specs.declared.Said.TheVariants.{Negotiation, Invocation, Result, Finished, Additional}
use Rattle.activities.specs.declared.Message.{Message}
use Rattle.activities.specs.declared.Side.{Side}
use Rattle.activities.specs.declared.Exchange.{Exchange}
use Rattle.activities.specs.declared.Store.{Store}
use Rattle.activities.specs.declared.Finishing.{Finishing}
use Rattle.activities.specs.Outcome.{Outcome}
use Rattle.completes.specs.Promises.{Sized, finishings, AtMostOnce}
use Rattle.completes.proofs.Lists.{and_left, and_right, and_false}
use Rattle.completes.proofs.Look.{same_equal}
use Rattle.completes.proofs.Repeats.{row_stays}
use Rattle.completes.proofs.Steps.{Takes, Refuses, outcome, taken_own, refused_store, others_stay, sized_receive}

-- a side has sent more than it announced
record Past (x : Side) : Type 0 where
  announced : x.finished.held ≡ true
  more : x.finished.count < 4 + additions x.additional

past_stays : (x : Side) (m : Said) → Past x → Past (side_taken x m)
unfolding side_taken
past_stays x (Negotiation list accepted extra) h = record { announced = h.announced; more = h.more }
past_stays x (Invocation extra word) h = record { announced = h.announced; more = h.more }
past_stays x (Result extra word) h = record { announced = h.announced; more = h.more }
past_stays x (Finished count) h = subst Past (sym (row_stays x (Finished count) h.announced)) h
past_stays x (Additional extra) h = record { announced = h.announced; more = omega (arith, h.more) }

past_not : (x : Side) → Past x → complete_side x ≡ false
unfolding complete_side
past_not x h = ap (λ (t : Bool). x.negotiation.held && x.invocation.held && x.result.held && x.finished.held && t) (ne_eqb x.finished.count (4 + additions x.additional) (omega (arith, h.more))) ∙ and_false (x.negotiation.held && x.invocation.held && x.result.held && x.finished.held)

-- the facts of a complete row
record Whole (x : Side) : Type 0 where
  negotiation : x.negotiation.held ≡ true
  invocation : x.invocation.held ≡ true
  result : x.result.held ≡ true
  finished : x.finished.held ≡ true
  count : x.finished.count ≡ 4 + additions x.additional

whole : (x : Side) → complete_side x ≡ true → Whole x
unfolding complete_side
whole x e =
    let n = x.negotiation.held in
    let i = x.invocation.held in
    let r = x.result.held in
    let f = x.finished.held in
    let e4 = and_left (n && i && r && f) _ e in
    let e3 = and_left (n && i && r) _ e4 in
    let e2 = and_left (n && i) _ e3 in
    record { negotiation = and_left n _ e2; invocation = and_right n _ e2; result = and_right (n && i) _ e3; finished = and_right (n && i && r) _ e4; count = eqb-true _ _ (and_right (n && i && r && f) _ e) }

whole_complete : (x : Side) → Whole x → complete_side x ≡ true
unfolding complete_side
whole_complete x w = rw (w.negotiation, w.invocation, w.result, w.finished) (eq-eqb x.finished.count (4 + additions x.additional) w.count)

-- a complete row stays so, or is past
complete_stays : (x : Side) (m : Said) → complete_side x ≡ true → (complete_side (side_taken x m) ≡ true) ⊎ Past (side_taken x m)
unfolding side_taken
complete_stays x (Negotiation list accepted extra) e = inl (ap complete_side (row_stays x (Negotiation list accepted extra) (whole x e).negotiation) ∙ e)
complete_stays x (Invocation extra word) e = inl (ap complete_side (row_stays x (Invocation extra word) (whole x e).invocation) ∙ e)
complete_stays x (Result extra word) e = inl (ap complete_side (row_stays x (Result extra word) (whole x e).result) ∙ e)
complete_stays x (Finished count) e = inl (ap complete_side (row_stays x (Finished count) (whole x e).finished) ∙ e)
complete_stays x (Additional extra) e =
    let w = whole x e in
    elim (dec_lt x.additional.count 8) [
      | yes h ↦ inr (record { announced = w.finished; more = omega (arith, w.count) })
      | no h ↦ inl (whole_complete (side_taken x (Additional extra)) (record { negotiation = w.negotiation; invocation = w.invocation; result = w.result; finished = w.finished; count = omega (arith, w.count) }))
    ]

-- complete, or past on one side
data Done (e : Exchange) : Type 0 where
  whole_now : complete e ≡ true → Done e
  client_past : Past e.client → Done e
  service_past : Past e.service → Done e

both_rows : (e : Exchange) → complete e ≡ true → (complete_side e.client ≡ true) × (complete_side e.service ≡ true)
unfolding complete
both_rows e w = (and_left (complete_side e.client) (complete_side e.service) w, and_right (complete_side e.client) (complete_side e.service) w)

rows_both : (e : Exchange) → complete_side e.client ≡ true → complete_side e.service ≡ true → complete e ≡ true
unfolding complete
rows_both e p q = rw (p, q) refl

-- both rows with what one side says
abbrev after_one : Bool → Exchange → Said → Exchange
after_one t e m = record { activity = e.activity; client = cond t (side_taken e.client m) e.client; service = cond t e.service (side_taken e.service m) }

done_one : (t : Bool) (e : Exchange) (m : Said) → Done e → Done (after_one t e m)
done_one true e m (whole_now w) = ⊎_elim (λ c. whole_now (rows_both (after_one true e m) c (both_rows e w).1)) (λ p. client_past p) (complete_stays e.client m (both_rows e w).0)
done_one false e m (whole_now w) = ⊎_elim (λ c. whole_now (rows_both (after_one false e m) (both_rows e w).0 c)) (λ p. service_past p) (complete_stays e.service m (both_rows e w).1)
done_one true e m (client_past p) = client_past (past_stays e.client m p)
done_one false e m (client_past p) = client_past p
done_one true e m (service_past p) = service_past p
done_one false e m (service_past p) = service_past (past_stays e.service m p)

done_stays : (e : Exchange) (m : Message) → Done e → Done (exchange_taken e m)
unfolding exchange_taken
done_stays e m d = done_one (by_client m) e m.said d

-- what is past is not complete
client_not : (e : Exchange) → Past e.client → complete e ≡ false
unfolding complete
client_not e p = ap (λ (t : Bool). t && complete_side e.service) (past_not e.client p)

service_not : (e : Exchange) → Past e.service → complete e ≡ false
unfolding complete
service_not e p = ap (λ (t : Bool). complete_side e.client && t) (past_not e.service p) ∙ and_false (complete_side e.client)

-- so it isn't completed again
past_again : (e : Exchange) (m : Message) → Done e → (complete e ≡ true) ⊎ (complete (exchange_taken e m) ≡ false)
unfolding exchange_taken
past_again e m d = go (by_client m) d
  where
    go : (t : Bool) → Done e → (complete e ≡ true) ⊎ (complete (after_one t e m.said) ≡ false)
    go t (whole_now w) = inl w
    go true (client_past p) = inr (client_not (after_one true e m.said) (past_stays e.client m.said p))
    go false (client_past p) = inr (client_not (after_one false e m.said) p)
    go true (service_past p) = inr (service_not (after_one true e m.said) p)
    go false (service_past p) = inr (service_not (after_one false e m.said) (past_stays e.service m.said p))

not_again : (e : Exchange) (m : Message) → Done e → completes e m ≡ false
unfolding completes
not_again e m d =
    ⊎_elim
    (λ w. ap (λ (t : Bool). complete (exchange_taken e m) && not t) w ∙ and_false (complete (exchange_taken e m)))
    (λ f. ap (λ (t : Bool). t && not (complete e)) f)
    (past_again e m d)

now_done : (e : Exchange) (m : Message) → completes e m ≡ true → Done (exchange_taken e m)
unfolding completes
now_done e m w = whole_now (and_left (complete (exchange_taken e m)) (not (complete e)) w)

-- what a message does to an activity, and whether it sends the finished acknowledgements of it
record Turn (a : Activity) (s : Store) (m : Message) (now : Bool) : Type 0 where
  kept : Done (exchange_of s a) → Done (exchange_of (receive s m).store a)
  again : Done (exchange_of s a) → now ≡ false
  done : now ≡ true → Done (exchange_of (receive s m).store a)

-- a side's share of the acknowledgements: it is told what both are
module _ (side : Finishing → Bool) (told : (t : Bool) → side (to_both t) ≡ t) where
  own_turn : (s : Store) (m : Message) → Sized s → Turn m.activity s m (side (receive s m).finished)
  own_turn s m long = ⊎_elim takes refuses (outcome s m)
    where
      takes : Takes s m → Turn m.activity s m (side (receive s m).finished)
      takes h =
          let e = exchange_of s m.activity in
          let own = taken_own long h in
          let now : side (receive s m).finished ≡ completes e m = ap (λ (r : Outcome). side r.finished) h.answer ∙ told (completes e m) in
          record {
            kept = λ d. subst Done (sym own) (done_stays e m d);
            again = λ d. now ∙ not_again e m d;
            done = λ t. subst Done (sym own) (now_done e m (sym now ∙ t));
          }

      refuses : Refuses s m → Turn m.activity s m (side (receive s m).finished)
      refuses h =
          let none : side (receive s m).finished ≡ false = ap (λ (r : Outcome). side r.finished) h.answer ∙ told false in
          record {
            kept = λ d. subst (λ (t : Store). Done (exchange_of t m.activity)) (sym (refused_store h)) d;
            again = λ d. none;
            done = λ t. absurd (true≢false (sym t ∙ none));
          }

  turn : (a : Activity) (s : Store) (m : Message) → Sized s → Turn a s m (same m.activity a && side (receive s m).finished)
  turn a s m long = go (same m.activity a) refl
    where
      go : (t : Bool) → same m.activity a ≡ t → Turn a s m (t && side (receive s m).finished)
      go true e = subst (λ (b : Activity). Turn b s m (side (receive s m).finished)) (same_equal m.activity a e) (own_turn s m long)
      go false e =
          record {
            kept = λ d. subst Done (sym (others_stay s long m a e)) d;
            again = λ d. refl;
            done = λ t. absurd (true≢false (sym t));
          }

  none_more : (a : Activity) (s : Store) (l : List Message) → Sized s → Done (exchange_of s a) → finishings side a s l ≡ 0
  unfolding finishings
  none_more a s [] long d = refl
  none_more a s (m ∷ l) long d =
      let t = turn a s m long in
      rw (t.again d) (omega (arith, none_more a (receive s m).store l (sized_receive s m long) (t.kept d)))

  pub once : (a : Activity) (s : Store) (l : List Message) → Sized s → finishings side a s l ≤ 1
  unfolding finishings
  once a s [] long = omega arith
  once a s (m ∷ l) long = go (same m.activity a && side (receive s m).finished) refl (once a (receive s m).store l (sized_receive s m long))
    where
      go : (t : Bool) → (same m.activity a && side (receive s m).finished) ≡ t → finishings side a (receive s m).store l ≤ 1 → cond t 1 0 + finishings side a (receive s m).store l ≤ 1
      go true e h = omega (arith, none_more a (receive s m).store l (sized_receive s m long) ((turn a s m long).done e))
      go false e h = omega arith

pub at_most_once : AtMostOnce
at_most_once s long a l = (once (λ f. f.client) (λ t. refl) a s l long, once (λ f. f.service) (λ t. refl) a s l long)
