-- An activity whose two sides send all is complete exactly if none of its messages is left, and both are told so at its last one.
-- Assumes nothing.
use Prim.Native.Nat.{◌≤◌}
use mathlib.Core.Path.{◌≡◌, refl, sym, ap, subst, ◌∙◌}
use mathlib.Core.Logic.{◌≢◌}
use mathlib.Core.Bool.{Bool, true, false, ◌&&◌, not, cond, false≢true}
use mathlib.Core.List.{List, [], ◌∷◌, ◌++◌, append_assoc}
use native.Mathlib.Omega.{arith}
use borrow.Author.Tests.{eqb-true}
use lib.Dec.{eqb}
use lib.ListN.{length}
use Rattle.activities.specs.Activity.{same, neither}
use Rattle.activities.specs.Side.{empty_side}
use Rattle.activities.specs.Complete.{complete_side, complete}
use Rattle.activities.specs.Store.{fresh, empty_store, exchange_of}
use Rattle.activities.specs.Receive.{exchange_taken, completes, to_both, receive}
use Rattle.activities.specs.Run.{after}
use Rattle.activities.specs.declared.Activity.{Activity}
use Rattle.activities.specs.declared.Said.{Said}
use Rattle.activities.specs.declared.Message.{Message}
use Rattle.activities.specs.declared.Side.{Side}
use Rattle.activities.specs.declared.Exchange.{Exchange}
use Rattle.activities.specs.declared.Store.{Store}
use Rattle.activities.specs.Outcome.{Outcome}
use Rattle.completes.specs.Order.{gather, nothing}
use Rattle.completes.specs.Sends.{messages_of, said_one, said_by, extras, SendsAll, NoneRefused, Sends}
use Rattle.completes.specs.Promises.{Sized, CompletesAtLast}
use Rattle.completes.proofs.Lists.{and_true, and_false, Each, gather_append}
use Rattle.completes.proofs.Look.{look, exchange_look, same_equal}
use Rattle.completes.proofs.Slots.{side_after, count_after}
use Rattle.completes.proofs.Steps.{takes_zero, taken_own, sized_receive}
use Rattle.completes.proofs.Rows.{served_by, Rows, Room, each_taken, rows, known}
use Rattle.completes.proofs.Counting.{complete_row}

-- an activity that no message named has empty rows
pub empty_rows : (a : Activity) → exchange_of empty_store a ≡ fresh a
unfolding look
empty_rows a = exchange_look empty_store a

-- a message of the activity is its client's or its service's
Known : Activity → List Message → Type 0
Known a l = Each (λ m. same m.activity a ≡ true → neither m ≡ false) l

known_rest : (a : Activity) (s : Store) (before rest : List Message) → NoneRefused a s (before ++ rest) → Known a rest
unfolding Known
known_rest a s before [] h = tt
known_rest a s before (m ∷ rest) h =
    (λ e. (takes_zero (after s before) m (h before m rest refl e)).known, known_rest a s (before ++ (m ∷ [])) rest (subst (NoneRefused a s) (sym (append_assoc before (m ∷ []) rest)) h))

-- no message is left if neither side has one left
left : (a : Activity) (l : List Message) → Known a l → nothing (messages_of a l) ≡ (nothing (said_by a.client a l) && nothing (said_by a.service a l))
unfolding Known gather
left a [] h = refl
left a (m ∷ l) h = go (same m.activity a) refl (left a l h.1)
  where
    go : (t : Bool) → same m.activity a ≡ t → nothing (messages_of a l) ≡ (nothing (said_by a.client a l) && nothing (said_by a.service a l))
        → nothing (cond t (m ∷ []) [] ++ messages_of a l)
        ≡ (nothing (cond (t && eqb m.sender a.client) (m.said ∷ []) [] ++ said_by a.client a l) && nothing (cond (t && eqb m.sender a.service) (m.said ∷ []) [] ++ said_by a.service a l))
    go false e ih = ih
    go true e ih =
        let p = same_equal m.activity a e in
        by (eqb m.sender a.client) refl (λ c. ap (λ (b : Activity). eqb m.sender b.service) (sym p) ∙ known m (h.0 e) (ap (λ (b : Activity). eqb m.sender b.client) p ∙ c))
      where
        by : (u : Bool) → eqb m.sender a.client ≡ u → (eqb m.sender a.client ≡ false → eqb m.sender a.service ≡ true)
            → false ≡ (nothing (cond u (m.said ∷ []) [] ++ said_by a.client a l) && nothing (cond (eqb m.sender a.service) (m.said ∷ []) [] ++ said_by a.service a l))
        by true c s = refl
        by false c s = rw (s c) (sym (and_false (nothing (said_by a.client a l))))

-- where client and service differ, the service's row holds what the service says
served_said : (a : Activity) (l : List Message) → a.client ≢ a.service → Known a l → served_by a l ≡ said_by a.service a l
unfolding Known gather
served_said a [] differ h = refl
served_said a (m ∷ l) differ h =
    ap (λ (k : List Said). k ++ served_by a l) (go (same m.activity a) refl (eqb m.sender a.client) refl (eqb m.sender a.service) refl)
    ∙ ap (λ (k : List Said). said_one a.service a m ++ k) (served_said a l differ h.1)
  where
    go : (t : Bool) → same m.activity a ≡ t → (u : Bool) → eqb m.sender a.client ≡ u → (v : Bool) → eqb m.sender a.service ≡ v
        → cond (t && not u) (m.said ∷ []) [] ≡ cond (t && v) (m.said ∷ []) []
    go false e u c v s = refl
    go true e true c true s = absurd (differ (sym (eqb-true _ _ c) ∙ eqb-true _ _ s))
    go true e true c false s = refl
    go true e false c true s = refl
    go true e false c false s =
        let p = same_equal m.activity a e in
        absurd (false≢true (sym s ∙ (ap (λ (b : Activity). eqb m.sender b.service) (sym p) ∙ known m (h.0 e) (ap (λ (b : Activity). eqb m.sender b.client) p ∙ c))))

-- what is cut off behind leaves the premise
cut : (a : Activity) (s : Store) (before rest : List Message) → NoneRefused a s (before ++ rest) → NoneRefused a s before
cut a s before rest h first m more e = h first m (more ++ rest) (ap (λ (k : List Message). k ++ rest) e ∙ append_assoc first (m ∷ more) rest)

-- both rows after a part of the list, from the empty store
module _ (a : Activity) (l : List Message) (taken : NoneRefused a empty_store l) where
  both : Rows a empty_store l
  both = rows a empty_store l refl (each_taken a empty_store l taken)

  pub client_said : (exchange_of (after empty_store l) a).client ≡ side_after empty_side (said_by a.client a l)
  client_said = both.client ∙ ap (λ (e : Exchange). side_after e.client (said_by a.client a l)) (empty_rows a)

  pub service_said : (exchange_of (after empty_store l) a).service ≡ side_after empty_side (served_by a l)
  service_said = both.service ∙ ap (λ (e : Exchange). side_after e.service (served_by a l)) (empty_rows a)

  room : Room (exchange_of (after empty_store l) a)
  room = both.room (subst Room (sym (empty_rows a)) (record { client = omega arith; service = omega arith }))

  pub client_few : length (gather extras (said_by a.client a l)) ≤ 8
  client_few = omega (arith, room.client, ap (λ (x : Side). x.additional.count) client_said, count_after empty_side (said_by a.client a l))

  pub service_few : length (gather extras (served_by a l)) ≤ 8
  service_few = omega (arith, room.service, ap (λ (x : Side). x.additional.count) service_said, count_after empty_side (served_by a l))

module _ (a : Activity) (l : List Message) (differ : a.client ≢ a.service) (taken : NoneRefused a empty_store l) where
  served : served_by a l ≡ said_by a.service a l
  served = served_said a l differ (known_rest a empty_store [] l taken)

  pub client_row : (exchange_of (after empty_store l) a).client ≡ side_after empty_side (said_by a.client a l)
  client_row = client_said a l taken

  pub service_row : (exchange_of (after empty_store l) a).service ≡ side_after empty_side (said_by a.service a l)
  service_row = service_said a l taken ∙ ap (side_after empty_side) served

  pub client_room : length (gather extras (said_by a.client a l)) ≤ 8
  client_room = client_few a l taken

  pub service_room : length (gather extras (said_by a.service a l)) ≤ 8
  service_room = omega (arith, service_few a l taken, ap (λ (k : List Said). length (gather extras k)) served)

-- the premises
pub record Given (a : Activity) (l : List Message) : Type 0 where
  pub sends : Sends a l
  pub taken : NoneRefused a empty_store l

module _ (a : Activity) (before rest : List Message) (h : Given a (before ++ rest)) where
  complete_cut : complete (exchange_of (after empty_store before) a) ≡ nothing (messages_of a rest)
  unfolding complete
  complete_cut =
      let taken = cut a empty_store before rest h.taken in
      let client : complete_side (exchange_of (after empty_store before) a).client ≡ nothing (said_by a.client a rest) =
      ap complete_side (client_row a before h.sends.differ taken)
      ∙ complete_row (said_by a.client a before) (said_by a.client a rest) (subst SendsAll (gather_append (said_one a.client a) before rest) h.sends.client) (client_room a before h.sends.differ taken) in
      let service : complete_side (exchange_of (after empty_store before) a).service ≡ nothing (said_by a.service a rest) =
      ap complete_side (service_row a before h.sends.differ taken)
      ∙ complete_row (said_by a.service a before) (said_by a.service a rest) (subst SendsAll (gather_append (said_one a.service a) before rest) h.sends.service) (service_room a before h.sends.differ taken) in
      rw (client, service) (sym (left a rest (known_rest a empty_store before rest h.taken)))

-- one message more
after_one_holds : (s : Store) (before : List Message) (m : Message) → after s (before ++ (m ∷ [])) ≡ (receive (after s before) m).store
unfolding after
after_one_holds s [] m = refl
after_one_holds s (x ∷ before) m = after_one_holds (receive s x).store before m

sized_after : (s : Store) (l : List Message) → Sized s → Sized (after s l)
unfolding after
sized_after s [] long = long
sized_after s (m ∷ l) long = sized_after (receive s m).store l (sized_receive s m long)

finished_cut : (a : Activity) (before : List Message) (m : Message) (rest : List Message) → Given a (before ++ m ∷ rest) → same m.activity a ≡ true
    → (receive (after empty_store before) m).finished ≡ to_both (nothing (messages_of a rest))
unfolding completes gather
finished_cut a before m rest h e =
    let s = after empty_store before in
    let p = same_equal m.activity a e in
    let takes = takes_zero s m (h.taken before m rest refl e) in
    let whole : before ++ m ∷ rest ≡ (before ++ (m ∷ [])) ++ rest = sym (append_assoc before (m ∷ []) rest) in
    let own : exchange_of (receive s m).store a ≡ exchange_taken (exchange_of s a) m = subst (λ (b : Activity). exchange_of (receive s m).store b ≡ exchange_taken (exchange_of s b) m) p (taken_own (sized_after empty_store before refl) takes) in
    let now : complete (exchange_taken (exchange_of s a) m) ≡ nothing (messages_of a rest) =
    ap complete (sym own) ∙ (ap (λ (t : Store). complete (exchange_of t a)) (sym (after_one_holds empty_store before m)) ∙ complete_cut a (before ++ (m ∷ [])) rest (subst (Given a) whole h)) in
    let not_yet : complete (exchange_of s a) ≡ false = complete_cut a before (m ∷ rest) h ∙ rw e in
    ap (λ (r : Outcome). r.finished) takes.answer
    ∙ ap to_both (ap (λ (b : Activity). complete (exchange_taken (exchange_of s b) m) && not (complete (exchange_of s b))) p ∙ rw (not_yet, now) (and_true _))

pub completes_at_last : (a : Activity) (l : List Message) → Given a l → CompletesAtLast a l
completes_at_last a l h =
    record {
      complete = λ before rest e. complete_cut a before rest (subst (Given a) e h);
      finished = λ before m rest e. finished_cut a before m rest (subst (Given a) e h);
    }
