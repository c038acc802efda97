-- The rows of an activity after a run are what its client and its service said, one after another: other activities' messages don't
-- show. Assumes nothing.
use Prim.Native.Nat.{◌≤◌}
use mathlib.Core.Path.{◌≡◌, refl, sym, ap, subst, ◌∙◌}
use mathlib.Core.Bool.{Bool, true, false, ◌&&◌, not, cond, true≢false}
use mathlib.Core.List.{List, [], ◌∷◌}
use native.Mathlib.Omega.{arith}
use borrow.Author.Tests.{leb-false}
use lib.Dec.{eqb}
use Rattle.activities.specs.Activity.{same, by_client, by_service, neither}
use Rattle.activities.specs.Side.{side_taken, full}
use Rattle.activities.specs.Store.{exchange_of}
use Rattle.activities.specs.Receive.{side_of, exchange_taken, receive}
use Rattle.activities.specs.Run.{after}
use Rattle.activities.specs.declared.Activity.{Activity}
use Rattle.activities.specs.declared.Said.{Said}
use Rattle.activities.specs.declared.Said.TheVariants.{Negotiation, Invocation, Result, Finished, Additional}
use Rattle.activities.specs.declared.Message.{Message}
use Rattle.activities.specs.declared.Side.{Side}
use Rattle.activities.specs.declared.Exchange.{Exchange}
use Rattle.activities.specs.declared.Store.{Store}
use Rattle.completes.specs.Order.{gather}
use Rattle.completes.specs.Sends.{said_one, said_by, NoneRefused}
use Rattle.completes.specs.Promises.{Sized}
use Rattle.completes.proofs.Look.{same_equal, same_itself}
use Rattle.completes.proofs.Slots.{side_after, after_append}
use Rattle.completes.proofs.Steps.{Takes, takes_zero, taken_own, others_stay, sized_receive}

-- the premise, message by message
unfoldable pub Taken : Activity → Store → List Message → Type 0
Taken a s [] = Unit {0}
Taken a s (m ∷ l) = (same m.activity a ≡ true → (receive s m).answer ≡ 0) × Taken a (receive s m).store l

pub each_taken : (a : Activity) (s : Store) (l : List Message) → NoneRefused a s l → Taken a s l
unfolding Taken after
each_taken a s [] h = tt
each_taken a s (m ∷ l) h =
    (h [] m l refl, each_taken a (receive s m).store l (λ before n rest e. h (m ∷ before) n rest (ap (λ (k : List Message). m ∷ k) e)))

-- a sender is the client, or it is the service
pub known : (m : Message) → neither m ≡ false → by_client m ≡ false → by_service m ≡ true
known m n c = go (by_client m) (by_service m) n c
  where
    go : (t u : Bool) → (not t && not u) ≡ false → t ≡ false → u ≡ true
    go true u n c = absurd (true≢false c)
    go false true n c = refl
    go false false n c = absurd (true≢false n)

-- what goes into the service's row: what is said by a sender that isn't the client
abbrev pub served_one : Activity → Message → List Said
served_one a m = cond (same m.activity a && not (eqb m.sender a.client)) (m.said ∷ []) []

abbrev pub served_by : Activity → List Message → List Said
served_by a l = gather (served_one a) l

-- both rows with one message, as what its sender said
module _ (e : Exchange) (m : Message) where
  client_one : (exchange_taken e m).client ≡ side_after e.client (said_one m.activity.client m.activity m)
  unfolding exchange_taken side_after
  client_one = rw (same_itself m.activity) (go (by_client m))
    where
      go : (t : Bool) → cond t (side_taken e.client m.said) e.client ≡ side_after e.client (cond t (m.said ∷ []) [])
      go true = refl
      go false = refl

  service_one : (exchange_taken e m).service ≡ side_after e.service (served_one m.activity m)
  unfolding exchange_taken side_after
  service_one = rw (same_itself m.activity) (go (by_client m))
    where
      go : (t : Bool) → cond t e.service (side_taken e.service m.said) ≡ side_after e.service (cond (not t) (m.said ∷ []) [])
      go true = refl
      go false = refl

-- no more than eight additional messages
pub record Room (e : Exchange) : Type 0 where
  pub client : e.client.additional.count ≤ 8
  pub service : e.service.additional.count ≤ 8

side_room : (x : Side) (m : Said) → full x m ≡ false → x.additional.count ≤ 8 → (side_taken x m).additional.count ≤ 8
unfolding side_taken
side_room x (Negotiation list accepted extra) f h = h
side_room x (Invocation extra word) f h = h
side_room x (Result extra word) f h = h
side_room x (Finished count) f h = h
side_room x (Additional extra) f h = omega (arith, leb-false 8 x.additional.count f)

taken_room : (e : Exchange) (m : Message) → full (side_of e m) m.said ≡ false → Room e → Room (exchange_taken e m)
unfolding exchange_taken
taken_room e m f h = go (by_client m) f
  where
    go : (t : Bool) → full (cond t e.client e.service) m.said ≡ false
        → Room (record { activity = e.activity; client = cond t (side_taken e.client m.said) e.client; service = cond t e.service (side_taken e.service m.said) })
    go true r = record { client = side_room e.client m.said r h.client; service = h.service }
    go false r = record { client = h.client; service = side_room e.service m.said r h.service }

-- after a run: what each side said, and room
pub record Rows (a : Activity) (s : Store) (l : List Message) : Type 0 where
  pub client : (exchange_of (after s l) a).client ≡ side_after (exchange_of s a).client (said_by a.client a l)
  pub service : (exchange_of (after s l) a).service ≡ side_after (exchange_of s a).service (served_by a l)
  pub room : Room (exchange_of s a) → Room (exchange_of (after s l) a)

-- .. and after one message
record Row (a : Activity) (s : Store) (m : Message) : Type 0 where
  client : (exchange_of (receive s m).store a).client ≡ side_after (exchange_of s a).client (said_one a.client a m)
  service : (exchange_of (receive s m).store a).service ≡ side_after (exchange_of s a).service (served_one a m)
  room : Room (exchange_of s a) → Room (exchange_of (receive s m).store a)

own_row : (s : Store) (m : Message) → Sized s → Takes s m → Row m.activity s m
own_row s m long h =
    let own = taken_own long h in
    let e = exchange_of s m.activity in
    record {
      client = ap (λ (x : Exchange). x.client) own ∙ client_one e m;
      service = ap (λ (x : Exchange). x.service) own ∙ service_one e m;
      room = λ r. subst Room (sym own) (taken_room e m h.room r);
    }

other_row : (a : Activity) (s : Store) (m : Message) → Sized s → same m.activity a ≡ false → Row a s m
unfolding side_after
other_row a s m long d =
    let stays = others_stay s long m a d in
    record {
      client = rw d (ap (λ (x : Exchange). x.client) stays);
      service = rw d (ap (λ (x : Exchange). x.service) stays);
      room = λ r. subst Room (sym stays) r;
    }

row : (a : Activity) (s : Store) (m : Message) → Sized s → (same m.activity a ≡ true → (receive s m).answer ≡ 0) → Row a s m
row a s m long h = go (same m.activity a) refl
  where
    go : (t : Bool) → same m.activity a ≡ t → Row a s m
    go true e = subst (λ (b : Activity). Row b s m) (same_equal m.activity a e) (own_row s m long (takes_zero s m (h e)))
    go false e = other_row a s m long e

pub rows : (a : Activity) (s : Store) (l : List Message) → Sized s → Taken a s l → Rows a s l
unfolding after Taken gather side_after
rows a s [] long h = record { client = refl; service = refl; room = λ r. r }
rows a s (m ∷ l) long h =
    let one = row a s m long h.0 in
    let rest = rows a (receive s m).store l (sized_receive s m long) h.1 in
    record {
      client = rest.client ∙ (ap (λ (x : Side). side_after x (said_by a.client a l)) one.client ∙ sym (after_append (exchange_of s a).client (said_one a.client a m) (said_by a.client a l)));
      service = rest.service ∙ (ap (λ (x : Side). side_after x (served_by a l)) one.service ∙ sym (after_append (exchange_of s a).service (served_one a m) (served_by a l)));
      room = λ r. rest.room (one.room r);
    }
