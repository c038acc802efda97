-- The two loops over the messages: what is left from here is what is left from the start. Assumes nothing.
use Prim.Native.Nat.{ℕ, suc, ◌+◌, ◌-◌, ◌≤◌, ◌<◌}
use mathlib.Core.Path.{◌≡◌, refl, sym, ap, ◌∙◌}
use mathlib.Core.Bool.{Bool, true, false, ◌&&◌, not, false≢true}
use mathlib.Core.List.{List}
use Rattle.std.specs.Prelude.{Option, Some, None, IfSome}
use Rattle.std.specs.Option.{unwrap_or}
use native.Mathlib.Omega.{arith}
use borrow.Author.Tests.{le-leb, lt-leb, ne_eqb, leb-true}
use lib.Dec.{leb, eqb}
use lib.ListN.{length}
use Rattle.activities.specs.Form.{next_at, message_at, messages_to, well_formed, count_of, messages_from}
use Rattle.activities.specs.Receive.{receive}
use Rattle.activities.specs.Run.{after}
use Rattle.activities.specs.Store.{empty_store}
use Rattle.activities.specs.declared.Message.{Message}
use Rattle.activities.specs.Outcome.{Outcome, told_received}
use Rattle.activities.specs.declared.Received.{Received}
use Rattle.activities.specs.declared.Store.{Store}

-- the form is tested up to a place
pub record Tested (s : List ℕ) (count at i : ℕ) : Type 0 where
  pub low : at ≤ length s
  pub rest : messages_to s (count - i) at ≡ messages_to s count 2

pub tested_start : (s : List ℕ) (count : ℕ) → 2 ≤ length s → Tested s count 2 0
tested_start s count h = let all : count - 0 ≡ count = omega arith in record { low = h; rest = ap (λ (n : ℕ). messages_to s n 2) all }

module _ {s : List ℕ} {count at i : ℕ} (h : Tested s count at i) where
  one_left : i < count → count - i ≡ suc (count - (i + 1))
  one_left b = omega arith

  first_left : i < count → (not (eqb (next_at s at) 0) && messages_to s (count - (i + 1)) (next_at s at)) ≡ messages_to s count 2
  unfolding messages_to
  first_left b = sym (ap (λ (n : ℕ). messages_to s n at) (one_left b)) ∙ h.rest

  pub tested_more : (next : ℕ) → i < count → next ≡ next_at s at → (0 < next) × (next ≤ length s) → Tested s count next (i + 1)
  tested_more next b e (n, low) = record { low = low; rest = rw (← e, ne_eqb next 0 (λ z. omega arith)) at (first_left b) }

  pub tested_stop : i < count → 0 ≡ next_at s at → false ≡ messages_to s count 2
  tested_stop b e = rw (← e) at (first_left b)

  pub tested_end : count ≤ i → eqb at (length s) ≡ messages_to s count 2
  unfolding messages_to
  tested_end b = let none : count - i ≡ 0 = omega arith in sym (ap (λ (n : ℕ). messages_to s n at) none) ∙ h.rest

pub too_short : (s : List ℕ) → length s < 2 → false ≡ well_formed s
unfolding well_formed
too_short s h = rw (lt-leb 2 (length s) h)

pub by_form : (s : List ℕ) (t : Bool) → 2 ≤ length s → t ≡ messages_to s (count_of s) 2 → t ≡ well_formed s
unfolding well_formed
by_form s t h e = rw (le-leb 2 (length s) h) e

-- what is well formed has its count
pub long_enough : (s : List ℕ) → well_formed s ≡ true → 2 ≤ length s
unfolding well_formed
long_enough s h = go (leb 2 (length s)) refl h
  where
    go : (t : Bool) → leb 2 (length s) ≡ t → (t && messages_to s (count_of s) 2) ≡ true → 2 ≤ length s
    go true e q = leb-true 2 (length s) e
    go false e q = absurd (false≢true q)

-- the messages up to a place are received
pub record Ran (s : List ℕ) (count : ℕ) (store : Store) (at i : ℕ) : Type 0 where
  pub low : at ≤ length s
  pub rest : after store (messages_from s (count - i) at) ≡ after empty_store (messages_from s count 2)

pub ran_start : (s : List ℕ) (count : ℕ) (store : Store) → 2 ≤ length s → store ≡ empty_store → Ran s count store 2 0
ran_start s count store h e =
    let all : count - 0 ≡ count = omega arith in
    record { low = h; rest = ap (λ (n : ℕ). after store (messages_from s n 2)) all ∙ ap (λ (t : Store). after t (messages_from s count 2)) e }

pub ran_more : {s : List ℕ} {count : ℕ} {store : Store} {at i : ℕ} → Ran s count store at i → (m : Message) (r : Received) (next : Option ℕ) → i < count → m ≡ message_at s at → told_received r ≡ receive store m → unwrap_or next 0 ≡ next_at s at → IfSome next (λ n. (0 < n) × (n ≤ length s)) → Ran s count r.store (unwrap_or next 0) (i + 1)
unfolding after messages_from
ran_more {s} {count} {store} {at} {i} h m r next b em er en low =
    let one : count - i ≡ suc (count - (i + 1)) = omega arith in
    let rest = λ (n : ℕ). messages_from s (count - (i + 1)) n in
    record {
      low = within next low;
      rest =
          ap (λ (n : ℕ). after r.store (rest n)) en
          ∙ (ap (λ (q : Store). after q (rest (next_at s at))) (ap (λ (q : Outcome). q.store) (er ∙ ap (receive store) em))
          ∙ (sym (ap (λ (n : ℕ). after store (messages_from s n at)) one) ∙ h.rest));
    }
  where
    within : (o : Option ℕ) → IfSome o (λ n. (0 < n) × (n ≤ length s)) → unwrap_or o 0 ≤ length s
    within (Some n) (p, q) = q
    within None t = omega arith

pub ran_end : {s : List ℕ} {count : ℕ} {store : Store} {at i : ℕ} → Ran s count store at i → count ≤ i → store ≡ after empty_store (messages_from s count 2)
unfolding after messages_from
ran_end {s} {count} {store} {at} {i} h b = let none : count - i ≡ 0 = omega arith in sym (ap (λ (n : ℕ). after store (messages_from s n at)) none) ∙ h.rest
