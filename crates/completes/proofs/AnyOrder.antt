-- The same messages in another order: each side says the same things in another order, so each place has the same one message, and the
-- additional ones are the same collection. Assumes nothing.
use Prim.Native.Nat.{ℕ, ◌+◌, ◌≤◌}
use mathlib.Core.Path.{◌≡◌, refl, sym, ap, subst, ◌∙◌}
use mathlib.Core.List.{List, [], ◌∷◌}
use native.Mathlib.Omega.{arith}
use lib.ListN.{length, take}
use Rattle.activities.specs.Side.{empty_side, extras_of, additions}
use Rattle.activities.specs.Store.{empty_store, exchange_of}
use Rattle.activities.specs.Run.{after}
use Rattle.activities.specs.declared.Said.{Said}
use Rattle.activities.specs.declared.Message.{Message}
use Rattle.activities.specs.declared.Side.{Side}
use Rattle.completes.specs.Order.{Reordered, gather}
use Rattle.completes.specs.Sends.{negotiations, invocations, results, announcement, announcements, extras, said_one, said_by, SendsAll, NothingRefused, NoneRefused, Sends}
use Rattle.completes.specs.Promises.{SameSide, SameTables, AnyOrderCompletes, OwnOrderCompletes}
use Rattle.completes.proofs.Lists.{first}
use Rattle.completes.proofs.Orders.{length_reordered, single, reordered_gather}
use Rattle.completes.proofs.Slots.{side_after, negotiation_after, invocation_after, result_after, finished_after, count_after, extras_after}
use Rattle.completes.proofs.Refusing.{no_order_refuses}
use Rattle.completes.proofs.Completes.{client_row, service_row, client_room, service_room, completes_at_last}

-- a list with one element is the same in any order
one_same : {T : Type 0} (l : List T) {k : List T} → Reordered l k → length l ≡ 1 → l ≡ k
one_same [] r e = absurd (omega arith)
one_same (x ∷ []) r e = sym (single r x refl)
one_same (x ∷ y ∷ l) r e = absurd (omega arith)

module _ {l k : List Said} (r : Reordered l k) (all : SendsAll l) where
  pub sends_all : SendsAll k
  sends_all =
      record {
        negotiation = sym (length_reordered (reordered_gather negotiations r)) ∙ all.negotiation;
        invocation = sym (length_reordered (reordered_gather invocations r)) ∙ all.invocation;
        result = sym (length_reordered (reordered_gather results r)) ∙ all.result;
        finished = single (reordered_gather announcements r) _ all.finished ∙ ap (λ (n : ℕ). announcement (4 + n) ∷ []) (length_reordered (reordered_gather extras r));
      }

  pub same_side : length (gather extras l) ≤ 8 → length (gather extras k) ≤ 8 → SameSide (side_after empty_side l) (side_after empty_side k)
  same_side room_l room_k =
      record {
        negotiation = negotiation_after empty_side l ∙ (ap (first (λ n. n.held) empty_side.negotiation) (one_same _ (reordered_gather negotiations r) all.negotiation) ∙ sym (negotiation_after empty_side k));
        invocation = invocation_after empty_side l ∙ (ap (first (λ n. n.held) empty_side.invocation) (one_same _ (reordered_gather invocations r) all.invocation) ∙ sym (invocation_after empty_side k));
        result = result_after empty_side l ∙ (ap (first (λ n. n.held) empty_side.result) (one_same _ (reordered_gather results r) all.result) ∙ sym (result_after empty_side k));
        finished = finished_after empty_side l ∙ (ap (first (λ n. n.held) empty_side.finished) (one_same _ (reordered_gather announcements r) (ap length all.finished)) ∙ sym (finished_after empty_side k));
        additional = subst2 (sym (extras_of_holds l room_l)) (sym (extras_of_holds k room_k)) (reordered_gather extras r);
      }
    where
      extras_of_holds : (j : List Said) → length (gather extras j) ≤ 8 → extras_of (side_after empty_side j) ≡ gather extras j
      extras_of_holds j h =
          let n : additions (side_after empty_side j).additional ≡ (side_after empty_side j).additional.count = omega (arith, count_after empty_side j) in
          ap (λ (i : ℕ). take i (side_after empty_side j).additional.extras) n ∙ extras_after empty_side j refl (omega arith)

      subst2 : {x y x' y' : List ℕ} → x ≡ x' → y ≡ y' → Reordered x y → Reordered x' y'
      subst2 {x} {y} {x'} {y'} p q h = subst (λ (z : List ℕ). Reordered x' z) q (subst (λ (z : List ℕ). Reordered z y) p h)

pub own_order_completes : OwnOrderCompletes
own_order_completes a l k h before r taken =
    let client = reordered_gather (said_one a.client a) r in
    let service = reordered_gather (said_one a.service a) r in
    let sends : Sends a k = record { differ = h.differ; client = sends_all client h.client; service = sends_all service h.service } in
    let same : SameTables (exchange_of (after empty_store l) a) (exchange_of (after empty_store k) a) =
    record {
      client = subst (λ (x : Side). SameSide x (exchange_of (after empty_store k) a).client) (sym (client_row a l h.differ before))
          (subst (λ (y : Side). SameSide (side_after empty_side (said_by a.client a l)) y) (sym (client_row a k h.differ taken))
          (same_side client h.client (client_room a l h.differ before) (client_room a k h.differ taken)));
      service = subst (λ (x : Side). SameSide x (exchange_of (after empty_store k) a).service) (sym (service_row a l h.differ before))
          (subst (λ (y : Side). SameSide (side_after empty_side (said_by a.service a l)) y) (sym (service_row a k h.differ taken))
          (same_side service h.service (service_room a l h.differ before) (service_room a k h.differ taken)));
    } in
    (completes_at_last a k (record { sends = sends; taken = taken }), same)

pub any_order_completes : AnyOrderCompletes
any_order_completes a l k h nothing r =
    let own : (j : List Message) → NothingRefused empty_store j → NoneRefused a empty_store j = λ j n before m rest e q. n before m rest e in
    own_order_completes a l k h (own l nothing) r (own k (no_order_refuses l k nothing r))
