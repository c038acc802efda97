-- Each wrong rule breaks a promise: its run is computed up to the message at which it shows. Assumes nothing.
use mathlib.Core.Path.{◌≡◌, refl, ap}
use mathlib.Core.Bool.{true≢false, false≢true}
use mathlib.Core.List.{[], ◌∷◌, ◌++◌}
use native.Mathlib.Omega.{arith}
use lib.ListN.{get_or}
use Prim.Native.Nat.{ℕ}
use Rattle.activities.specs.Activity.{same}
use Rattle.activities.specs.Side.{side_taken}
use Rattle.activities.specs.Complete.{complete_side, complete}
use Rattle.activities.specs.Store.{empty_store, fresh, blank, place, exchange_of, written}
use Rattle.activities.specs.Receive.{exchange_taken, no_room, completes, receive}
use Rattle.activities.specs.Run.{after}
use Rattle.activities.specs.declared.Finishing.{Finishing}
use Rattle.activities.specs.Outcome.{Outcome}
use Rattle.completes.specs.Order.{gather}
use Rattle.completes.specs.Sends.{Sends}
use Rattle.completes_bites.specs.Setting.{called, clients, services, last, run}
use Rattle.completes_bites.specs.Variants.{exchange_by, accepted_by, receive_by, after_by, AtLastBy, RepeatsBy}
use Rattle.completes_bites.specs.Witnesses.{again}
use Rattle.completes_bites.specs.Wrong.{one_sided, too_early, overwritten, overwriting, Wrong}
use Rattle.completes_bites.proofs.Refusals.{all_taken, nothing_refused}

sends : Sends called run
unfolding same gather
sends =
    record {
      differ = omega arith;
      client = record { negotiation = refl; invocation = refl; result = refl; finished = refl };
      service = record { negotiation = refl; invocation = refl; result = refl; finished = refl };
    }

-- the client isn't told at the service's last message
one_sided_holds : AtLastBy one_sided → ⊥
unfolding same side_taken complete_side complete place exchange_of written no_room gather exchange_by accepted_by receive_by after_by all_taken
one_sided_holds h = false≢true (ap (λ (f : Finishing). f.client) ((h called run sends (nothing_refused one_sided empty_store run refl)).finished (clients ++ services) last [] refl refl))

-- it is complete while the service's negotiation is still to come
too_early_holds : AtLastBy too_early → ⊥
unfolding same side_taken complete_side complete place exchange_of written no_room gather exchange_by accepted_by receive_by after_by all_taken
too_early_holds h = true≢false ((h called run sends (nothing_refused too_early empty_store run refl)).complete (clients ++ services) (last ∷ []) refl)

-- the list of stores in the client's negotiation is another one
over_writing : RepeatsBy overwriting → ⊥
unfolding same side_taken complete_side complete place exchange_of written exchange_taken no_room completes receive after exchange_by accepted_by receive_by overwritten
over_writing h =
    let changed : ◌≡◌ {A = ℕ} 9 1 = ap (λ (r : Outcome). (get_or r.store.exchanges 0 (fresh blank)).client.negotiation.list) (h (after empty_store clients) refl again refl refl) in
    omega arith

pub wrong : Wrong
wrong = record { one_sided = one_sided_holds; too_early = too_early_holds; overwriting = over_writing }
