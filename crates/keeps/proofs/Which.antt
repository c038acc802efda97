-- A step is a send or another: the kinds are walked here once, for all that asks only that. Assumes nothing.
use Prim.Native.Nat.{ℕ, ◌<◌}
use mathlib.Core.Path.{◌≡◌, refl}
use mathlib.Core.Bool.{false}
use mathlib.Core.List.{◌∷◌, map}
use native.Mathlib.Omega.{arith}
use lib.Dec.{eqb}
use Rattle.std.proofs.Common.{rules}
use Rattle.protocol.specs.Kinds.{kind}
use Rattle.protocol.specs.Write.{written}
use Rattle.protocol.specs.declared.State.{State}
use Rattle.protocol.specs.Receive.{received_of}
use Rattle.protocol.specs.PreCheck.{pre_checked}
use Rattle.protocol.specs.SendRecord.{record_sent}
use Rattle.protocol.specs.Timeout.{timed_out}
use Rattle.protocol.specs.TakeRecord.{record_taken}
use Rattle.protocol.specs.TakeAck.{ack_taken}
use Rattle.protocol.specs.PostCheck.{post_checked}
use Rattle.protocol.specs.TakeRepair.{repair_taken}
use Rattle.protocol.specs.SendUpdate.{update_sent}
use Rattle.protocol.specs.TakeUpdate.{update_taken}
use Rattle.protocol.specs.TakeUack.{uack_taken}
use Rattle.protocol.specs.Expire.{expired}
use Rattle.protocol.specs.Lose.{with_copies, lost}
use Rattle.protocol.specs.Crash.{crashed}
use Rattle.protocol.specs.Restart.{restarted}
use Rattle.protocol.specs.Sweep.{swept}
use Rattle.protocol.specs.Checkpoint.{checkpointed}
use Rattle.protocol.specs.Duplicate.{duplicated}
use Rattle.protocol.specs.Step.{after_of}
use Rattle.protocol.specs.declared.Step.{Step}
use Rattle.protocol.specs.declared.Step.TheVariants.{Send, Receive, PreCheck, SendRecord, Timeout, TakeRecord, TakeAck, PostCheck, TakeRepair, SendUpdate, TakeUpdate, TakeUack, Expire, Lose, Crash, Restart, Checkpoint, Duplicate}
use Rattle.keeps.specs.Applies.{value_of, named}

-- what is true of every kind but a send: it makes no interaction, and its fields are what it names, a byte each
pub record Another (s : Step) : Type 0 where
  pub other : eqb (kind s) 1 ≡ false
  pub low : kind s < 256
  pub made : (m : State) → (after_of m s).made ≡ m.made
  pub bytes : written s ≡ kind s ∷ map value_of (named s)

pub data Kind (s : Step) : Type 0 where
  a_send : (from to own word causes : ℕ) → s ≡ Send from to own word causes → Kind s
  another : Another s → Kind s

counted_made : (m : State) (what p v n : ℕ) → (with_copies m what p v n).made ≡ m.made
counted_made m what p v n = search rules

others : {s : Step} → eqb (kind s) 1 ≡ false → kind s < 256 → ((m : State) → (after_of m s).made ≡ m.made) → written s ≡ kind s ∷ map value_of (named s) → Kind s
others e l f b = another (record { other = e; low = l; made = f; bytes = b })

pub kinds : (s : Step) → Kind s
unfolding received_of pre_checked record_sent timed_out record_taken ack_taken post_checked repair_taken update_sent update_taken uack_taken expired lost swept crashed restarted checkpointed duplicated
kinds (Send from to own word causes) = a_send from to own word causes refl
kinds (Receive k) = others refl (omega arith) (λ m. refl) refl
kinds (PreCheck a) = others refl (omega arith) (λ m. refl) refl
kinds (SendRecord a) = others refl (omega arith) (λ m. refl) refl
kinds (Timeout a p) = others refl (omega arith) (λ m. refl) refl
kinds (TakeRecord p k r) = others refl (omega arith) (λ m. refl) refl
kinds (TakeAck p k r) = others refl (omega arith) (λ m. refl) refl
kinds (PostCheck a) = others refl (omega arith) (λ m. refl) refl
kinds (TakeRepair k r) = others refl (omega arith) (λ m. refl) refl
kinds (SendUpdate k r) = others refl (omega arith) (λ m. refl) refl
kinds (TakeUpdate p k r) = others refl (omega arith) (λ m. refl) refl
kinds (TakeUack p k r) = others refl (omega arith) (λ m. refl) refl
kinds (Expire k r) = others refl (omega arith) (λ m. refl) refl
kinds (Lose what p k r) = others refl (omega arith) (λ m. counted_made m what p _ _) refl
kinds (Crash p) = others refl (omega arith) (λ m. refl) refl
kinds (Restart p) = others refl (omega arith) (λ m. refl) refl
kinds (Checkpoint p) = others refl (omega arith) (λ m. refl) refl
kinds (Duplicate what p k r) = others refl (omega arith) (λ m. counted_made m what p _ _) refl
