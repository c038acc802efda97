-- The coordinator's entries: another status, and step 9, where a repair is taken, keep every slot. Assumes nothing.
use Prim.Native.Nat.{ℕ, ◌-◌, ◌≤◌, ◌<◌}
use mathlib.Core.Path.{◌≡◌, subst}
use native.Mathlib.Omega.{arith}
use lib.Seq.{get_or-set_other}
use Rattle.std.proofs.Common.{rules}
use Rattle.protocol.specs.Words.{pick}
use Rattle.protocol.specs.Slots.{number, status_number, view, repair, entry, no_entry, no_repair}
use Rattle.protocol.specs.Writes.{with_entry}
use Rattle.unbroken.specs.Unbroken.{EntrySlot, Unbroken}
use Rattle.protocol.specs.declared.State.{State}
use Rattle.protocol.specs.declared.Entry.{Entry}
use Rattle.protocol.specs.declared.Status.{Status}
use Rattle.unbroken.proofs.Laws.Says.{zero_splits, not_says}
use Rattle.unbroken.proofs.Laws.Fresh.{blank_repair}
use Rattle.protocol.specs.TakeRepair.{to_send, entered, repaired_entry, redirected_entry, repair_taken}
use Rattle.protocol.specs.SendUpdate.{in_status}
use Rattle.keeps.specs.Taken.{TakeRepairTaken}
use Rattle.keeps.proofs.Writes.{entry_write, repair_write}
use Rattle.keeps.proofs.Cases.{pick_case}
use Rattle.keeps.proofs.Stores.{number_32}

-- an entry takes another status, and keeps its stores
status_slot : {stores phase : ℕ} (t : Status) (e : Entry) → 1 ≤ status_number e.status → 1 ≤ status_number t → EntrySlot stores phase e → EntrySlot stores phase (in_status t e)
status_slot t e f g h = search rules

to_send_slot : (stores phase destination own : ℕ) → phase ≡ 5 → destination < stores → own < stores → EntrySlot stores phase (to_send destination own)
to_send_slot stores phase destination own e h k =
    record { settled = λ b. e; destination_in = λ b. h; own_in = λ b. k; blank = λ b. absurd (omega arith) }

module _ (m : State) (s : Unbroken m) where
  -- 10, 12, 13: the entry's status
  pub status_write : (v : ℕ) → v < 32 → (t : Status) → 1 ≤ status_number (entry m v).status → 1 ≤ status_number t → Unbroken (with_entry m v (in_status t (entry m v)))
  status_write v hv t some some' = entry_write m s v hv (in_status t (entry m v)) (status_slot t (entry m v) some some' (s.entry_at v hv)) (λ h. some')

  -- 9
  pub take_repair_kept : (k r : ℕ) → TakeRepairTaken m k r → Unbroken (repair_taken m k r)
  unfolding repair_taken
  take_repair_kept k r c =
      let v = number k r in
      let o = number k (1 - r) in
      let hk = c.view.key_in in
      let hr = c.view.role_in in
      let hv = number_32 m s k r hk hr in
      let ho = number_32 m s k (1 - r) hk (omega arith) in
      let sent = repair m v in
      let other = entry m o in
      let g = s.repair_at v hv in
      let t = s.entry_at o ho in
      let e₁ = repaired_entry sent other in
      let e₂ = redirected_entry sent other in
      let is = not_says (zero_splits (status_number other.status)) in
      let d : pick (entered other) other.own sent.destination < m.stores =
      pick_case (λ (n : ℕ). n < m.stores) (entered other) other.own sent.destination (λ b. t.own_in (is.tells b)) (λ b. g.destination_in c.flying) in
      let s₁ = entry_write m s v hv e₁ (to_send_slot m.stores (view m v).phase _ sent.own (g.settled c.flying) d (g.own_in c.flying)) (λ h. omega arith) in
      let m₁ = with_entry m v e₁ in
      let there : entry m₁ o ≡ other = get_or-set_other m.entries v o e₁ no_entry (omega arith) in
      let s₂ = entry_write m₁ s₁ o ho e₂
      (pick_case (EntrySlot m.stores (view m o).phase) (entered other) _ _ (λ b. to_send_slot m.stores (view m o).phase sent.own other.own (t.settled (is.tells b)) (g.own_in c.flying) (t.own_in (is.tells b))) (λ b. t))
      (λ h. pick_case (λ (x : Entry). 1 ≤ status_number x.status) (entered other) _ _ (λ b. omega arith) (λ b. subst (λ (x : Entry). 1 ≤ status_number x.status) there h)) in
      repair_write (with_entry m₁ o e₂) s₂ v hv no_repair (blank_repair m.stores (view m v).phase)
