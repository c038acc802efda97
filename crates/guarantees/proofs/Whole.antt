-- The local record at every interaction and store of a machine. A step touches one interaction: what is shown there holds everywhere.
-- Assumes nothing.
use mathlib.Core.Path.{◌≡◌}
use mathlib.Core.Logic.{◌≢◌}
use Prim.Native.Nat.{ℕ, ◌-◌, ◌≤◌, ◌<◌}
use native.Mathlib.Omega.{arith}
use native.Mathlib.Decide.{ℕ_discrete}
use lib.ListN.{get_or}
use Rattle.std.proofs.Common.{rules}
use Rattle.protocol.specs.Words.{one, bit}
use Rattle.protocol.specs.Slots.{number, status_number, view, repair, entry, message, shelf, ack_copies, update_copies, uack_copies}
use Rattle.protocol.specs.declared.State.{State}
use Rattle.protocol.specs.declared.View.{View}
use Rattle.protocol.specs.declared.Repair.{Repair}
use Rattle.protocol.specs.declared.Entry.{Entry}
use Rattle.protocol.specs.declared.Store.{Store}
use Rattle.guarantees.proofs.Local.{Job, Cell, Good}

abbrev pub job_of : View → Repair → Entry → Job
job_of w r e =
    record {
      phase = w.phase;
      store = w.store;
      viewlink = w.viewlink;
      changed = one w.changed;
      flying = one r.flying;
      repair_to = r.destination;
      repair_own = r.own;
      status = status_number e.status;
      destination = e.destination;
      own = e.own;
    }

abbrev pub job : State → ℕ → Job
job m v = job_of (view m v) (repair m v) (entry m v)

-- what a store has of a view, and the copies in flight
abbrev pub cell_of : Store → ℕ → (acks updates uacks : ℕ) → Cell
cell_of s v a u k =
    record {
      held = one (bit s.held v);
      link = get_or s.viewlinks v 0;
      kept = one (bit s.kept v);
      saved = get_or s.keptlinks v 0;
      owes_ack = one (bit s.acksowed v);
      owes_uack = one (bit s.uacksowed v);
      acks = a;
      updates = u;
      uacks = k;
    }

abbrev pub cell : State → ℕ → ℕ → Cell
cell m p v = cell_of (shelf m p) v (ack_copies m p v) (update_copies m p v) (uack_copies m p v)

abbrev pub Here : State → ℕ → ℕ → ℕ → Type 0
Here m k r p = Good (job m (number k r)) (cell m p (number k r)) (job m (number k (1 - r))) (cell m p (number k (1 - r))) (message m k).own p

unfoldable pub Everywhere : State → Type 0
Everywhere m = (k r p : ℕ) → k < m.made → r < 2 → p < 8 → Here m k r p

-- the machine n is m but for the interaction k: the view in role r has the job w and the places c, the other x and d
pub record Touch (m n : State) (k r : ℕ) (w x : Job) (c d : ℕ → Cell) : Type 0 where
  pub me : job n (number k r) ≡ w
  pub ot : job n (number k (1 - r)) ≡ x
  pub mc : (p : ℕ) → p < 8 → cell n p (number k r) ≡ c p
  pub oc : (p : ℕ) → p < 8 → cell n p (number k (1 - r)) ≡ d p
  pub far_job : (u : ℕ) → u < 32 → u ≢ number k r → u ≢ number k (1 - r) → job n u ≡ job m u
  pub far_cell : (p u : ℕ) → p < 8 → u < 32 → u ≢ number k r → u ≢ number k (1 - r) → cell n p u ≡ cell m p u
  pub far_sent : (j : ℕ) → j ≢ k → (message n j).own ≡ (message m j).own

role_two : (r s : ℕ) → r < 2 → s < 2 → r ≢ s → s ≡ 1 - r
role_two r s e f g = search rules

module _ (m n : State) (k r : ℕ) (w x : Job) (c d : ℕ → Cell) (hr : r < 2) (t : Touch m n k r w x c d) where
  -- every interaction of n is k, or one of m
  pub touched : ((j : ℕ) → j < n.made → j ≢ k → j < m.made) → n.made ≤ 16 → Everywhere m
      → ((p : ℕ) → p < 8 → Good w (c p) x (d p) (message n k).own p)
      → ((p : ℕ) → p < 8 → Good x (d p) w (c p) (message n k).own p)
      → Everywhere n
  unfolding Everywhere
  touched old fits inv a b j s p hj hs hp = go (ℕ_discrete j k) (ℕ_discrete r s)
    where
      back : 1 - (1 - r) ≡ r
      back = omega arith

      apart : (y z : ℕ) → y < 2 → z < 2 → j ≢ k → number j y ≢ number k z
      apart y z hy hz f e = f (let q : j ≡ k = omega arith in q)

      go : Dec (j ≡ k) → Dec (r ≡ s) → Here n j s p
      go (yes e) (yes f) = rw (e, ← f, t.me, t.ot, t.mc p hp, t.oc p hp) (a p hp)
      go (yes e) (no f) = rw (e, role_two r s hr hs f, back, t.me, t.ot, t.mc p hp, t.oc p hp) (b p hp)
      go (no f) q =
          let u = number j s in
          let v = number j (1 - s) in
          let hu : u < 32 = omega arith in
          let hv : v < 32 = omega arith in
          rw (
            t.far_job u hu (apart s r hs hr f) (apart s (1 - r) hs (omega arith) f),
            t.far_job v hv (apart (1 - s) r (omega arith) hr f) (apart (1 - s) (1 - r) (omega arith) (omega arith) f),
            t.far_cell p u hp hu (apart s r hs hr f) (apart s (1 - r) hs (omega arith) f),
            t.far_cell p v hp hv (apart (1 - s) r (omega arith) hr f) (apart (1 - s) (1 - r) (omega arith) (omega arith) f),
            t.far_sent j f,
          )
          (inv j s p (old j hj f) hs hp)

-- the machine n is m but for the store p
module _ (m n : State) (p : ℕ) (made : n.made ≡ m.made) (fits : m.made ≤ 16) (jobs : (v : ℕ) → job n v ≡ job m v) (sent : (k : ℕ) → (message n k).own ≡ (message m k).own)
    (far : (q v : ℕ) → q < 8 → v < 32 → q ≢ p → cell n q v ≡ cell m q v) where
  pub at_one_store : Everywhere m → ((k r : ℕ) → k < m.made → r < 2 → p < 8 → Good (job m (number k r)) (cell n p (number k r)) (job m (number k (1 - r))) (cell n p (number k (1 - r))) (message m k).own p) → Everywhere n
  unfolding Everywhere
  at_one_store inv near k r q hk hr hq = rw (jobs (number k r), jobs (number k (1 - r)), sent k) (go (ℕ_discrete q p))
    where
      hm : k < m.made
      hm = omega arith

      go : Dec (q ≡ p) → Good (job m (number k r)) (cell n q (number k r)) (job m (number k (1 - r))) (cell n q (number k (1 - r))) (message m k).own q
      go (yes e) = rw e (near k r hm hr (omega arith))
      go (no f) = rw (far q (number k r) hq (omega arith) f, far q (number k (1 - r)) hq (omega arith) f) (inv k r q hm hr hq)
