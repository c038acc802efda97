-- What each rule writes, read back: the one interaction that it touches, and nothing else. Assumes nothing.
use mathlib.Core.Path.{◌≡◌, refl, sym}
use mathlib.Core.Logic.{◌≢◌}
use Prim.Native.Nat.{ℕ, ◌+◌, ◌-◌, ◌<◌}
use native.Mathlib.Omega.{arith}
use native.Mathlib.Decide.{ℕ_discrete}
use borrow.Author.Tests.{eq-eqb, ne_eqb}
use lib.Dec.{eqb}
use lib.ListN.{length, get_or, set}
use lib.Seq.{get_or-set_same, get_or-set_other}
use Rattle.std.proofs.Common.{rules}
use Rattle.protocol.specs.Words.{pick}
use Rattle.protocol.specs.Slots.{number, shelf, view, repair, entry, viewlink, ack_copies, update_copies, uack_copies}
use Rattle.protocol.specs.Writes.{with_view, with_repair, with_entry, with_entries, with_ack_copies, with_update_copies, with_uack_copies, with_shelf}
use Rattle.unbroken.specs.Unbroken.{Sized}
use Rattle.protocol.specs.declared.State.{State}
use Rattle.protocol.specs.declared.View.{View}
use Rattle.protocol.specs.declared.Repair.{Repair}
use Rattle.protocol.specs.declared.Entry.{Entry}
use Rattle.protocol.specs.declared.Store.{Store}
use Rattle.protocol.specs.TakeRecord.{written_viewlink, taken_in}
use Rattle.protocol.specs.TakeUpdate.{updated_in}
use Rattle.unbroken.proofs.Shelves.{shelf_same, shelf_beside}
use Rattle.keeps.proofs.Stores.{joined_has, joined_beside}
use Rattle.guarantees.proofs.Local.{Cell, counted_cell, recorded_cell, updated_cell, linked_cell, filled_link}
use Rattle.guarantees.proofs.Whole.{job, job_of, cell_of, cell, Touch}

-- what holds of a place as it is written, and of the others as they were
pub at_store_holds : (P : ℕ → Cell → Type 0) (p : ℕ) (x : Cell) (y : ℕ → Cell) → P p x → ((q : ℕ) → q < 8 → P q (y q)) → (q : ℕ) → q < 8 → P q (pick (eqb q p) x (y q))
at_store_holds P p x y e f q g = search rules

-- the same of two places at one store
pub at_stores : (P : ℕ → Cell → Cell → Type 0) (p : ℕ) (x x' : Cell) (y y' : ℕ → Cell) → P p x x' → ((q : ℕ) → q < 8 → P q (y q) (y' q)) → (q : ℕ) → q < 8 → P q (pick (eqb q p) x (y q)) (pick (eqb q p) x' (y' q))
at_stores P p x x' y y' e f q g = search rules

-- a machine with all the copies at one place written anew
abbrev pub with_counts : State → ℕ → ℕ → ℕ → ℕ → ℕ → State
with_counts m p v a u y = with_ack_copies (with_update_copies (with_uack_copies m p v y) p v u) p v a

-- a store, read where one was written
module _ (m : State) (z : Sized m) (p : ℕ) (hp : p < 8) (t : Store) where
  pub written_cell : (q v : ℕ) → cell (with_shelf m p t) q v ≡ pick (eqb q p) (cell_of t v (ack_copies m p v) (update_copies m p v) (uack_copies m p v)) (cell m q v)
  written_cell q v = go (ℕ_discrete q p)
    where
      go : Dec (q ≡ p) → cell (with_shelf m p t) q v ≡ pick (eqb q p) (cell_of t v (ack_copies m p v) (update_copies m p v) (uack_copies m p v)) (cell m q v)
      go (yes e) = rw (e, eq-eqb p p refl, shelf_same m.shelves p t z.shelves hp)
      go (no n) = rw (ne_eqb q p n, shelf_beside m.shelves p t q n)

  -- a view of which the store has what it had
  pub same_cell : (q v : ℕ) → cell_of t v (ack_copies m p v) (update_copies m p v) (uack_copies m p v) ≡ cell m p v → cell (with_shelf m p t) q v ≡ cell m q v
  same_cell q v e = search (rules, written_cell, eq-eqb, ne_eqb)

-- a record is taken: contents, a viewlink where there was none, and an ack is owed
module _ (s : Store) (v : ℕ) (w : View) (row : length s.viewlinks ≡ 32) (hv : v < 32) (a n y : ℕ) where
  pub taken_cell : cell_of (taken_in s v w) v a n y ≡ recorded_cell (filled_link (get_or s.viewlinks v 0) w.viewlink) (cell_of s v a n y)
  taken_cell = rw (joined_has s.held v, joined_has s.acksowed v, get_or-set_same s.viewlinks v (written_viewlink (get_or s.viewlinks v 0) w) 0 (omega arith))

  pub taken_beside : (u : ℕ) → u ≢ v → cell_of (taken_in s v w) u a n y ≡ cell_of s u a n y
  taken_beside u f = rw (joined_beside s.held v u f, joined_beside s.acksowed v u f, get_or-set_other s.viewlinks v u (written_viewlink (get_or s.viewlinks v 0) w) 0 f)

-- an update is taken: the viewlink of the other view, and a uack is owed
module _ (s : Store) (v o own : ℕ) (row : length s.viewlinks ≡ 32) (ho : o < 32) (apart : v ≢ o) (a n y : ℕ) where
  pub updated_cell_holds : cell_of (updated_in s v o own) v a n y ≡ updated_cell (cell_of s v a n y)
  updated_cell_holds = rw (joined_has s.uacksowed v, get_or-set_other s.viewlinks o v (own + 1) 0 apart)

  pub updated_other : cell_of (updated_in s v o own) o a n y ≡ linked_cell (own + 1) (cell_of s o a n y)
  updated_other = rw (joined_beside s.uacksowed v o (λ e. apart (sym e)), get_or-set_same s.viewlinks o (own + 1) 0 (omega arith))

  pub updated_beside : (u : ℕ) → u ≢ v → u ≢ o → cell_of (updated_in s v o own) u a n y ≡ cell_of s u a n y
  updated_beside u f g = rw (joined_beside s.uacksowed v u f, get_or-set_other s.viewlinks o u (own + 1) 0 g)

module _ (m : State) (z : Sized m) (k r : ℕ) (hk : k < 16) (hr : r < 2) where
  -- the other role is another view
  pub other_view : number k (1 - r) ≢ number k r
  other_view e = let q : ⊥ = omega arith in q

  -- a view's record
  pub view_touch : (w : View) → Touch m (with_view m (number k r) w) k r (job_of w (repair m (number k r)) (entry m (number k r))) (job m (number k (1 - r))) (λ p. cell m p (number k r)) (λ p. cell m p (number k (1 - r)))
  view_touch w = search rules

  -- a view's record and its repair
  pub repair_touch : (w : View) (q : Repair) → Touch m (with_repair (with_view m (number k r) w) (number k r) q) k r (job_of w q (entry m (number k r))) (job m (number k (1 - r))) (λ p. cell m p (number k r)) (λ p. cell m p (number k (1 - r)))
  repair_touch w q = search rules

  -- both entries, and the repair
  pub entries_touch : (e f : Entry) (q : Repair) → Touch m (with_repair (with_entries m (set (set m.entries (number k r) e) (number k (1 - r)) f)) (number k r) q) k r (job_of (view m (number k r)) q e) (job_of (view m (number k (1 - r))) (repair m (number k (1 - r))) f) (λ p. cell m p (number k r)) (λ p. cell m p (number k (1 - r)))
  entries_touch e f q = search rules

  -- an entry
  pub entry_touch : (e : Entry) → Touch m (with_entry m (number k r) e) k r (job_of (view m (number k r)) (repair m (number k r)) e) (job m (number k (1 - r))) (λ p. cell m p (number k r)) (λ p. cell m p (number k (1 - r)))
  entry_touch e = search rules

  -- the copies at a place
  module _ (p : ℕ) (hp : p < 8) (a u y : ℕ) where
    there : (q : ℕ) → cell (with_counts m p (number k r) a u y) q (number k r) ≡ pick (eqb q p) (counted_cell a u y (cell m p (number k r))) (cell m q (number k r))
    there q = search rules

    pub counts_touch : Touch m (with_counts m p (number k r) a u y) k r (job m (number k r)) (job m (number k (1 - r))) (λ q. pick (eqb q p) (counted_cell a u y (cell m p (number k r))) (cell m q (number k r))) (λ q. cell m q (number k (1 - r)))
    counts_touch = search rules

  -- a store that takes a record, or an update
  module _ (p : ℕ) (hp : p < 8) (row : length (shelf m p).viewlinks ≡ 32) where
    pub taken_touch : (w : View) → Touch m (with_shelf m p (taken_in (shelf m p) (number k r) w)) k r (job m (number k r)) (job m (number k (1 - r)))
        (λ q. pick (eqb q p) (recorded_cell (filled_link (viewlink m p (number k r)) w.viewlink) (cell m p (number k r))) (cell m q (number k r))) (λ q. cell m q (number k (1 - r)))
    taken_touch w =
        let t = taken_in (shelf m p) (number k r) w in
        let hv : number k r < 32 = omega arith in
        search (rules, taken_cell, written_cell, same_cell, taken_beside, other_view)

    pub updated_touch : (own : ℕ) → Touch m (with_shelf m p (updated_in (shelf m p) (number k r) (number k (1 - r)) own)) k r (job m (number k r)) (job m (number k (1 - r)))
        (λ q. pick (eqb q p) (updated_cell (cell m p (number k r))) (cell m q (number k r))) (λ q. pick (eqb q p) (linked_cell (own + 1) (cell m p (number k (1 - r)))) (cell m q (number k (1 - r))))
    updated_touch own =
        let t = updated_in (shelf m p) (number k r) (number k (1 - r)) own in
        let ho : number k (1 - r) < 32 = omega arith in
        let apart : number k r ≢ number k (1 - r) = λ e. other_view (sym e) in
        search (rules, updated_cell_holds, written_cell, updated_other, same_cell, updated_beside)
