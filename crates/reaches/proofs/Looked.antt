-- A visit looks up its own sender record, and two entries for each key met behind it; so where nothing is missing the lookups are
-- one fewer than twice the keys. By induction on the depth, along the walk's own recursion; assumes nothing.
use Prim.Native.Nat.{ℕ, zero, suc, ◌+◌, ◌*◌, ◌≤◌, ◌<◌}
use mathlib.Core.Path.{◌≡◌, refl}
use mathlib.Core.Bool.{Bool, true, false, not, false≢true}
use native.Mathlib.Omega.{arith}
use lib.ListN.{get_or}
use Rattle.std.proofs.lemmas.Bool.{and_parts}
use Rattle.protocol.specs.Words.{pick, bit}
use Rattle.protocol.specs.declared.State.{State}
use Rattle.protocol.specs.Walk.{Met, added, looked_up, found_of, causes_held, hop_of, each, is_due, to_cause, visit_of}
use Rattle.reaches.specs.Tally.{Looked}

picked : (P : Met → Type 0) (b : Bool) {x y : Met} → (b ≡ true → P x) → P y → P (pick b x y)
picked P true p q = p refl
picked P false p q = q

each_looked : (top : ℕ) (g : ℕ → Met → Met) → ((j : ℕ) (w : Met) → j < top → Looked w → Looked (g j w)) → (s n j : ℕ) (w : Met) → j + n ≤ top → Looked w → Looked (each g s n j w)
unfolding each
each_looked top g f s zero j w b h = h
each_looked top g f s (suc n) j w b h = each_looked top g f s n (j + 1) (pick (bit s j) (g j w) w) (omega arith) (picked Looked (bit s j) (λ e. f j w (omega arith) h) h)

-- a cause that is due: the receipt is looked up, then its sender record
cause_looked : (m : State) (k link j : ℕ) (g : ℕ → ℕ → Met → Met) → ((hop : ℕ) (w : Met) → w.lookups ≡ 2 * w.count → Looked (g j hop w))
    → (w : Met) → Looked w → Looked (to_cause g m k link j w)
cause_looked m k link j g f w h =
    picked Looked (is_due w j) (λ t. f (hop_of m k link j) (looked_up w) (h (and_parts w.fine (not (get_or w.met j false)) t).0)) h

pub visit_looked : (m : State) (depth k link : ℕ) (w : Met) → k < depth → w.lookups ≡ 2 * w.count → Looked (visit_of depth m k link w)
unfolding visit_of
visit_looked m zero k link w b h = let z : ⊥ = omega arith in absurd z
visit_looked m (suc depth) k link w b h =
    picked Looked (found_of m k link)
    (λ t. each_looked k (to_cause (visit_of depth m) m k link)
    (λ j v l e. cause_looked m k link j (visit_of depth m) (λ hop x q. visit_looked m depth j hop x (omega arith) q) v e)
    (causes_held m k link) k 0 (added (looked_up w) k) (omega arith) (λ f. omega arith))
    (λ f. absurd (false≢true f))
