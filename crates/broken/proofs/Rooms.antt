-- A place is within its view's room exactly if its copies are fine; the rows of eight stores are the places of all. Assumes nothing.
use Rattle.std.proofs.Common.{ℕ, zero, suc, ◌≡◌, ◌+◌, ◌*◌, ◌/◌, ◌%◌, ◌<◌, ◌&&◌, ◌||◌, Bool, true, false, List, [], length, get_or, take, drop, leb, eqb, ltb, refl, sym, ap, ap₂, ◌∙◌, arith}
use Rattle.std.specs.Cmp.{both_ways}
use Rattle.std.specs.Simd.{first_chunks}
use borrow.Author.Tests.{lt-leb}
use lib.Dec.{eqb-suc-zero}
use Rattle.std.proofs.lemmas.List.{get_or-take, get_or-drop, length-take, length-drop, drop-drop}
use Rattle.protocol.specs.Words.{pick, all, table}
use Rattle.protocol.specs.Broken.{copies_fine}
use Rattle.unbroken.proofs.Laws.Every.{all_at, all_each, table_at}
use Rattle.std.proofs.Math.Bool.{and-false}
use Rattle.broken.specs.Rooms.{within_room}
use Rattle.broken.proofs.Words.{all_same}

-- no more than nothing is nothing
few_none : (n : ℕ) → (leb n 15 && (eqb n 0 || false)) ≡ leb n 0
few_none zero = refl
few_none (suc n) = ap (λ (t : Bool). leb (suc n) 15 && (t || false)) (eqb-suc-zero n) ∙ (and-false (leb (suc n) 15) ∙ sym (lt-leb (suc n) 0 (omega arith)))

some : (t u : Bool) → (t && (u || true)) ≡ t
some true true = refl
some true false = refl
some false u = refl

room_same : (s m : Bool) (n : ℕ) → (leb n 15 && (eqb n 0 || (s && m))) ≡ leb n (pick s (pick m 15 0) 0)
room_same true true n = some (leb n 15) (eqb n 0)
room_same true false n = few_none n
room_same false m n = few_none n

-- the rooms are of the views that may have copies
pub rooms_same : (stores : ℕ) (may : ℕ → Bool) (rooms l : List ℕ) → rooms ≡ table (λ v. pick (may v) 15 0) 32 → all (within_room stores rooms) l ≡ all (copies_fine stores may) l
rooms_same stores may rooms l e =
    all_same (within_room stores rooms) (copies_fine stores may) l 0 (λ at h. sym (room_same (ltb (at / 32) stores) (may (at % 32)) (get_or l at 0)
    ∙ ap (λ (k : ℕ). leb (get_or l at 0) (pick (ltb (at / 32) stores) k 0)) (sym (ap (λ (r : List ℕ). get_or r (at % 32) 0) e ∙ table_at (λ v. pick (may v) 15 0) 32 0 (at % 32) (omega arith)))))

-- the row of a store, and what stands in it
row_at : (k p : ℕ) (l : List ℕ) → p < k → get_or (first_chunks 32 k l) p [] ≡ take 32 (drop (p * 32) l)
row_at zero p l h = absurd (omega arith)
row_at (suc k) zero l h = refl
row_at (suc k) (suc p) l h =
    let more : 32 + p * 32 ≡ suc p * 32 = omega arith in
    row_at k p (drop 32 l) (omega arith) ∙ ap (take 32) (drop-drop (p * 32) 32 l ∙ ap (λ n. drop n l) more)

cell : (k p v : ℕ) (l : List ℕ) → p < k → v < 32 → get_or (get_or (first_chunks 32 k l) p []) v 0 ≡ get_or l (p * 32 + v) 0
cell k p v l h j = ap (λ r. get_or r v 0) (row_at k p l h) ∙ get_or-take 32 (drop (p * 32) l) v 0 j ∙ get_or-drop (p * 32) l v 0

length_rows : (k : ℕ) (l : List ℕ) → length (first_chunks 32 k l) ≡ k
length_rows zero l = refl
length_rows (suc k) l = ap suc (length_rows k (drop 32 l))

length_row : (p : ℕ) (l : List ℕ) → length l ≡ 256 → p < 8 → length (get_or (first_chunks 32 8 l) p []) ≡ 32
length_row p l long h = ap length (row_at 8 p l h) ∙ (omega (arith, length-take 32 (drop (p * 32) l), length-drop (p * 32) l))

-- the rows' tests are those of the places
pub rows_same : (w : ℕ → ℕ → ℕ → Bool) (l : List ℕ) → length l ≡ 256 → all (λ p row. all (w p) row) (first_chunks 32 8 l) ≡ all (λ at n. w (at / 32) (at % 32) n) l
rows_same w l long =
    let rows = first_chunks 32 8 l in
    let tests_row = λ (p : ℕ) (row : List ℕ). all (w p) row in
    let tests_place = λ (at n : ℕ). w (at / 32) (at % 32) n in
    both_ways (all tests_row rows) (all tests_place l)
    (λ e. all_each tests_place l 0 (λ at h.
    let p : at / 32 < 8 = omega arith in
    let back : at / 32 * 32 + at % 32 ≡ at = omega arith in
    ap (w (at / 32) (at % 32)) (sym (cell 8 (at / 32) (at % 32) l p (omega arith) ∙ ap (λ i. get_or l i 0) back))
    ∙ all_at (w (at / 32)) (get_or rows (at / 32) []) 0 (all_at tests_row rows [] e (at / 32) (omega (arith, length_rows 8 l))) (at % 32) (omega (arith, length_row (at / 32) l long p))))
    (λ e. all_each tests_row rows [] (λ p h.
    let q : p < 8 = omega (arith, length_rows 8 l) in
    all_each (w p) (get_or rows p []) 0 (λ v k.
    let r : v < 32 = omega (arith, length_row p l long q) in
    let x : (p * 32 + v) / 32 ≡ p = omega arith in
    let y : (p * 32 + v) % 32 ≡ v = omega arith in
    ap (w p v) (cell 8 p v l q r) ∙ sym (ap₂ (λ a b. w a b (get_or l (p * 32 + v) 0)) x y) ∙ all_at tests_place l 0 e (p * 32 + v) (omega (arith, long)))))
