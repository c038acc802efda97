-- What was written is read: all steps, then the rows, the counts and the whole. Assumes nothing.
use Rattle.std.specs.Prelude.{Some}
use Prim.Native.Nat.{ℕ, zero, suc, ◌+◌, ◌*◌, ◌/◌, ◌%◌, ◌≤◌, ◌<◌}
use mathlib.Core.Path.{◌≡◌, refl, sym, ap, ◌∙◌}
use mathlib.Core.Bool.{true}
use mathlib.Core.List.{List, [], ◌∷◌, ◌++◌}
use native.Mathlib.Omega.{arith}
use lib.ListN.{length, get_or, drop, length-append, get_or-append}
use lib.Seq.{get_or_at, get_or-append-add, drop-append-add, drop-append_seam, drop-drop, ext_get_or}
use borrow.Author.Tests.{le-leb, eq-eqb}
use Rattle.std.proofs.lemmas.Bool.{and_from}
use Rattle.std.proofs.Common.{rules}
use Rattle.protocol.specs.Words.{table}
use Rattle.protocol.specs.declared.Step.{Step}
use Rattle.protocol.specs.Book.{Reading, byte, read_step, valid_from, steps_from, home_read, list_read, start_of, count_of, well_formed, reading_of}
use Rattle.protocol.specs.Write.{written, written_steps, written_rows, written_book}
use Rattle.unbroken.proofs.Laws.Every.{length_table, table_at}
use Rattle.reads.proofs.Step.{step_there}

-- and so are all
steps_there : (steps : List Step) (s : List ℕ) (at : ℕ) → drop at s ≡ written_steps steps → at + length (written_steps steps) ≡ length s → (valid_from s (length steps) at ≡ true) × (steps_from s (length steps) at ≡ steps)
unfolding written_steps valid_from steps_from
steps_there [] s at e l = (eq-eqb at (length s) (omega arith), refl)
steps_there (x ∷ xs) s at e l =
    let g : read_step s at ≡ Some (x, at + length (written x)) = step_there s at (written_steps xs) x e l in
    let n : length (written x ++ written_steps xs) ≡ length (written x) + length (written_steps xs) = length-append (written x) (written_steps xs) in
    let d : drop (at + length (written x)) s ≡ written_steps xs = sym (drop-drop (length (written x)) at s) ∙ ap (drop (length (written x))) e ∙ drop-append_seam (written x) (written_steps xs) in
    let ih = steps_there xs s (at + length (written x)) d (omega arith) in
    (rw g ih.0, rw g (ap (λ (t : List Step). x ∷ t) ih.1))

-- the rows
rows_length : (homes lists : List ℕ) → length lists ≡ length homes → length (written_rows homes lists) ≡ 2 * length homes
unfolding written_rows
rows_length [] lists e = refl
rows_length (h ∷ hs) [] e = absurd (omega arith)
rows_length (h ∷ hs) (l ∷ ls) e = omega (arith, rows_length hs ls (omega arith))

row_home : (homes lists : List ℕ) → length lists ≡ length homes → (a : ℕ) → a < length homes → get_or (written_rows homes lists) (2 * a) 0 ≡ get_or homes a 0
unfolding written_rows
row_home [] lists e a h = absurd (omega arith)
row_home (x ∷ hs) [] e a h = absurd (omega arith)
row_home (x ∷ hs) (l ∷ ls) e zero h = refl
row_home (x ∷ hs) (l ∷ ls) e (suc a) h =
    let t : 2 * suc a ≡ suc (suc (2 * a)) = omega arith in
    ap (λ (i : ℕ). get_or (x ∷ l ∷ written_rows hs ls) i 0) t ∙ row_home hs ls (omega arith) a (omega arith)

row_list : (homes lists : List ℕ) → length lists ≡ length homes → (a : ℕ) → a < length homes → get_or (written_rows homes lists) (2 * a + 1) 0 ≡ get_or lists a 0
unfolding written_rows
row_list [] lists e a h = absurd (omega arith)
row_list (x ∷ hs) [] e a h = absurd (omega arith)
row_list (x ∷ hs) (l ∷ ls) e zero h = refl
row_list (x ∷ hs) (l ∷ ls) e (suc a) h =
    let t : 2 * suc a + 1 ≡ suc (suc (2 * a + 1)) = omega arith in
    ap (λ (i : ℕ). get_or (x ∷ l ∷ written_rows hs ls) i 0) t ∙ row_list hs ls (omega arith) a (omega arith)

table_is : (f : ℕ → ℕ) (l : List ℕ) (n : ℕ) → length l ≡ n → ((i : ℕ) → i < n → f i ≡ get_or l i 0) → table f n ≡ l
table_is f l n e h =
    let long = length_table f n in
    ext_get_or 0 (table f n) l (long ∙ sym e) (λ i b. let c : i < n = omega arith in table_at f n 0 i c ∙ h i c)

-- the book of a reading with as many lists as homes
module _ (b : Reading) (rows : length b.lists ≡ length b.homes) where
  abbrev n : ℕ
  n = length b.homes

  abbrev c : ℕ
  c = length b.steps

  abbrev R : List ℕ
  R = written_rows b.homes b.lists

  abbrev behind : List ℕ
  behind = c % 256 ∷ c / 256 ∷ written_steps b.steps

  abbrev s : List ℕ
  s = b.stores ∷ n ∷ (R ++ behind)

  book_is : written_book b ≡ s
  unfolding written_book
  book_is = refl

  R-length : length R ≡ 2 * n
  R-length = rows_length b.homes b.lists rows

  in_rows : (i j : ℕ) → i ≡ suc (suc j) → byte s i ≡ get_or (R ++ behind) j 0
  in_rows i j e = ap (byte s) e

  home_is : (a : ℕ) → a < n → home_read s a ≡ get_or b.homes a 0
  home_is a h =
      let l = R-length in
      in_rows (2 + 2 * a) (2 * a) (omega arith) ∙ get_or-append R behind 0 (2 * a) (omega arith) ∙ row_home b.homes b.lists rows a h

  list_is : (a : ℕ) → a < n → list_read s a ≡ get_or b.lists a 0
  list_is a h =
      let l = R-length in
      in_rows (3 + 2 * a) (2 * a + 1) (omega arith) ∙ get_or-append R behind 0 (2 * a + 1) (omega arith) ∙ row_list b.homes b.lists rows a h

  count_is : count_of s ≡ c
  unfolding count_of
  count_is =
      let l = R-length in
      let x : byte s (2 + 2 * n) ≡ c % 256 = in_rows (2 + 2 * n) (2 * n) (omega arith) ∙ get_or_at R (c % 256) (c / 256 ∷ written_steps b.steps) 0 (2 * n) l in
      let i : 2 * n + 1 ≡ length R + 1 = omega arith in
      let y : byte s (2 + 2 * n + 1) ≡ c / 256 = in_rows (2 + 2 * n + 1) (2 * n + 1) (omega arith) ∙ ap (λ (j : ℕ). get_or (R ++ behind) j 0) i ∙ get_or-append-add R behind 1 0 in
      rw (y, x) (omega arith)

  start_is : start_of s ≡ 4 + 2 * n
  unfolding start_of
  start_is = refl

  length_is : length s ≡ 4 + 2 * n + length (written_steps b.steps)
  length_is = omega (arith, R-length, length-append R behind)

  from_start : drop (4 + 2 * n) s ≡ written_steps b.steps
  from_start =
      let l = R-length in
      let e : 4 + 2 * n ≡ suc (suc (length R + 2)) = omega arith in
      ap (λ (j : ℕ). drop j s) e ∙ drop-append-add R behind 2

  steps_are : (valid_from s c (4 + 2 * n) ≡ true) × (steps_from s c (4 + 2 * n) ≡ b.steps)
  steps_are = steps_there b.steps s (4 + 2 * n) from_start (sym length_is)

  read_here : reading_of s ≡ b
  unfolding reading_of
  read_here = search (rules, table_is, home_is, list_is, count_is, start_is, steps_are)

  formed_here : c ≤ 4096 → well_formed s ≡ true
  unfolding well_formed
  formed_here e = search (rules, length_is, and_from, le-leb, start_is, count_is, steps_are)

  pub book_read : reading_of (written_book b) ≡ b
  book_read = rw book_is read_here

  pub book_formed : c ≤ 4096 → well_formed (written_book b) ≡ true
  book_formed few = rw book_is (formed_here few)
