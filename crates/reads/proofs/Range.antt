-- Within range is written as bytes, what is read from bytes is within range, and a book is short. Assumes nothing.
use Rattle.std.specs.Prelude.{Some, None, Option}
use Prim.Native.Nat.{ℕ, zero, suc, ◌+◌, ◌*◌, ◌≤◌, ◌<◌}
use mathlib.Core.Path.{◌≡◌, refl, sym, ap, subst, ◌∙◌}
use mathlib.Core.Logic.{⊎_elim}
use mathlib.Core.Bool.{true, false, false≢true}
use mathlib.Core.List.Memᴰ
use mathlib.Core.List.{List, [], ◌∷◌, ◌++◌, map, Memᴰ}
use native.Mathlib.Omega.{arith}
use lib.Dec.{leb, ltb}
use lib.ListN.{length}
use lib.Pow.{are_bytes}
use borrow.Author.Tests.{lt-ltb, leb-true, eqb-true}
use Rattle.std.proofs.lemmas.Bool.{and_from, and_parts}
use Rattle.std.proofs.Common.{rules}
use Rattle.protocol.specs.Words.{table}
use Rattle.protocol.specs.declared.Step.{Step}
use Rattle.protocol.specs.declared.Step.TheVariants.{Send}
use Rattle.protocol.specs.Book.{Reading, byte, width_of, read_step, on_read, valid_from, steps_from, start_of, count_of, well_formed, reading_of}
use Rattle.protocol.specs.Write.{written, written_steps, written_rows, written_book}
use Rattle.unbroken.proofs.Laws.Every.{length_table}
use Rattle.reads.proofs.Formed.{valid_all, count_steps}
use Rattle.reads.proofs.Reading.{width_low}
use Rattle.reads.proofs.Step.{byte_low, from, step_same}
use Rattle.reads.proofs.Again.{Found, found}
use Rattle.keeps.specs.Applies.{Thing, value_of}
use Rattle.keeps.proofs.Which.{kinds}
use Rattle.reads.specs.Reading.{StepInRange, InRange, BookIsShort}

-- bytes, by their numbers
abbrev Low : List ℕ → Type 0
Low [] = Unit
Low (x ∷ l) = (x < 256) × Low l

low_bytes : (l : List ℕ) → Low l → are_bytes l ≡ true
low_bytes [] h = refl
low_bytes (x ∷ l) h = and_from (ltb x 256) (are_bytes l) (lt-ltb x 256 h.0) (low_bytes l h.1)

bytes_append : (l k : List ℕ) → are_bytes l ≡ true → are_bytes k ≡ true → are_bytes (l ++ k) ≡ true
bytes_append [] k e f = f
bytes_append (x ∷ l) k e f = and_from (ltb x 256) (are_bytes (l ++ k)) (and_parts (ltb x 256) (are_bytes l) e).0 (bytes_append l k (and_parts (ltb x 256) (are_bytes l) e).1 f)

things_low : (l : List Thing) → ((x : Thing) → Memᴰ x l → value_of x < 256) → Low (map value_of l)
things_low [] f = tt
things_low (x ∷ l) f = (f x (Memᴰ.head refl), things_low l (λ y h. f y (Memᴰ.tail h)))

low_things : (l : List Thing) → Low (map value_of l) → (x : Thing) → Memᴰ x l → value_of x < 256
low_things [] f x h = absurd (Memᴰ.not-nil h)
low_things (y ∷ l) f x h = ⊎_elim (λ e. subst (λ (z : Thing). value_of z < 256) (sym e) f.0) (λ g. low_things l f.1 x g) (Memᴰ.cases_cons h)

-- a step is within range exactly if it is written as bytes
module _ (from to own word causes : ℕ) where
  abbrev send : Step
  send = Send from to own word causes

  send_low : StepInRange send → Low (written send)
  send_low e = search (rules, things_low)

  send_range : Low (written send) → StepInRange send
  send_range e = search (rules, low_things)

range_low : (s : Step) → StepInRange s → Low (written s)
range_low s e = search (rules, kinds, send_low, things_low)

low_range : (s : Step) → Low (written s) → StepInRange s
low_range s e = search (rules, kinds, send_range, low_things)

steps_bytes : (l : List Step) → ((x : Step) → Memᴰ x l → StepInRange x) → are_bytes (written_steps l) ≡ true
unfolding written_steps
steps_bytes [] f = refl
steps_bytes (x ∷ l) f = bytes_append (written x) (written_steps l) (low_bytes (written x) (range_low x (f x (Memᴰ.head refl)))) (steps_bytes l (λ y h. f y (Memᴰ.tail h)))

rows_bytes : (homes lists : List ℕ) → are_bytes homes ≡ true → are_bytes lists ≡ true → are_bytes (written_rows homes lists) ≡ true
unfolding written_rows
rows_bytes [] lists e f = refl
rows_bytes (h ∷ hs) [] e f = refl
rows_bytes (h ∷ hs) (l ∷ ls) e f =
    and_from _ _ (and_parts (ltb h 256) (are_bytes hs) e).0 (and_from _ _ (and_parts (ltb l 256) (are_bytes ls) f).0 (rows_bytes hs ls (and_parts (ltb h 256) (are_bytes hs) e).1 (and_parts (ltb l 256) (are_bytes ls) f).1))

pub book_bytes : (b : Reading) → InRange b → are_bytes (written_book b) ≡ true
unfolding written_book
book_bytes b e = search (rules, and_from, lt-ltb, steps_bytes, bytes_append, rows_bytes)

-- what is read from bytes is within range
table_bytes : (f : ℕ → ℕ) (n : ℕ) → ((i : ℕ) → f i < 256) → are_bytes (table f n) ≡ true
unfolding table
table_bytes f zero h = refl
table_bytes f (suc n) h = bytes_append (table f n) (f n ∷ []) (table_bytes f n h) (low_bytes (f n ∷ []) (h n, tt))

module _ (s : List ℕ) (bs : are_bytes s ≡ true) where
  from_low : (i n : ℕ) → Low (from s i n)
  from_low i zero = tt
  from_low i (suc n) = (byte_low s bs i, from_low (i + 1) n)

  found_range : (at : ℕ) (step : Step) (next : ℕ) → read_step s at ≡ Some (step, next) → StepInRange step
  found_range at step next e =
      let h : Found s at step next = found s at step next e in
      let k : ℕ = byte s at in
      low_range step (subst Low (sym (sym (ap written h.made) ∙ step_same s bs (at + 1) k h.wide)) (byte_low s bs at, from_low (at + 1) (width_of k)))

  on_range : (n at : ℕ) (r : Option (Step × ℕ)) → read_step s at ≡ r → ((p : ℕ) (x : Step) → Memᴰ x (steps_from s n p) → StepInRange x) → (x : Step)
      → Memᴰ x (on_read r [] (λ step p. step ∷ steps_from s n p)) → StepInRange x
  on_range n at None e f x h = absurd (Memᴰ.not-nil h)
  on_range n at (Some (step, p)) e f x h = ⊎_elim (λ q. subst StepInRange (sym q) (found_range at step p e)) (λ g. f p x g) (Memᴰ.cases_cons h)

  all_range : (n at : ℕ) (x : Step) → Memᴰ x (steps_from s n at) → StepInRange x
  unfolding steps_from
  all_range zero at x h = absurd (Memᴰ.not-nil h)
  all_range (suc n) at x h = on_range n at (read_step s at) refl (all_range n) x h

  few_steps : well_formed s ≡ true → count_of s ≤ 4096
  unfolding well_formed
  few_steps v = leb-true (count_of s) 4096 (and_parts (leb (start_of s) (length s)) (leb (count_of s) 4096) (and_parts _ (valid_from s (count_of s) (start_of s)) v).0).1

  pub read_range : well_formed s ≡ true → InRange (reading_of s)
  unfolding reading_of
  read_range e = search (rules, length_table, byte_low, table_bytes, count_steps, few_steps, all_range)

-- a step takes ten bytes at most
on_short : (s : List ℕ) (n at : ℕ) (r : Option (Step × ℕ)) → read_step s at ≡ r → ((p : ℕ) → valid_from s n p ≡ true → length s ≤ p + 10 * n) → on_read r false (λ step p. valid_from s n p) ≡ true
    → length s ≤ at + 10 * suc n
on_short s n at None e f v = absurd (false≢true v)
on_short s n at (Some (step, p)) e f v = let h : Found s at step p = found s at step p e in omega (arith, f p v, h.next, width_low (byte s at))

valid_short : (s : List ℕ) (n at : ℕ) → valid_from s n at ≡ true → length s ≤ at + 10 * n
unfolding valid_from
valid_short s zero at v = omega (arith, eqb-true at (length s) v)
valid_short s (suc n) at v = on_short s n at (read_step s at) refl (valid_short s n) v

pub book_is_short : BookIsShort
unfolding start_of
book_is_short s bs v = omega (arith, valid_short s (count_of s) (start_of s) (valid_all s v), few_steps s bs v, byte_low s bs 1)
