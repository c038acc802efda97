-- The lines of a text are read back: a line feed ends each line and stands in none, and a number of two digits at most
-- is followed by a byte below the digits. Assumes nothing.
use Prim.Native.Nat.{ℕ, ◌+◌, ◌/◌, ◌%◌, ◌<◌, ◌≤◌}
use mathlib.Core.Path.{◌≡◌, refl, sym, ap, ◌∙◌}
use mathlib.Core.Bool.{Bool, true, false, ◌&&◌, not}
use mathlib.Core.List.{List, [], ◌∷◌, ◌++◌, map}
use native.Mathlib.Omega.{arith}
use native.Mathlib.Nat.{div-add-mod}
use native.Mathlib.Decide.{dec_lt}
use lib.Dec.{ltb, eqb}
use borrow.Author.Tests.{lt-ltb, le-ltb, ne_eqb}
use Rattle.std.proofs.lemmas.Bool.{and_from, and_parts, not_from_false}
use Rattle.protocol.specs.Listing.{decimal, glyph}
use Rattle.protocol.specs.Provn.{Line, document, prefix, entity, activity, was_generated_by, used, was_derived_from, end_document}
use Rattle.protocol.specs.Provn.{bytes, words_of, text_of}
use Rattle.chains.specs.Reading.{lines_in, number_in, behind, line_read}
use Rattle.chains.specs.Chains.{Each, none, more}

-- no byte is a line feed
pub plain : List ℕ → Bool
plain [] = true
plain (b ∷ line) = not (eqb b 10) && plain line

plain_append : (xs ys : List ℕ) → plain xs ≡ true → plain ys ≡ true → plain (xs ++ ys) ≡ true
unfolding plain
plain_append [] ys h k = k
plain_append (x ∷ xs) ys h k =
    and_from (not (eqb x 10)) (plain (xs ++ ys)) (and_parts (not (eqb x 10)) (plain xs) h).0
    (plain_append xs ys (and_parts (not (eqb x 10)) (plain xs) h).1 k)

plain_digit : (d : ℕ) → not (eqb (glyph d) 10) ≡ true
plain_digit d = not_from_false (eqb (glyph d) 10) (ne_eqb (glyph d) 10 (λ e. omega arith))

-- a number below 100 is one digit or two
pub one_digit : (n : ℕ) → n < 10 → decimal n ≡ glyph n ∷ []
unfolding decimal
one_digit n h = rw (lt-ltb n 10 h)

pub two_digits : (n : ℕ) → 10 ≤ n → n < 100 → decimal n ≡ glyph (n / 10) ∷ glyph (n % 10) ∷ []
unfolding decimal
two_digits n l h = rw (le-ltb n 10 l, lt-ltb n 100 h)

plain_number : (n : ℕ) → n < 100 → plain (decimal n) ≡ true
unfolding plain
plain_number n h =
    elim (dec_lt n 10) [
      | yes q ↦ rw (one_digit n q) (and_from _ true (plain_digit n) refl)
      | no q ↦ rw (two_digits n (omega arith) h) (and_from _ _ (plain_digit (n / 10)) (and_from _ true (plain_digit (n % 10)) refl))
    ]

module _ (n b : ℕ) (rest : List ℕ) (low : n < 100) (ends : ltb b 48 ≡ true) where
  number_read : number_in 0 (decimal n ++ (b ∷ rest)) ≡ n
  unfolding number_in
  number_read =
      elim (dec_lt n 10) [
        | yes q ↦ rw (one_digit n q) (simp (le-ltb (48 + n) 48 (omega arith), ends) (omega arith))
        | no q ↦ rw (two_digits n (omega arith) low) (simp (le-ltb (48 + n / 10) 48 (omega arith), le-ltb (48 + n % 10) 48 (omega arith), ends) (omega (arith, div-add-mod n 10)))
      ]

  number_behind : behind (decimal n ++ (b ∷ rest)) ≡ b ∷ rest
  unfolding behind
  number_behind =
      elim (dec_lt n 10) [
        | yes q ↦ rw (one_digit n q) (simp (le-ltb (48 + n) 48 (omega arith), ends))
        | no q ↦ rw (two_digits n (omega arith) low) (simp (le-ltb (48 + n / 10) 48 (omega arith), le-ltb (48 + n % 10) 48 (omega arith), ends))
      ]

-- a line that has no line feed in it and is read back
pub record Fair (line : Line) : Type 0 where
  pub one_line : plain (words_of line) ≡ true
  pub read : line_read (words_of line) ≡ line

pub fair_document : Fair document
unfolding plain words_of line_read
fair_document = record { one_line = refl; read = refl }

pub fair_prefix : Fair prefix
unfolding plain words_of line_read
fair_prefix = record { one_line = refl; read = refl }

pub fair_end : Fair end_document
unfolding plain words_of line_read
fair_end = record { one_line = refl; read = refl }

pub fair_entity : (i : ℕ) → i < 100 → Fair (entity i)
unfolding plain words_of line_read
fair_entity i h =
    record {
      one_line = plain_append (decimal i) (bytes ")") (plain_number i h) refl;
      read = ap entity (number_read i 41 [] h refl);
    }

pub fair_activity : (a : ℕ) → a < 100 → Fair (activity a)
unfolding plain words_of line_read
fair_activity a h =
    record {
      one_line = plain_append (decimal a) (bytes ",-,-)") (plain_number a h) refl;
      read = ap activity (number_read a 44 (bytes "-,-)") h refl);
    }

-- two numbers with a comma between
module _ (x y : ℕ) (h : x < 100) (k : y < 100) where
  plain_two : (between end : List ℕ) → plain between ≡ true → plain end ≡ true
      → plain (decimal x ++ (between ++ (decimal y ++ end))) ≡ true
  plain_two between end p q =
      plain_append (decimal x) _ (plain_number x h)
      (plain_append between _ p (plain_append (decimal y) end (plain_number y k) q))

  pub fair_generated : Fair (was_generated_by x y)
  unfolding plain words_of line_read
  fair_generated =
      record {
        one_line = plain_two (bytes ",r:a") (bytes ",-)") refl refl;
        read = rw (number_read x 44 (bytes "r:a" ++ (decimal y ++ bytes ",-)")) h refl, number_behind x 44 (bytes "r:a" ++ (decimal y ++ bytes ",-)")) h refl, number_read y 44 (bytes "-)") k refl);
      }

  pub fair_used : Fair (used x y)
  unfolding plain words_of line_read
  fair_used =
      record {
        one_line = plain_two (bytes ",r:i") (bytes ",-)") refl refl;
        read = rw (number_read x 44 (bytes "r:i" ++ (decimal y ++ bytes ",-)")) h refl, number_behind x 44 (bytes "r:i" ++ (decimal y ++ bytes ",-)")) h refl, number_read y 44 (bytes "-)") k refl);
      }

  pub fair_derived : Fair (was_derived_from x y)
  unfolding plain words_of line_read
  fair_derived =
      record {
        one_line = plain_two (bytes ",r:i") (bytes ")") refl refl;
        read = rw (number_read x 44 (bytes "r:i" ++ (decimal y ++ bytes ")")) h refl, number_behind x 44 (bytes "r:i" ++ (decimal y ++ bytes ")")) h refl, number_read y 41 [] k refl);
      }

-- the first line of a text ends at its line feed
first_line : (line rest : List ℕ) → plain line ≡ true → lines_in (line ++ (10 ∷ []) ++ rest) ≡ line ∷ lines_in rest
unfolding lines_in plain
first_line [] rest h = refl
first_line (b ∷ line) rest h =
    rw (not_true' (eqb b 10) (and_parts (not (eqb b 10)) (plain line) h).0, first_line line rest (and_parts (not (eqb b 10)) (plain line) h).1)
  where
    not_true' : (t : Bool) → not t ≡ true → t ≡ false
    not_true' true e = sym e
    not_true' false e = refl

pub lines_read : {lines : List Line} → Each Fair lines → map line_read (lines_in (text_of lines)) ≡ lines
unfolding text_of lines_in
lines_read none = refl
lines_read (more {x = line} {l = lines} f rest) =
    ap (map line_read) (first_line (words_of line) (text_of lines) f.one_line)
    ∙ simp (f.read, lines_read rest)
