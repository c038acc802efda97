-- What makes the promise of the listing the text itself: every listing fits, and what is written reads back.
use Rattle.std.specs.Prelude.{ℕ, ◌≤◌, ◌≡◌, List, length}
use Rattle.arrayvec.specs.ArrayVec.{ArrayVec, array_vec_len}
use Rattle.protocol.specs.declared.State.{State}
use Rattle.listing.specs.Text.{no_text, wrote}
use Rattle.protocol.specs.Listing.{refused_line, listing_of}

-- the bytes that are written
abbrev pub shown : ArrayVec ℕ → List ℕ
shown t = t.items

-- the listing of every machine value, after every run, is what the text shows
abbrev pub ListingShown : Type 0
ListingShown = (m : State) (steps taken : ℕ) → shown (wrote no_text (listing_of m steps taken)) ≡ listing_of m steps taken

-- and its length is the listing's, which the text has room for
abbrev pub ListingLength : Type 0
ListingLength =
    (m : State) (steps taken : ℕ) →
    (array_vec_len (wrote no_text (listing_of m steps taken)) ≡ length (listing_of m steps taken)) × (length (listing_of m steps taken) ≤ 1024)

abbrev pub RefusalShown : Type 0
RefusalShown = (n : ℕ) → shown (wrote no_text (refused_line n)) ≡ refused_line n

-- no two results can both satisfy a promise, which speaks of a text's bytes
abbrev pub OneListing : Type 0
OneListing =
    (m : State) (steps taken : ℕ) (r s : ArrayVec ℕ) →
    r.items ≡ listing_of m steps taken → s.items ≡ listing_of m steps taken → r ≡ s

abbrev pub OneRefusal : Type 0
OneRefusal = (n : ℕ) (r s : ArrayVec ℕ) → r.items ≡ refused_line n → s.items ≡ refused_line n → r ≡ s
