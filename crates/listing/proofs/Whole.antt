-- Every listing fits, and so what is written is the listing: a number has at most five digits, so a line at most thirty
-- bytes. Assumes nothing.
use Prim.Native.Nat.{ℕ, zero, suc, ◌*◌, ◌≤◌}
use mathlib.Core.Path.{sym, ap, ◌∙◌}
use mathlib.Core.Bool.{Bool, true, false}
use mathlib.Core.List.{List, []}
use native.Mathlib.Omega.{arith}
use lib.ListN.{length, length-append}
use lib.Dec.{ltb, eqb, leb}
use Rattle.lending.proofs.Appending.{wrote_whole}
use Rattle.protocol.specs.Words.{pick}
use Rattle.protocol.specs.declared.State.{State}
use Rattle.protocol.specs.Listing.{decimal, large, refused_line, counts_line, link_text, place_text, line_of, view_line, lines_to, listing_of}
use Rattle.listing.specs.Whole.{ListingShown, ListingLength, RefusalShown, OneListing, OneRefusal}

pick_short : (b : Bool) (xs ys : List ℕ) (k : ℕ) → length xs ≤ k → length ys ≤ k → length (pick b xs ys) ≤ k
pick_short true xs ys k h j = h
pick_short false xs ys k h j = j

large_short : (n : ℕ) → length (large n) ≤ 5
unfolding large
large_short n = pick_short (ltb n 10000) _ _ 5 (omega arith) (omega arith)

decimal_short : (n : ℕ) → length (decimal n) ≤ 5
unfolding decimal
decimal_short n =
    pick_short (ltb n 10) _ _ 5 (omega arith)
    (pick_short (ltb n 100) _ _ 5 (omega arith) (pick_short (ltb n 1000) _ _ 5 (omega arith) (large_short n)))

link_short : (held : ℕ) → length (link_text held) ≤ 5
unfolding link_text
link_short held = pick_short (eqb held 0) _ _ 5 (omega arith) (decimal_short _)

place_short : (phase store held : ℕ) → length (place_text phase store held) ≤ 12
unfolding place_text
place_short phase store held =
    pick_short (eqb phase 0) _ _ 12 (omega arith)
    (simp length-append (omega (arith, decimal_short store, link_short held)))

line_short : (key role phase store held : ℕ) → length (line_of key role phase store held) ≤ 30
unfolding line_of
line_short key role phase store held =
    simp length-append
    (omega (arith, decimal_short key, decimal_short role, decimal_short phase, place_short phase store held))

view_short : (m : State) (v : ℕ) → length (view_line m v) ≤ 30
unfolding view_line
view_short m v = pick_short (leb (m.made * 2) v) _ _ 30 (omega arith) (line_short _ _ _ _ _)

lines_short : (m : State) (v : ℕ) → length (lines_to m v) ≤ 30 * v
unfolding lines_to
lines_short m zero = omega arith
lines_short m (suc v) = simp length-append (omega (arith, lines_short m v, view_short m v))

counts_short : (stores actors made steps taken : ℕ) → length (counts_line stores actors made steps taken) ≤ 30
unfolding counts_line
counts_short stores actors made steps taken =
    simp length-append
    (omega (arith, decimal_short stores, decimal_short actors, decimal_short made, decimal_short steps, decimal_short taken))

listing_short : (m : State) (steps taken : ℕ) → length (listing_of m steps taken) ≤ 1024
unfolding listing_of
listing_short m steps taken =
    simp length-append (omega (arith, counts_short m.stores m.actors m.made steps taken, lines_short m 32))

pub listing_shown : ListingShown
listing_shown m steps taken = wrote_whole 1024 [] (listing_of m steps taken) (omega (arith, listing_short m steps taken))

pub listing_length : ListingLength
listing_length m steps taken = (ap length (listing_shown m steps taken), listing_short m steps taken)

pub refusal_shown : RefusalShown
unfolding refused_line
refusal_shown n = wrote_whole 1024 [] (refused_line n) (simp length-append (omega (arith, decimal_short n)))

pub one_listing : OneListing
one_listing m steps taken r s p q = λ i. record { items = (p ∙ sym q) i }

pub one_refusal : OneRefusal
one_refusal n r s p q = λ i. record { items = (p ∙ sym q) i }
