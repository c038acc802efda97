-- The lines of the views, written one after another behind the counts, are the listing, which fits. Assumes nothing.
use Prim.Native.Nat.{ℕ, ◌+◌}
use mathlib.Core.Path.{◌≡◌, refl, sym, ap, ◌∙◌}
use mathlib.Core.List.{List, [], ◌∷◌}
use native.Mathlib.Numerals.{add-one}
use Rattle.protocol.specs.declared.State.{State}
use Rattle.protocol.specs.Listing.{decimal, refused_line, counts_line, view_line, lines_to, listing_of}
use Rattle.lending.specs.Text.{wrote}
use Rattle.lending.proofs.Appending.{wrote_append}
use Rattle.listing.proofs.Whole.{listing_shown, refusal_shown}

pub lines_none : (m : State) (text : List ℕ) → text ≡ wrote 1024 text (lines_to m 0)
unfolding lines_to wrote
lines_none m text = refl

pub lines_more : (m : State) (text : List ℕ) (v : ℕ) → wrote 1024 (wrote 1024 text (lines_to m v)) (view_line m v) ≡ wrote 1024 text (lines_to m (v + 1))
unfolding lines_to
lines_more m text v = rw add-one (sym (wrote_append 1024 text (lines_to m v) (view_line m v)))

pub lines_all : (m : State) (steps taken v : ℕ) → v ≡ 32
    → wrote 1024 (wrote 1024 [] (counts_line m.stores m.actors m.made steps taken)) (lines_to m v) ≡ listing_of m steps taken
unfolding listing_of
lines_all m steps taken v e =
    ap (λ (k : ℕ). wrote 1024 (wrote 1024 [] (counts_line m.stores m.actors m.made steps taken)) (lines_to m k)) e
    ∙ sym (wrote_append 1024 [] (counts_line m.stores m.actors m.made steps taken) (lines_to m 32)) ∙ listing_shown m steps taken

-- `refused `, the number, a line feed
pub refused_parts : (n : ℕ)
    → wrote 1024 (wrote 1024 (wrote 1024 [] (114 ∷ 101 ∷ 102 ∷ 117 ∷ 115 ∷ 101 ∷ 100 ∷ 32 ∷ [])) (decimal n)) (10 ∷ []) ≡ refused_line n
unfolding wrote refused_line
refused_parts n = sym (wrote_append 1024 (wrote 1024 [] (114 ∷ 101 ∷ 102 ∷ 117 ∷ 115 ∷ 101 ∷ 100 ∷ 32 ∷ [])) (decimal n) (10 ∷ [])) ∙ refusal_shown n
