-- What a text is after bytes were appended. Assumes nothing.
use Prim.Native.Nat.{ℕ, ◌+◌, ◌-◌, ◌≤◌, ◌<◌, min}
use mathlib.Core.Path.{◌≡◌, refl, sym, ap, ◌∙◌}
use mathlib.Core.List.{List, [], ◌∷◌, ◌++◌, append_assoc}
use native.Mathlib.Numerals.{add-one}
use native.Mathlib.Omega.{arith}
use lib.ListN.{length, take, length-append}
use borrow.Author.Tests.{lt-ltb, le-ltb}
use Rattle.std.proofs.Common.{⊎_elim}
use Rattle.std.proofs.lemmas.Bool.{cases_lt}
use Rattle.lending.specs.Text.{put_of, wrote}

-- bytes written in two pieces are the bytes written at once
pub wrote_append : (room : ℕ) (text xs ys : List ℕ) → wrote room text (xs ++ ys) ≡ wrote room (wrote room text xs) ys
unfolding wrote
wrote_append room text [] ys = refl
wrote_append room text (x ∷ xs) ys = wrote_append room (put_of room text x) xs ys

append_nil : (xs : List ℕ) → xs ++ [] ≡ xs
append_nil [] = refl
append_nil (x ∷ xs) = ap (λ (l : List ℕ). x ∷ l) (append_nil xs)

-- into a full text goes nothing
wrote_full : (room : ℕ) (text bytes : List ℕ) → room ≤ length text → wrote room text bytes ≡ text
unfolding wrote put_of
wrote_full room text [] h = refl
wrote_full room text (b ∷ bytes) h = rw (le-ltb (length text) room h) (wrote_full room text bytes h)

-- as many of the bytes as there is room for are behind the text
pub wrote_front : (room : ℕ) (text bytes : List ℕ) (n : ℕ) → n ≡ min (room - length text) (length bytes) → text ++ take n bytes ≡ wrote room text bytes
unfolding wrote put_of
wrote_front room text [] n h = let none : n ≡ 0 = omega arith in rw none (append_nil text)
wrote_front room text (b ∷ bytes) n h =
    ⊎_elim
    (λ (fits : length text < room).
    let k : ℕ = min (room - (length text + 1)) (length bytes) in
    let next : n ≡ k + 1 = omega arith in
    let rest : k ≡ min (room - length (text ++ (b ∷ []))) (length bytes) = simp length-append refl in
    rw (lt-ltb (length text) room fits, next, add-one) (sym (append_assoc text (b ∷ []) (take k bytes)) ∙ wrote_front room (text ++ (b ∷ [])) bytes k rest))
    (λ (full : room ≤ length text).
    let none : n ≡ 0 = omega arith in
    rw (none, wrote_full room text (b ∷ bytes) full) (append_nil text))
    (cases_lt (length text) room)

-- all of them, where they fit
pub wrote_whole : (room : ℕ) (text bytes : List ℕ) → length text + length bytes ≤ room → wrote room text bytes ≡ text ++ bytes
unfolding wrote put_of
wrote_whole room text [] h = sym (append_nil text)
wrote_whole room text (b ∷ bytes) h =
    let more : length (text ++ (b ∷ [])) + length bytes ≤ room = simp length-append (omega arith) in
    rw (lt-ltb (length text) room (omega arith)) (wrote_whole room (text ++ (b ∷ [])) bytes more ∙ append_assoc text (b ∷ []) bytes)
