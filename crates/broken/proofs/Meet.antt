-- A loop that tests the elements of a list, marks each, and leaves at the first that fails, computes `all_met p next marks 0 l`, and the
-- marks after l. The invariant: what is left from here gives what all gives from the start. Assumes nothing.
use Prim.Native.Nat.{ℕ, suc, ◌+◌, ◌≤◌, ◌<◌}
use mathlib.Core.Path.{◌≡◌, refl, sym, ap, ◌∙◌}
use mathlib.Core.Bool.{Bool, true, false, ◌&&◌}
use mathlib.Core.List.{List}
use native.Mathlib.Numerals.{add-one}
use native.Mathlib.Omega.{arith}
use lib.ListN.{length, drop, get_or, drop_of_length-le}
use lib.Seq.{drop-cons}
use Rattle.broken.specs.Marks.{all_met, marks_after}

pub record Meeting {A : Type 0} (d : A) (p : ℕ → ℕ → A → Bool) (next : ℕ → A → ℕ) (l : List A) (before n i marks : ℕ) : Type 0 where
  pub low : i ≤ n
  pub long : length l ≡ n
  pub fine : all_met p next marks i (drop i l) ≡ all_met p next before 0 l
  pub after : marks_after next marks (drop i l) ≡ marks_after next before l

pub meet_start : {A : Type 0} (d : A) (p : ℕ → ℕ → A → Bool) (next : ℕ → A → ℕ) (l : List A) (before n : ℕ) → length l ≡ n → Meeting d p next l before n 0 before
meet_start d p next l before n e = record { low = omega arith; long = e; fine = refl; after = refl }

-- the test of the rest is the test of its first element and of what follows
first : {A : Type 0} {d : A} {p : ℕ → ℕ → A → Bool} {next : ℕ → A → ℕ} {l : List A} {before n i marks : ℕ} → Meeting d p next l before n i marks → i < n → (t : Bool) → p marks i (get_or l i d) ≡ t
    → (t && all_met p next (next marks (get_or l i d)) (i + 1) (drop (suc i) l)) ≡ all_met p next before 0 l
unfolding all_met
first {A} {d} {p} {next} {l} {before} {n} {i} {marks} h b t e =
    let j : i < length l = omega (arith, h.long) in
    sym (ap (all_met p next marks i) (drop-cons l i d j) ∙ ap (λ (t : Bool). t && all_met p next (next marks (get_or l i d)) (i + 1) (drop (suc i) l)) e) ∙ h.fine

pub meet_step : {A : Type 0} {d : A} {p : ℕ → ℕ → A → Bool} {next : ℕ → A → ℕ} {l : List A} {before n i marks more : ℕ} → Meeting d p next l before n i marks → i < n → p marks i (get_or l i d) ≡ true → more ≡ next marks (get_or l i d)
    → Meeting d p next l before n (i + 1) more
unfolding marks_after
meet_step {A} {d} {p} {next} {l} {before} {n} {i} {marks} h b e f =
    let j : i < length l = omega (arith, h.long) in
    record {
      low = omega arith;
      long = h.long;
      fine = rw (add-one, f) (rw add-one at (first h b true e));
      after = rw (add-one, f) (sym (ap (marks_after next marks) (drop-cons l i d j)) ∙ h.after);
    }

pub meet_stop : {A : Type 0} {d : A} {p : ℕ → ℕ → A → Bool} {next : ℕ → A → ℕ} {l : List A} {before n i marks : ℕ} → Meeting d p next l before n i marks → i < n → p marks i (get_or l i d) ≡ false → false ≡ all_met p next before 0 l
meet_stop h b e = first h b false e

pub meet_end : {A : Type 0} {d : A} {p : ℕ → ℕ → A → Bool} {next : ℕ → A → ℕ} {l : List A} {before n i marks : ℕ} → Meeting d p next l before n i marks → n ≤ i → true ≡ all_met p next before 0 l
unfolding all_met
meet_end {A} {d} {p} {next} {l} {before} {n} {i} {marks} h b =
    let j : length l ≤ i = omega (arith, h.long) in
    sym (ap (all_met p next marks i) (drop_of_length-le l j)) ∙ h.fine

pub meet_marks : {A : Type 0} {d : A} {p : ℕ → ℕ → A → Bool} {next : ℕ → A → ℕ} {l : List A} {before n i marks : ℕ} → Meeting d p next l before n i marks → n ≤ i → marks ≡ marks_after next before l
unfolding marks_after
meet_marks {A} {d} {p} {next} {l} {before} {n} {i} {marks} h b =
    let j : length l ≤ i = omega (arith, h.long) in
    sym (ap (marks_after next marks) (drop_of_length-le l j)) ∙ h.after
