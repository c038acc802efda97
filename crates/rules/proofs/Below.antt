-- Tests of every number below n, and lists made place by place.
use Rattle.std.proofs.Common.{ℕ, zero, suc, ◌≡◌, ◌<◌, Bool, false, List, [], ◌∷◌, ◌++◌, map, length, get_or, refl, sym, ap, add-one, ◌∙◌, arith}
use Rattle.std.specs.List.{range_with_len}
use Rattle.std.proofs.lemmas.List.FromFn.{map-range_with_len_more, fill_by_all}
use Rattle.std.proofs.lemmas.Grind.{common_steps}
use Rattle.protocol.specs.Words.{table, all_below}

pub table_is_map : {A : Type 0} (f : ℕ → A) (n : ℕ) → table f n ≡ map f (range_with_len 0 n)
unfolding table
table_is_map f zero = refl
table_is_map f (suc n) =
    ap (λ xs. xs ++ (f n ∷ [])) (table_is_map f n) ∙ sym (map-range_with_len_more f 0 n n (omega arith))
    ∙ ap (λ k. map f (range_with_len 0 k)) (add-one n)

pub table_by_index : {A : Type 0} (f : ℕ → A) (xs : List A) (n : ℕ) (d : A) → length xs ≡ n → ((k : ℕ) → k < n → get_or xs k d ≡ f k) → xs ≡ table f n
table_by_index f xs n d long each = fill_by_all f xs n d long each ∙ sym (table_is_map f n)

pub below_false : (n : ℕ) (p : ℕ → Bool) (j : ℕ) → j < n → p j ≡ false → all_below n p ≡ false
unfolding all_below
below_false zero p j h e = absurd (omega arith)
below_false (suc n) p j h e = grind (arith, common_steps, below_false n p j)
