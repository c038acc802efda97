-- A loop that fills an array place by place has filled it with `table f n`. The invariant: what is filled is the table so far. Assumes nothing.
use Prim.Native.Nat.{ℕ, ◌+◌, ◌≤◌, ◌<◌}
use mathlib.Core.Path.{◌≡◌, refl}
use mathlib.Core.List.{List}
use native.Mathlib.Numerals.{add-one}
use native.Mathlib.Omega.{arith}
use native.Mathlib.Nat.{le_antisymm}
use lib.ListN.{length, take, set, length-set}
use lib.Seq.{take-suc-set, take_all}
use Rattle.std.proofs.Common.{rules}
use Rattle.protocol.specs.Words.{table}

pub record Filled {A : Type 0} (f : ℕ → A) (n : ℕ) (l : List A) (i : ℕ) : Type 0 where
  pub low : i ≤ n
  pub long : length l ≡ n
  pub same : take i l ≡ table f i

pub fill_start : {A : Type 0} (f : ℕ → A) (n : ℕ) (l : List A) → length l ≡ n → Filled f n l 0
unfolding table
fill_start f n l e = record { low = omega arith; long = e; same = refl }

pub fill_step : {A : Type 0} {f : ℕ → A} {n : ℕ} {l : List A} {i : ℕ} {a : A} → Filled f n l i → i < n → a ≡ f i → Filled f n (set l i a) (i + 1)
unfolding table
fill_step e f g = search (rules, length-set, add-one, take-suc-set)

pub fill_end : {A : Type 0} {f : ℕ → A} {n : ℕ} {l : List A} {i : ℕ} → Filled f n l i → n ≤ i → l ≡ table f n
fill_end e f = search (rules, le_antisymm, take_all)
