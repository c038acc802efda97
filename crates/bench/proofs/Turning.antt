-- Turns one by one, as a loop that counts them down makes them. Assumes nothing.
use Rattle.std.proofs.Common.{◌≡◌, ℕ, zero, suc, ◌-◌, ◌<◌, ◌≤◌, refl, ap, arith}
use Rattle.bench.specs.Turns.{turns, summed}

pub one_made : {A : Type 0} (f : ℕ → A → A) (n : ℕ) (a : A) → 0 < n → turns f n a ≡ turns f (n - 1) (f n a)
unfolding turns
one_made f zero a some = absurd (omega arith)
one_made f (suc n) a some = let e : n ≡ suc n - 1 = omega arith in ap (λ (k : ℕ). turns f k (f (suc n) a)) e

pub none_left : {A : Type 0} (f : ℕ → A → A) (n : ℕ) (a : A) → n ≤ 0 → turns f n a ≡ a
unfolding turns
none_left f zero a none = refl
none_left f (suc n) a none = absurd (omega arith)

-- where a call leaves what it was given
pub same_turns : {A : Type 0} (a : A) (told : ℕ → ℕ) (n sum : ℕ)
    → (turns {A = A × ℕ} (λ left x. (x.0, summed x.1 (told left))) n (a, sum)).1 ≡ turns (λ left sum. summed sum (told left)) n sum
unfolding turns
same_turns a told zero sum = refl
same_turns a told (suc n) sum = same_turns a told n (summed sum (told (suc n)))
