-- A list in which the places of one store are written, each alone, and no other: it is `on_places` of what it was.
use Prim.Native.Nat.{ℕ, suc, ◌+◌, ◌*◌, ◌/◌, ◌%◌, ◌≤◌, ◌<◌}
use mathlib.Core.Path.{◌≡◌, refl, sym, ap, subst, ◌∙◌}
use mathlib.Core.Bool.{false}
use mathlib.Core.List.{List}
use native.Mathlib.Omega.{arith}
use native.Mathlib.Decide.{ℕ_discrete, dec_lt}
use native.Mathlib.Nat.{mul_comm, suc-mul, mul-le-mul_right, mod-lt, div-add-mod', div-lt_iff_lt-mul}
use lib.Dec.{eqb}
use lib.ListN.{length, get_or}
use lib.Seq.{ext_get_or}
use borrow.Author.Tests.{eq-eqb, ne_eqb}
use Rattle.protocol.specs.Checkpoint.{sent_owed}
use Rattle.protocol.specs.Rule.{more}
use Rattle.protocol.specs.Words.{bit, pick}
use Rattle.protocol.specs.Sweep.{on_places}
use Rattle.unbroken.proofs.Places.{places_length, places_at}
use Rattle.unbroken.proofs.Laws.Bits.{bit_none}

-- the places of the store p below v are written
pub record Written {A : Type 0} (places p : ℕ) (f : ℕ → A → A) (none : A) (l₀ l : List A) (v : ℕ) : Type 0 where
  pub long : length l ≡ places * 8
  pub here : (u : ℕ) → u < v → get_or l (p * places + u) none ≡ f u (get_or l₀ (p * places + u) none)
  pub before : (at : ℕ) → at < p * places → get_or l at none ≡ get_or l₀ at none
  pub behind : (at : ℕ) → p * places + v ≤ at → get_or l at none ≡ get_or l₀ at none

module _ {A : Type 0} {places p : ℕ} {f : ℕ → A → A} {none : A} {l₀ l : List A} {v : ℕ} (h : Written places p f none l₀ l v) (all : v ≡ places) where
  abbrev was : ℕ → ℕ → A
  was q u = get_or l₀ (q * places + u) none

  at_place : (q u : ℕ) → q < 8 → u < places → Dec (q ≡ p) → get_or l (q * places + u) none ≡ pick (eqb q p) (f u (was q u)) (was q u)
  at_place q u hq hu (yes e) =
      let P : ℕ → Type 0 = λ i. get_or l (i * places + u) none ≡ f u (was i u) in
      subst P (sym e) (h.here u (omega arith)) ∙ sym (ap (λ b. pick b (f u (was q u)) (was q u)) (eq-eqb q p e))
  at_place q u hq hu (no d) = beside (dec_lt q p) ∙ sym (ap (λ b. pick b (f u (was q u)) (was q u)) (ne_eqb q p d))
    where
      beside : Dec (q < p) → get_or l (q * places + u) none ≡ was q u
      beside (yes b) = let row : suc q * places ≤ p * places = mul-le-mul_right places b in h.before _ (omega (arith, suc-mul q places))
      beside (no b) =
          let above : suc p ≤ q = omega (arith, b, d) in
          let row : suc p * places ≤ q * places = mul-le-mul_right places above in
          h.behind _ (omega (arith, suc-mul p places))

  pub all_written : l ≡ on_places places p f none l₀
  all_written =
      ext_get_or none l (on_places places p f none l₀) (h.long ∙ sym (places_length places p f none l₀)) (λ at k.
      let some : 0 < places = omega (arith, h.long) in
      let low : at < 8 * places = omega (arith, h.long, mul_comm 8 places) in
      let q = at / places in
      let u = at % places in
      let hq : q < 8 = (div-lt_iff_lt-mul some).1 low in
      let hu : u < places = mod-lt at some in
      let back : at ≡ q * places + u = sym (div-add-mod' at places) in
      ap (λ (i : ℕ). get_or l i none) back
      ∙ (at_place q u hq hu (ℕ_discrete q p) ∙ (sym (places_at places p f none l₀ q u hq hu) ∙ ap (λ (i : ℕ). get_or (on_places places p f none l₀) i none) (sym back))))

-- where nothing is owed each place is what it was
pub none_owed : (owed p : ℕ) (copies : List ℕ) → length copies ≡ 32 * 8 → owed ≡ 0 → copies ≡ sent_owed owed p copies
none_owed owed p copies long e =
    let is : (u : ℕ) → bit owed u ≡ false = λ u. ap (λ (s : ℕ). bit s u) e ∙ bit_none u in
    all_written {f = λ u n. pick (bit owed u) (more n) n}
    (record {
      long = long;
      here = λ u b. sym (ap (λ t. pick t (more (get_or copies (p * 32 + u) 0)) (get_or copies (p * 32 + u) 0)) (is u));
      before = λ at b. refl;
      behind = λ at b. refl;
    })
    refl
