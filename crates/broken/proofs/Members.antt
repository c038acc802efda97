-- The sets of views that the code makes are those of the definitions, bit by bit; notes owed are of those views. Assumes nothing.
use Rattle.std.proofs.Common.{ℕ, zero, suc, ◌≡◌, ◌+◌, ◌/◌, ◌%◌, ◌^◌, ◌≤◌, ◌<◌, ◌&&◌, ◌||◌, Bool, true, false, not, List, get_or, leb, eqb, ltb, refl, sym, ap, ap₂, ◌∙◌, arith}
use borrow.Author.Tests.{eqb-true, eqb-false, eq-eqb, lt-ltb, le-ltb, ne_eqb, not-false}
use Rattle.std.specs.Cmp.{both_ways}
use Rattle.std.specs.Int.Bits.{bit_or}
use lib.Bits.{or_lt}
use Rattle.std.proofs.lemmas.Nat.Bits.{same_from_bits_below}
use Rattle.protocol.specs.Words.{pick, bit, joined, all, all_below}
use Rattle.protocol.specs.Slots.{no_view, no_entry, no_store, status_number}
use Rattle.protocol.specs.Broken.{note_fine, notes_fine, store_fine, viewlinks_fine, blank_store}
use Rattle.protocol.specs.declared.View.{View}
use Rattle.protocol.specs.declared.Entry.{Entry}
use Rattle.protocol.specs.declared.Store.{Store}
use Rattle.unbroken.proofs.Laws.Bits.{bit_none, or_bit, joined_bit}
use Rattle.unbroken.proofs.Laws.Every.{below_at, below_each}
use Rattle.unbroken.proofs.Laws.Tests.{or_else, or_of, by_test}
use Rattle.std.proofs.Math.Bool.{and-false, and-true, or-false}
use Rattle.std.proofs.lemmas.Bool.{not_from_true}
use native.Mathlib.Decide.{dec_lt}
use Rattle.broken.specs.Sets.{store_noted}
use Rattle.broken.proofs.Words.{all_same}

-- a loop that joins those of which p holds
pub record Joining (p : ℕ → Bool) (set i : ℕ) : Type 0 where
  pub low : i ≤ 32
  pub bits : (v : ℕ) → bit set v ≡ (ltb v i && p v)

pub join_start : (p : ℕ → Bool) → Joining p 0 0
join_start p = record { low = omega arith; bits = λ v. bit_none v ∙ sym (ap (λ b. b && p v) (le-ltb v 0 (omega arith))) }

picked : (b : Bool) (set i v : ℕ) → bit (pick b (joined set i) set) v ≡ (bit set v || (b && eqb i v))
picked true set i v = joined_bit set i v
picked false set i v = sym (or-false (bit set v))

-- those below i of which p holds, with i if p holds of it, are those below i + 1
one_more : (p : ℕ → Bool) (i v : ℕ) → ((ltb v i && p v) || (p i && eqb i v)) ≡ (ltb v (i + 1) && p v)
one_more p i v =
    elim (dec_lt v i) [
      | yes q ↦ simp (lt-ltb v i q, lt-ltb v (i + 1) (omega arith), ne_eqb i v (λ e. omega arith), and-false, or-false)
      | no q ↦ elim (dec_lt i v) [
        | yes r ↦ simp (le-ltb v i (omega arith), le-ltb v (i + 1) (omega arith), ne_eqb i v (λ e. omega arith), and-false)
        | no r ↦ (let e : v ≡ i = omega arith in rw e (simp (le-ltb i i (omega arith), lt-ltb i (i + 1) (omega arith), eq-eqb i i refl, and-true)))
      ]
    ]

pub join_step : {p : ℕ → Bool} {set i next : ℕ} → Joining p set i → i < 32 → next ≡ pick (p i) (joined set i) set → Joining p next (i + 1)
join_step {p} {set} {i} {next} h b e = record { low = omega arith; bits = λ v. ap (λ n. bit n v) e ∙ picked (p i) set i v ∙ ap (λ b. b || (p i && eqb i v)) (h.bits v) ∙ one_more p i v }

pub join_end : {p : ℕ → Bool} {set i : ℕ} → Joining p set i → 32 ≤ i → (v : ℕ) → bit set v ≡ (ltb v 32 && p v)
join_end {p} {set} {i} h b v = let e : i ≡ 32 = omega (arith, h.low) in h.bits v ∙ ap (λ n. ltb v n && p v) e

-- numbers of 32 bits with the same bits are the same
digit : (a b : ℕ) → eqb (a % 2) 1 ≡ eqb (b % 2) 1 → a % 2 ≡ b % 2
digit a b e =
    by_test (eqb (a % 2) 1)
    (λ t. eqb-true (a % 2) 1 t ∙ sym (eqb-true (b % 2) 1 (sym e ∙ t)))
    (λ t. let x = eqb-false (a % 2) 1 t in let y = eqb-false (b % 2) 1 (sym e ∙ t) in omega arith)

-- a set joined with another is that one exactly if it is in it
pub notes_inside : (may owed : ℕ) → may < 4294967296 → owed < 4294967296 → eqb (bit_or owed may) may ≡ notes_fine (bit may) owed
unfolding notes_fine
notes_inside may owed h k =
    both_ways (eqb (bit_or owed may) may) (all_below 32 (note_fine (bit may) owed))
    (λ e. below_each 32 (note_fine (bit may) owed) (λ v l. or_of (not (bit owed v)) (bit may v) (λ n.
    ap (λ (x : ℕ). bit x v) (sym (eqb-true (bit_or owed may) may e)) ∙ (or_bit owed may v ∙ ap (λ (t : Bool). t || bit may v) (not-false (bit owed v) n)))))
    (λ e. eq-eqb (bit_or owed may) may (same_from_bits_below 32 (bit_or owed may) may (or_lt 32 owed may k h) h (λ j l.
    digit (bit_or owed may / 2 ^ j) (may / 2 ^ j) (or_bit owed may j ∙ by_test (bit owed j)
    (λ t. ap (λ (x : Bool). x || bit may j) t ∙ sym (or_else (not (bit owed j)) (bit may j) (below_at 32 (note_fine (bit may) owed) e j l) (not_from_true (bit owed j) t)))
    (λ t. ap (λ (x : Bool). x || bit may j) t)))))

below_same : (n : ℕ) (p q : ℕ → Bool) → ((v : ℕ) → v < n → p v ≡ q v) → all_below n p ≡ all_below n q
unfolding all_below
below_same zero p q f = refl
below_same (suc n) p q f = ap₂ ◌&&◌ (below_same n p q (λ v h. f v (omega arith))) (f n (omega arith))

notes_same : (may : ℕ → Bool) (set owed : ℕ) → ((v : ℕ) → bit set v ≡ (ltb v 32 && may v)) → notes_fine (bit set) owed ≡ notes_fine may owed
unfolding notes_fine
notes_same may set owed e =
    below_same 32 (note_fine (bit set) owed) (note_fine may owed) (λ v h. ap (λ (t : Bool). not (bit owed v) || t) (e v ∙ ap (λ (b : Bool). b && may v) (lt-ltb v 32 h)))

-- a store whose notes are of the views in the sets
pub stores_same : (stores made : ℕ) (views : List View) (entries : List Entry) (acked uacked : ℕ)
    → ((v : ℕ) → bit acked v ≡ (ltb v 32 && leb 2 (get_or views v no_view).phase))
    → ((v : ℕ) → bit uacked v ≡ (ltb v 32 && leb 1 (status_number (get_or entries v no_entry).status)))
    → (l : List Store) → all (store_noted acked uacked stores made) l ≡ all (store_fine stores made views entries) l
unfolding store_fine
stores_same stores made views entries acked uacked e f l =
    all_same (store_noted acked uacked stores made) (store_fine stores made views entries) l no_store (λ p h. let s = get_or l p no_store in
    ap₂ (λ (a b : Bool). (ltb p stores || blank_store s) && a && b && viewlinks_fine stores made p s.viewlinks && viewlinks_fine stores made p s.keptlinks)
    (notes_same (λ v. leb 2 (get_or views v no_view).phase) acked s.acksowed e)
    (notes_same (λ v. leb 1 (status_number (get_or entries v no_entry).status)) uacked s.uacksowed f))
