-- The rules look at sixteen places, with nothing behind the last key; the code looks at the keys. By induction on the places.
use Rattle.std.proofs.Common.{ℕ, zero, suc, ◌≡◌, ◌+◌, ◌-◌, ◌≤◌, ◌<◌, ◌&&◌, Bool, true, false, List, [], ◌∷◌, length, get_or, take, replicate, reverse, refl, sym, ap, ◌∙◌, arith}
use Rattle.std.specs.Prelude.{count_by, find, eqb}
use Rattle.std.specs.List.{list_all}
use Rattle.std.specs.Option.{option_map_or}
use Rattle.std.proofs.Math.Seq.{take-suc}
use Rattle.std.proofs.lemmas.List.{reverse-append, take_all, get_or_append_left}
use Rattle.std.proofs.lemmas.Bool.{le-ltb, lt-ltb}
use Rattle.std.proofs.Math.Bool.{and-true}
use Rattle.std.proofs.lemmas.List.Sums.{count_by_more_yes, count_by_more_no}
use Rattle.std.proofs.lemmas.List.Folds.{list_all_more}
use native.Mathlib.Decide.{dec_lt}
use Rattle.protocol.specs.Words.{one, all_below}
use Rattle.protocol.specs.Slots.{no_contents}
use Rattle.protocol.specs.declared.State.{State}
use Rattle.protocol.specs.declared.Contents.{Contents}
use Rattle.pairing.specs.Pair.{counted, is_a, last_sender, met_at, record_of, sender_of}
use Rattle.protocol.specs.Refusal.{number}
use Rattle.protocol.specs.declared.refusal.Refusal.{Refusal}
use Rattle.protocol.specs.declared.refusal.Refusal.TheVariants.{BrokenMachine, NotInMachine, SameEnds, NoKeyLeft, StoreDown, StoreUp, NotReady, NotListed, UnknownCause, MalformedBook, IllegalSetup, FewAnswers, OpenInteraction, ShortBuffer}
use Rattle.unbroken.proofs.Laws.Tests.{by_test}
use Rattle.unbroken.proofs.Laws.Every.{table_at}
use Rattle.walk.specs.Told.{padded}
use Rattle.pair_rule.specs.declared.kinds.Kind.{Kind}
use Rattle.pair_rule.specs.declared.kinds.Kind.TheVariants.{Weights, Scaler, Forecast}
use Rattle.pair_rule.specs.Told.{records_met, walked, kind_number}

count_more : (q : ℕ → Bool) (keys : List ℕ) (n : ℕ) → n < length keys → count_by q (take (suc n) keys) ≡ count_by q (take n keys) + one (q (get_or keys n 0))
count_more q keys n b =
    let s : suc n ≡ n + 1 = omega arith in
    by_test (q (get_or keys n 0))
    (λ e. rw s (omega (arith, count_by_more_yes q keys n 0 b e, ap one e)))
    (λ e. rw s (omega (arith, count_by_more_no q keys n 0 b e, ap one e)))

all_more : (q : ℕ → Bool) (keys : List ℕ) (n : ℕ) → n < length keys → list_all q (take (suc n) keys) ≡ list_all q (take n keys) && q (get_or keys n 0)
all_more q keys n b = let s : suc n ≡ n + 1 = omega arith in rw s (list_all_more q keys n 0 b)

-- a take beyond the end is the list
whole : (keys : List ℕ) (n : ℕ) → length keys ≤ n → take (suc n) keys ≡ take n keys
whole keys n h = take_all (suc n) keys (omega arith) ∙ sym (take_all n keys h)

module _ (m : State) (keys : List ℕ) where
  abbrev seen : ℕ → Contents
  seen i = get_or (records_met m keys) i no_contents

  behind : (i : ℕ) → i < 16 → length keys ≤ i → seen i ≡ no_contents
  behind i b h = table_at (met_at m (walked keys)) 16 no_contents i b ∙ rw (le-ltb i (length keys) h) refl

  key_before : (i : ℕ) → i < length keys → get_or (padded keys) i 0 ≡ get_or keys i 0
  key_before i h = get_or_append_left keys (replicate (16 - length keys) 0) 0 i h

  before : (i : ℕ) → i < 16 → i < length keys → seen i ≡ record_of m (get_or keys i 0)
  before i b h = table_at (met_at m (walked keys)) 16 no_contents i b ∙ rw (lt-ltb i (length keys) h, key_before i h) refl

  counted_to : (q : Contents → Bool) → q no_contents ≡ false → (n : ℕ) → n ≤ 16 → counted n (λ i. q (seen i)) ≡ count_by (λ k. q (record_of m k)) (take n keys)
  unfolding counted
  counted_to q e zero h = refl
  counted_to q e (suc n) h =
      let b : n < 16 = omega arith in
      let so_far = counted_to q e n (omega arith) in
      elim (dec_lt n (length keys)) [
        | yes l ↦ rw (before n b l, so_far) (sym (count_more (λ k. q (record_of m k)) keys n l))
        | no l ↦ rw (behind n b (omega arith), e, whole keys n (omega arith), so_far) (omega arith)
      ]

  pub counted_met : (q : Contents → Bool) → q no_contents ≡ false → length keys ≤ 16 → counted 16 (λ i. q (seen i)) ≡ count_by (λ k. q (record_of m k)) keys
  counted_met q e h = counted_to q e 16 (omega arith) ∙ ap (count_by (λ k. q (record_of m k))) (take_all 16 keys h)

  all_to : (p : ℕ → Contents → Bool) → ((k : ℕ) → p k no_contents ≡ true) → (n : ℕ) → n ≤ 16
      → all_below n (λ i. p (get_or (padded keys) i 0) (seen i)) ≡ list_all (λ k. p k (record_of m k)) (take n keys)
  unfolding all_below
  all_to p e zero h = refl
  all_to p e (suc n) h =
      let b : n < 16 = omega arith in
      let so_far = all_to p e n (omega arith) in
      elim (dec_lt n (length keys)) [
        | yes l ↦ rw (before n b l, key_before n l, so_far) (sym (all_more (λ k. p k (record_of m k)) keys n l))
        | no l ↦ rw (behind n b (omega arith), e (get_or (padded keys) n 0), whole keys n (omega arith), so_far) (and-true (list_all (λ k. p k (record_of m k)) (take n keys)))
      ]

  pub all_met : (p : ℕ → Contents → Bool) → ((k : ℕ) → p k no_contents ≡ true) → length keys ≤ 16
      → all_below 16 (λ i. p (get_or (padded keys) i 0) (seen i)) ≡ list_all (λ k. p k (record_of m k)) keys
  all_met p e h = all_to p e 16 (omega arith) ∙ ap (list_all (λ k. p k (record_of m k))) (take_all 16 keys h)

  last_to : (kind : ℕ) → is_a kind no_contents ≡ false → (n : ℕ) → n ≤ 16
      → last_sender kind n (records_met m keys) ≡ option_map_or (λ k. (record_of m k).asserter) (find (λ k. is_a kind (record_of m k)) (reverse (take n keys))) 0
  unfolding last_sender
  last_to kind e zero h = refl
  last_to kind e (suc n) h =
      let b : n < 16 = omega arith in
      let so_far = last_to kind e n (omega arith) in
      elim (dec_lt n (length keys)) [
        | yes l ↦ rw (before n b l, so_far, take-suc keys n 0 l, reverse-append (take n keys) (get_or keys n 0 ∷ [])) (by_test (is_a kind (record_of m (get_or keys n 0))) (λ t. rw t refl) (λ t. rw t refl))
        | no l ↦ rw (behind n b (omega arith), e, whole keys n (omega arith)) so_far
      ]

  pub last_met : (kind : ℕ) → is_a kind no_contents ≡ false → length keys ≤ 16
      → sender_of kind (records_met m keys) ≡ option_map_or (λ k. (record_of m k).asserter) (find (λ k. is_a kind (record_of m k)) (reverse keys)) 0
  last_met kind e h = last_to kind e 16 (omega arith) ∙ ap (λ l. option_map_or (λ k. (record_of m k).asserter) (find (λ k. is_a kind (record_of m k)) (reverse l)) 0) (take_all 16 keys h)

-- a refusal's number is not 0
pub not_taken : (r : Refusal) → eqb (number r) 0 ≡ false
not_taken BrokenMachine = refl
not_taken NotInMachine = refl
not_taken SameEnds = refl
not_taken NoKeyLeft = refl
not_taken StoreDown = refl
not_taken StoreUp = refl
not_taken NotReady = refl
not_taken NotListed = refl
not_taken UnknownCause = refl
not_taken MalformedBook = refl
not_taken IllegalSetup = refl
not_taken FewAnswers = refl
not_taken OpenInteraction = refl
not_taken ShortBuffer = refl

-- where nothing is, is none of the kinds
pub no_kind : (kind : Kind) → is_a (kind_number kind) no_contents ≡ false
no_kind Weights = refl
no_kind Scaler = refl
no_kind Forecast = refl
