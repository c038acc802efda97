-- Rule one on a machine whose walk is answered, whose keys are those that lead to the forecast, and whose records say what was
-- sent: it passes exactly if the pair as sent is right. Assumes nothing.
use Prim.Native.Nat.{ℕ, ◌+◌, ◌≤◌, ◌<◌}
use mathlib.Core.Path.{◌≡◌, refl, sym, ap, ◌∙◌}
use mathlib.Core.Bool.{Bool, true, false, ◌&&◌, not}
use mathlib.Core.List.{List}
use native.Mathlib.Omega.{arith}
use lib.Dec.{leb, ltb, eqb}
use lib.ListN.{length, get_or}
use borrow.Author.Tests.{ltb-true, lt-ltb, leb-true, le-leb, eqb-true, eq-eqb}
use Rattle.std.proofs.lemmas.Bool.{and_from, and_parts, both_ways, not_from_true}
use Rattle.protocol.specs.Words.{pick, times}
use Rattle.protocol.specs.Slots.{number, view, no_contents}
use Rattle.protocol.specs.declared.State.{State}
use Rattle.protocol.specs.declared.Setup.{Setup}
use Rattle.protocol.specs.declared.Step.{Step}
use Rattle.protocol.specs.declared.Contents.{Contents}
use Rattle.protocol.specs.Walk.{Walked, unmet, walked_from, walk_of}
use Rattle.unbroken.specs.Unbroken.{Unbroken}
use Rattle.unbroken.proofs.Laws.{unbroken}
use Rattle.unbroken.proofs.Laws.Tests.{or_else, or_of, by_test}
use Rattle.unbroken.proofs.Laws.Every.{below_at, below_each, table_at}
use Rattle.reaches.specs.Reaches.{keys_of}
use Rattle.reaches.proofs.Counted.{few}
use Rattle.reaches.proofs.Keys.{Sound, none_met, sound_unmet}
use Rattle.reaches.proofs.Visited.{visited}
use Rattle.reaches.proofs.Laws.{Answer, refusing, answering, answer}
use Rattle.guarantees.specs.Sent.{sent_as}
use Rattle.guarantees.specs.Guarantees.{SentReach}
use Rattle.pairing.specs.Pair.{kind_of, bundle_of, record_of, met_at, met_of, is_a, is_part, how_many, has_bundle, all_have, rule_one}
use Rattle.pairs.specs.Pairs.{Part, weights, scaler, SentKind, RightPair}
use Rattle.pairs.proofs.Places.{counted_at, at_counted, Among, among, some_among}

-- an answered walk has at most sixteen keys, in sixteen places; its machine is not broken and has the key
pub record Walk (m : State) (k : ℕ) : Type 0 where
  pub made : k < m.made
  pub few : (walk_of m k).count ≤ 16
  pub long : length (walk_of m k).keys ≡ 16

pub walked : (m : State) (k : ℕ) → (walk_of m k).answer ≡ 0 → Walk m k
unfolding walked_from
walked m k z = go (answer m k)
  where
    go : Answer m k (walk_of m k) → Walk m k
    go (refusing n h e) = absurd (h (sym (ap (λ (r : Walked). r.answer) e) ∙ z))
    go (answering b l f e) =
        let u : Unbroken m = unbroken m b in
        let low : k < 16 = omega (arith, u.made16) in
        let s : Sound (walked_from m k) = (visited m u 16 k ((view m (number k 0)).store + 1) unmet low low sound_unmet (none_met k)).after.sound in
        record {
          made = l;
          few = omega (arith, ap (λ (r : Walked). r.count) e, few s.tally);
          long = ap (λ (r : Walked). length r.keys) e ∙ s.long;
        }

-- the record of a place, where the place is met, and else nothing, which is of no kind
record Met (m : State) (w : Walked) (i : ℕ) : Type 0 where
  low : i < w.count
  same : met_at m w i ≡ record_of m (get_or w.keys i 0)

no_kind : (kind : ℕ) → Part kind → is_a kind no_contents ≡ false
no_kind kind weights = refl
no_kind kind scaler = refl

met_kind : (m : State) (w : Walked) (i kind : ℕ) → Part kind → is_a kind (met_at m w i) ≡ true → Met m w i
met_kind m w i kind p e = go (ltb i w.count) refl e
  where
    go : (t : Bool) → ltb i w.count ≡ t → is_a kind (pick t (record_of m (get_or w.keys i 0)) no_contents) ≡ true → Met m w i
    go true f h = record { low = ltb-true i w.count f; same = rw f }
    go false f h = absurd (both_ways (is_a kind no_contents) (no_kind kind p) h)

module _ (u : Setup) (steps : List Step) (m : State) (k : ℕ) (z : (walk_of m k).answer ≡ 0)
    (once : (i : ℕ) → SentReach u steps k i → times i (keys_of (walk_of m k)) ≡ 1)
    (only : (i : ℕ) → 1 ≤ times i (keys_of (walk_of m k)) → SentReach u steps k i)
    (same : (i : ℕ) → SentReach u steps k i → (record_of m i).word ≡ (sent_as u steps i).word) where
  abbrev w : Walked
  w = walk_of m k

  there : (i : ℕ) → i < 16 → get_or (met_of m w) i no_contents ≡ met_at m w i
  there i h = table_at (met_at m w) 16 no_contents i h

  -- the place of what leads to the forecast, and what leads to it at a place
  record Stands (i : ℕ) : Type 0 where
    at : ℕ
    low : at < 16
    word : (get_or (met_of m w) at no_contents).word ≡ (sent_as u steps i).word

  stands : (i : ℕ) → SentReach u steps k i → Stands i
  stands i r =
      let a : Among i w.count w.keys = among i w.count w.keys (omega (arith, once i r)) in
      let low : a.at < 16 = omega (arith, a.low, (walked m k z).few) in
      let e : met_at m w a.at ≡ record_of m i = rw (lt-ltb a.at w.count a.low, a.same) in
      record { at = a.at; low = low; word = ap (λ (c : Contents). c.word) (there a.at low ∙ e) ∙ same i r }

  record Leads (at : ℕ) : Type 0 where
    key : ℕ
    leads : SentReach u steps k key
    word : (get_or (met_of m w) at no_contents).word ≡ (sent_as u steps key).word

  leading : (at kind : ℕ) → at < 16 → Part kind → is_a kind (get_or (met_of m w) at no_contents) ≡ true → Leads at
  leading at kind low p e =
      let h : Met m w at = met_kind m w at kind p (rw (there at low) at e) in
      let key = get_or w.keys at 0 in
      let r : SentReach u steps k key = only key (some_among w.count w.keys at h.low (omega (arith, h.low, (walked m k z).few, (walked m k z).long))) in
      record { key = key; leads = r; word = ap (λ (c : Contents). c.word) (there at low ∙ h.same) ∙ same key r }

  -- some of a kind
  some : (kind : ℕ) → Part kind → leb 1 (how_many kind (met_of m w)) ≡ true → SentKind u steps k kind
  some kind p e =
      let c = counted_at 16 (λ i. is_a kind (get_or (met_of m w) i no_contents)) (leb-true 1 (how_many kind (met_of m w)) e) in
      let l = leading c.at kind c.low p c.holds in
      record { key = l.key; leads = l.leads; word = ap kind_of (sym l.word) ∙ eqb-true (kind_of (get_or (met_of m w) c.at no_contents).word) kind c.holds }

  some_back : (kind : ℕ) → SentKind u steps k kind → leb 1 (how_many kind (met_of m w)) ≡ true
  some_back kind s =
      let t = stands s.key s.leads in
      le-leb 1 (how_many kind (met_of m w))
      (at_counted 16 (λ i. is_a kind (get_or (met_of m w) i no_contents)) t.at t.low (eq-eqb (kind_of (get_or (met_of m w) t.at no_contents).word) kind (ap kind_of t.word ∙ s.word)))

  -- all of both kinds have a bundle
  part_of : (kind : ℕ) → Part kind → (c : Contents) → is_a kind c ≡ true → is_part c ≡ true
  part_of kind weights c e = or_of (is_a 1 c) (is_a 2 c) (λ f. absurd (both_ways (is_a 1 c) f e))
  part_of kind scaler c e = or_of (is_a 1 c) (is_a 2 c) (λ f. e)

  all_back : (b : ℕ) → ((kind : ℕ) → Part kind → (i : ℕ) → SentReach u steps k i → kind_of (sent_as u steps i).word ≡ kind → bundle_of (sent_as u steps i).word ≡ b)
      → all_have b (met_of m w) ≡ true
  all_back b f = below_each 16 (λ i. has_bundle b (get_or (met_of m w) i no_contents)) at
    where
      at : (i : ℕ) → i < 16 → has_bundle b (get_or (met_of m w) i no_contents) ≡ true
      at i h = or_of (not (is_part c)) (eqb (bundle_of c.word) b) (λ e. by_test (is_a 1 c) (λ g. of 1 weights g) (λ g. of 2 scaler (or_else (is_a 1 c) (is_a 2 c) (not_false_is (is_part c) e) g)))
        where
          c : Contents
          c = get_or (met_of m w) i no_contents

          not_false_is : (t : Bool) → not t ≡ false → t ≡ true
          not_false_is true q = refl
          not_false_is false q = sym q

          of : (kind : ℕ) → Part kind → is_a kind c ≡ true → eqb (bundle_of c.word) b ≡ true
          of kind p g =
              let l = leading i kind h p g in
              eq-eqb (bundle_of c.word) b (ap bundle_of l.word ∙ f kind p l.key l.leads (ap kind_of (sym l.word) ∙ eqb-true (kind_of c.word) kind g))

  all_of : (b : ℕ) → all_have b (met_of m w) ≡ true → (kind : ℕ) → Part kind → (i : ℕ) → SentReach u steps k i → kind_of (sent_as u steps i).word ≡ kind → bundle_of (sent_as u steps i).word ≡ b
  all_of b e kind p i r q =
      let t = stands i r in
      let c = get_or (met_of m w) t.at no_contents in
      let part : is_part c ≡ true = part_of kind p c (eq-eqb (kind_of c.word) kind (ap kind_of t.word ∙ q)) in
      let h : has_bundle b c ≡ true = below_at 16 (λ i. has_bundle b (get_or (met_of m w) i no_contents)) e t.at t.low in
      ap bundle_of (sym t.word) ∙ eqb-true (bundle_of c.word) b (or_else (not (is_part c)) (eqb (bundle_of c.word) b) h (not_from_true (is_part c) part))

  pub rule_tells : (b : ℕ) → b ≡ bundle_of (sent_as u steps k).word → rule_one (met_of m w) b ≡ true → RightPair u steps k
  unfolding rule_one
  rule_tells b q e =
      let two = (and_parts (leb 1 (how_many 1 (met_of m w)) && leb 1 (how_many 2 (met_of m w))) (all_have b (met_of m w)) e).0 in
      record { some = of two; bundle = λ kind p i r g. all_of b (and_parts (leb 1 (how_many 1 (met_of m w)) && leb 1 (how_many 2 (met_of m w))) (all_have b (met_of m w)) e).1 kind p i r g ∙ q }
    where
      of : (leb 1 (how_many 1 (met_of m w)) && leb 1 (how_many 2 (met_of m w))) ≡ true → (kind : ℕ) → Part kind → SentKind u steps k kind
      of t kind weights = some 1 weights (and_parts (leb 1 (how_many 1 (met_of m w))) (leb 1 (how_many 2 (met_of m w))) t).0
      of t kind scaler = some 2 scaler (and_parts (leb 1 (how_many 1 (met_of m w))) (leb 1 (how_many 2 (met_of m w))) t).1

  pub rule_told : (b : ℕ) → b ≡ bundle_of (sent_as u steps k).word → RightPair u steps k → rule_one (met_of m w) b ≡ true
  unfolding rule_one
  rule_told b q r =
      and_from (leb 1 (how_many 1 (met_of m w)) && leb 1 (how_many 2 (met_of m w))) (all_have b (met_of m w))
      (and_from (leb 1 (how_many 1 (met_of m w))) (leb 1 (how_many 2 (met_of m w))) (some_back 1 (r.some 1 weights)) (some_back 2 (r.some 2 scaler)))
      (all_back b (λ kind p i h g. r.bundle kind p i h g ∙ sym q))
