-- The answer of a run is the lowest number that applies to its book: the first of three tests that holds. Assumes nothing.
use Prim.Native.Nat.{ℕ, ◌≤◌, ◌<◌}
use mathlib.Core.Path.{◌≡◌, refl, sym, ap, subst, ◌∙◌}
use mathlib.Core.Logic.{inl, inr}
use mathlib.Core.Bool.{Bool, true, false, not}
use mathlib.Core.List.{List, [], ◌∷◌}
use native.Mathlib.Omega.{arith}
use lib.Dec.{ltb, eqb}
use lib.ListN.{length, get_or}
use lib.Pow.{are_bytes}
use borrow.Author.Tests.{lt-ltb, ltb-true, eqb-true, not-true}
use Rattle.std.proofs.lemmas.Bool.{both_ways, not_from_false}
use Rattle.protocol.specs.Words.{pick}
use Rattle.protocol.specs.Book.{home_read, list_read, actors_read, well_formed, setup_read, reading_of}
use Rattle.protocol.specs.Run.{steps_read, legal_setup, fresh_of, book_no, refused_run, full_run, run_of}
use Rattle.unbroken.specs.Unbroken.{LegalActor, LegalSetup}
use Rattle.unbroken.specs.Lowest.{IsLowest}
use Rattle.unbroken.proofs.Laws.Tests.{by_test}
use Rattle.unbroken.proofs.Laws.Every.{length_table, table_at}
use Rattle.unbroken.proofs.Laws.Says.{Says, put_says, not_says, un_splits}
use Rattle.unbroken.proofs.Laws.SlotTests.{legal_says}
use Rattle.unbroken.proofs.Laws.Lowest.{lowest, lowest_put, Test, ◌if◌, first, Has, Each, each_has, has_low, tests_lowest}
use Rattle.reads.specs.Reading.{IsBook}
use Rattle.reads.specs.Applies.{LegalBook, Applies, is_malformed, is_illegal, is_short, BookRefusals, MalformedExactly}
use Rattle.reads.proofs.Both.{formed_exactly}

-- the setup that is looked at is the reading's
module _ (s : List ℕ) where
  same_home : (a : ℕ) → a < 8 → a < actors_read s → get_or (setup_read s).homes a 0 ≡ get_or (reading_of s).homes a 0
  unfolding setup_read reading_of
  same_home a h l =
      table_at (λ (i : ℕ). pick (ltb i (actors_read s)) (home_read s i) 0) 8 0 a h ∙ ap (λ b. pick b (home_read s a) 0) (lt-ltb a (actors_read s) l) ∙ sym (table_at (home_read s) (actors_read s) 0 a l)

  same_list : (a : ℕ) → a < 8 → a < actors_read s → get_or (setup_read s).lists a 0 ≡ get_or (reading_of s).lists a 0
  unfolding setup_read reading_of
  same_list a h l =
      table_at (λ (i : ℕ). pick (ltb i (actors_read s)) (list_read s i) 0) 8 0 a h ∙ ap (λ b. pick b (list_read s a) 0) (lt-ltb a (actors_read s) l) ∙ sym (table_at (list_read s) (actors_read s) 0 a l)

  actors_are : length (reading_of s).homes ≡ actors_read s
  unfolding reading_of
  actors_are = length_table (home_read s) (actors_read s)

  eight : length (setup_read s).homes ≡ 8
  unfolding setup_read
  eight = length_table (λ (i : ℕ). pick (ltb i (actors_read s)) (home_read s i) 0) 8

  -- the same setup, with rows that agree
  legal_same : {n k : ℕ} {H G L K : List ℕ} {stores : ℕ} → n ≡ k → ((a : ℕ) → a < 8 → a < k → get_or H a 0 ≡ get_or G a 0) → ((a : ℕ) → a < 8 → a < k → get_or L a 0 ≡ get_or K a 0)
      → LegalSetup stores n H L → LegalSetup stores k G K
  legal_same {n} {k} {H} {G} {L} {K} {stores} e f g x =
      record {
        stores2 = x.stores2;
        stores8 = x.stores8;
        actors2 = omega (arith, x.actors2);
        actors8 = omega (arith, x.actors8);
        actor_at = λ a l. let u : a < 8 = omega (arith, x.actors8) in
            subst (λ (h : ℕ). LegalActor stores h (get_or K a 0)) (f a u l) (subst (λ (i : ℕ). LegalActor stores (get_or H a 0) i) (g a u l) (x.actor_at a (omega arith)));
      }

  legal_book : Says (legal_setup (setup_read s)) (LegalBook (reading_of s))
  unfolding setup_read reading_of
  legal_book =
      let n = actors_are in
      put_says (legal_says (setup_read s).stores (setup_read s).actors (setup_read s).homes (setup_read s).lists eight)
      (legal_same (sym n) (λ a h l. same_home a h (omega arith)) (λ a h l. same_list a h (omega arith)))
      (legal_same n (λ a h l. sym (same_home a h l)) (λ a h l. sym (same_list a h l)))

module _ (s : List ℕ) (room : ℕ) (bs : are_bytes s ≡ true) where
  abbrev tests : List Test
  tests = (10 if not (well_formed s)) ∷ (11 if not (legal_setup (setup_read s))) ∷ (12 if ltb room (length (steps_read s))) ∷ []

  told : {n : ℕ} → Applies s room n → Has n tests
  unfolding reading_of
  told (is_malformed h) = inl (refl, not_from_false (well_formed s) (by_test (well_formed s) (λ v. absurd (h ((formed_exactly s bs).0 v))) (λ v. v)))
  told (is_illegal h) = inr (inl (refl, (not_says (un_splits (legal_book s))).told h))
  told (is_short l) = inr (inr (inl (refl, lt-ltb room (length (steps_read s)) l)))

  tells : Each (Applies s room) tests
  unfolding reading_of
  tells = (
    λ e. is_malformed (λ x. absurd (both_ways (well_formed s) (not-true (well_formed s) e) ((formed_exactly s bs).1 x))),
    (λ e. is_illegal ((not_says (un_splits (legal_book s))).tells e), (λ e. is_short (ltb-true room (length (steps_read s)) e), tt)),
  )

  answer_is : first tests ≡ (run_of s room).answer
  unfolding run_of book_no
  answer_is = go (eqb (book_no s room) 0) refl
    where
      go : (t : Bool) → eqb (book_no s room) 0 ≡ t → book_no s room ≡ (pick t (full_run (fresh_of (setup_read s)) (steps_read s)) (refused_run (book_no s room))).answer
      go true e = eqb-true (book_no s room) 0 e
      go false e = refl

pub book_refusals : BookRefusals
book_refusals s room bs =
    subst (IsLowest (Applies s room)) (answer_is s room bs)
    (lowest (λ a. omega (arith, has_low (tests s room bs) 1 0 refl (told s room bs a)))
    (lowest_put (λ n h. each_has (Applies s room) (tests s room bs) n (tells s room bs) h) (λ n l a. told s room bs a) (tests_lowest (tests s room bs) 1 (omega arith) refl)))

ten_told : {s : List ℕ} {room n : ℕ} → Applies s room n → n ≡ 10 → IsBook s → ⊥
ten_told (is_malformed h) e = h
ten_told (is_illegal x) e = absurd (omega arith)
ten_told (is_short x) e = absurd (omega arith)

ten_least : {s : List ℕ} {room n : ℕ} → Applies s room n → 10 ≤ n
ten_least (is_malformed h) = omega arith
ten_least (is_illegal x) = omega arith
ten_least (is_short x) = omega arith

pub malformed_exactly : MalformedExactly
malformed_exactly s room bs =
    let h = (book_refusals s room bs).given 10 (λ e. omega arith) in
    (λ e. ten_told (h.0 e).0 refl, λ n. h.1 (is_malformed n, λ i l a. let z : 10 ≤ i = ten_least a in omega arith))
