-- A run with room for every answer, and what the call with its listing gives after it. Assumes nothing.
use Rattle.std.proofs.Common.{◌≡◌, ℕ, ltb, min, ◌<◌, ◌≤◌, List, Result, Ok, Err, length, take, replicate, arith, refl, sym, ap, ◌∙◌}
use Rattle.std.proofs.lemmas.Bool.{lt-ltb, le-ltb}
use Rattle.std.proofs.lemmas.List.{take_all, length-take-le}
use Rattle.std.proofs.Math.Nat.{min-eq_left}
use Rattle.protocol.specs.Words.{pick}
use Rattle.protocol.specs.Lent.{short_no, over}
use Rattle.protocol.specs.Listing.{listing_of}
use Rattle.protocol.specs.Refusal.{number}
use Rattle.protocol.specs.Run.{Ran as Outcome, run_of, buffer_of}
use Rattle.protocol.specs.declared.refusal.Refusal.{Refusal}
use Rattle.runs.specs.declared.Counts.{Counts}
use Rattle.runs.specs.declared.Ran.{Ran}
use Rattle.runs.specs.Ran.{ran_told, told_run}
use Rattle.protocol.proofs.Refused.{never_zero}
use Rattle.tautlichen.specs.Calls.{ran_listing, list_text, list_no, history}
use Rattle.tautlichen.proofs.History.{run_number, same_run, steps_fit, same_answers}

pub taken_length : (n : ℕ) (l : List ℕ) → n ≤ length l → n ≡ length (take n l)
taken_length n l h = sym (length-take-le n l h)

-- a slice is copied whole where there is room
all_copied : (n : ℕ) (a b : List ℕ) → n ≤ length b → n ≤ length a → over (take (min (length (take n b)) (length a)) (take n b)) a ≡ over (take n b) a
all_copied n a b h k = simp (length-take-le n b h, min-eq_left k, take_all n (take n b) (omega (arith, length-take-le n b h)))

module _ (s a : List ℕ) (r : Ran) (run : told_run r ≡ history s) where
  pub refused : {x : Refusal} (text : List ℕ) → r.ran ≡ Err x → number x ≡ list_no s a text
  unfolding list_no
  refused {x} text e =
      let h : (history s).answer ≡ number x = ap (λ (o : Outcome). o.answer) (sym run ∙ ap (ran_told r.state) e) in
      simp (run_number s (length a), h, never_zero x)

  module _ {n : Counts} (e : r.ran ≡ Ok n) where
    known : history s ≡ ran_told r.state (Ok n)
    known = sym run ∙ ap (ran_told r.state) e

    number_known : (run_of s (length a)).answer ≡ pick (ltb (length a) n.steps) 12 0
    number_known = run_number s (length a) ∙ simp known

    pub few : (text : List ℕ) → length a < n.steps → 12 ≡ list_no s a text
    unfolding list_no
    few text h = simp (number_known, lt-ltb _ _ h)

    module _ (fits : n.steps ≤ length a) where
      done : (run_of s (length a)).answer ≡ 0
      done = number_known ∙ simp (le-ltb _ _ fits)

      pub listed : list_text s a ≡ listing_of r.state n.steps n.taken
      listed = ap ran_listing (sym (same_run s (length a) done) ∙ known)

      pub shown : (text : List ℕ) {k : ℕ} → k ≡ short_no (listing_of r.state n.steps n.taken) text → k ≡ list_no s a text
      unfolding list_no
      shown text q = q ∙ simp (listed, done)

      pub within : n.steps ≤ 4096
      within = rw known at (steps_fit s (length a) done).0

      pub answered : {k : ℕ} {b x : List ℕ} → k ≡ n.steps → b ≡ buffer_of s (replicate 4096 0) → 4096 ≤ length b
          → x ≡ over (take (min (length (take k b)) (length a)) (take k b)) a → x ≡ buffer_of s a
      answered {k} {b} z q long e =
          e ∙ all_copied k a b (omega (arith, z, within, long)) (omega (arith, z, fits)) ∙ rw (z, q) (rw known at (same_answers s a (replicate 4096 0) done refl))
