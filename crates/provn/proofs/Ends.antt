-- The ends of the call: the walk's refusal, a buffer that is too short, or the document of the walk's chain. Assumes nothing.
use Prim.Native.Nat.{ℕ, ◌-◌, ◌≤◌}
use mathlib.Core.Path.{◌≡◌, refl, sym, ap, ◌∙◌}
use mathlib.Core.Bool.{Bool, false}
use mathlib.Core.List.{List, [], map}
use native.Mathlib.Omega.{arith}
use lib.Dec.{eqb}
use lib.ListN.{length, replicate}
use lib.Seq.{take-append_seam}
use Rattle.std.specs.Prelude.{Result, Err, take}
use Rattle.protocol.specs.Words.{pick}
use Rattle.protocol.specs.Walk.{walk_of, refused_walk, Walked}
use Rattle.protocol.specs.Chain.{Interaction, stated, chain_of}
use Rattle.protocol.specs.Lent.{first, lent, short_no, over}
use Rattle.protocol.specs.Provn.{text_of, lines_of, provn_no, provn_text, provn_of, provn_buffer}
use Rattle.protocol.proofs.Refused.{never_zero}
use Rattle.protocol.specs.Refusal.{number, answer}
use Rattle.protocol.specs.declared.State.{State}
use Rattle.protocol.specs.declared.refusal.Refusal.{Refusal}
use Rattle.protocol.specs.declared.refusal.Refusal.TheVariants.{BrokenMachine, NotInMachine, SameEnds, NoKeyLeft, StoreDown, StoreUp, NotReady, NotListed, UnknownCause, MalformedBook, IllegalSetup, FewAnswers, OpenInteraction, ShortBuffer}
use Rattle.chains.proofs.Laws.{longest}
use Rattle.lending.specs.Text.{wrote}
use Rattle.lending.proofs.Appending.{wrote_whole}
use Rattle.provn.specs.Told.{told_written}
use Rattle.walk.specs.Told.{padded}

module _ (m : State) (k : ℕ) (buffer : List ℕ) where
  -- the walk's own refusal
  module _ (r : Refusal) (e : refused_walk (number r) ≡ walk_of m k) where
    refused_no : provn_no m k buffer ≡ number r
    unfolding provn_no
    refused_no =
        ap (λ (w : Walked). first w.answer (short_no (provn_text m k) buffer)) (sym e)
        ∙ ap (λ (b : Bool). pick b (short_no (provn_text m k) buffer) (number r)) (never_zero r)

    pub refused : (told_written (Err r) ≡ provn_of m k buffer) × (buffer ≡ provn_buffer m k buffer)
    refused = (simp (refused_no, never_zero r), simp (refused_no, never_zero r))

  -- the walk's keys, and the text of their chain
  module _ (keys shown : List ℕ) (d : shown ≡ keys) (looked : ℕ) (e : record { answer = 0; keys = padded keys; count = length keys; lookups = looked } ≡ walk_of m k)
      (text : List ℕ) (t : text ≡ wrote 6247 [] (text_of (lines_of (map (stated m) shown)))) where
    chain : chain_of m k ≡ map (stated m) keys
    unfolding chain_of
    chain = ap (λ (w : Walked). map (stated m) (take w.count w.keys)) (sym e) ∙ ap (map (stated m)) (take-append_seam keys (replicate (16 - length keys) 0))

    same : text ≡ provn_text m k
    same =
        let fits : length (text_of (lines_of (map (stated m) keys))) ≤ 6247 = rw chain at (longest m k) in
        t ∙ ap (λ (l : List ℕ). wrote 6247 [] (text_of (lines_of (map (stated m) l)))) d
        ∙ wrote_whole 6247 [] (text_of (lines_of (map (stated m) keys))) (omega (arith, fits)) ∙ ap (λ (c : List Interaction). text_of (lines_of c)) (sym chain)

    module _ (a : Result Unit Refusal) (out : List ℕ) (s : answer a ≡ short_no text buffer) (o : out ≡ lent (answer a) (over text buffer) buffer) where
      no : answer a ≡ provn_no m k buffer
      unfolding provn_no
      no = s ∙ ap (λ (l : List ℕ). short_no l buffer) same ∙ ap (λ (w : Walked). first w.answer (short_no (provn_text m k) buffer)) e

      pub written : (record { answer = answer a; len = lent (answer a) (length text) 0 } ≡ provn_of m k buffer) × (out ≡ provn_buffer m k buffer)
      written = (λ i. record { answer = no i; len = lent (no i) (length (same i)) 0 }, o ∙ λ i. lent (no i) (over (same i) buffer) buffer)

    pub too_long : (r : Refusal) (out : List ℕ) → number r ≡ short_no text buffer → out ≡ lent (number r) (over text buffer) buffer
        → (told_written (Err r) ≡ provn_of m k buffer) × (out ≡ provn_buffer m k buffer)
    too_long r out s o =
        let w = written (Err r) out s o in
        (ap (λ (b : Bool). record { answer = number r; len = pick b (length text) 0 }) (sym (never_zero r)) ∙ w.0, w.1)
