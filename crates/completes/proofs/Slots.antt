-- A row after what a side said: in each place the first message of its kind, and the additional ones in their order. Assumes nothing.
use Prim.Native.Nat.{ℕ, ◌+◌, ◌≤◌}
use mathlib.Core.Path.{◌≡◌, refl, sym, ap, ◌∙◌}
use mathlib.Core.Bool.{Bool}
use mathlib.Core.List.{List, [], ◌∷◌, ◌++◌, append_assoc, append-nil}
use native.Mathlib.Omega.{arith}
use native.Mathlib.Numerals.{add-one}
use native.Mathlib.Nat.{add-zero}
use lib.ListN.{length, take, set, length-set}
use lib.Seq.{take-suc-set}
use Rattle.activities.specs.Side.{side_taken}
use Rattle.activities.specs.declared.Said.{Said}
use Rattle.activities.specs.declared.Said.TheVariants.{Negotiation, Invocation, Result, Finished, Additional}
use Rattle.activities.specs.declared.Negotiated.{Negotiated}
use Rattle.activities.specs.declared.Transmitted.{Transmitted}
use Rattle.activities.specs.declared.Announced.{Announced}
use Rattle.activities.specs.declared.Side.{Side}
use Rattle.completes.specs.Order.{gather}
use Rattle.completes.specs.Sends.{negotiations, invocations, results, announcements, extras}
use Rattle.completes.proofs.Lists.{first, first_step}

unfoldable pub side_after : Side → List Said → Side
side_after x [] = x
side_after x (m ∷ l) = side_after (side_taken x m) l

-- A place takes the first of its kind, if each message leaves it, or is one of the kind and finds its place.
module _ {T : Type 0} (held : T → Bool) (get : Side → T) (f : Said → List T) where
  first_after : ((x : Side) (m : Said) (l : List T) → first held (get (side_taken x m)) l ≡ first held (get x) (f m ++ l)) → (x : Side) (l : List Said) → get (side_after x l) ≡ first held (get x) (gather f l)
  unfolding side_after gather first
  first_after h x [] = refl
  first_after h x (m ∷ l) = first_after h (side_taken x m) l ∙ h x m (gather f l)

fills_negotiation : (x : Side) (m : Said) (l : List Negotiated) → first (λ n. n.held) (side_taken x m).negotiation l ≡ first (λ n. n.held) x.negotiation (negotiations m ++ l)
unfolding side_taken
fills_negotiation x (Negotiation list accepted extra) l = first_step (λ n. n.held) x.negotiation _ l refl
fills_negotiation x (Invocation extra word) l = refl
fills_negotiation x (Result extra word) l = refl
fills_negotiation x (Finished count) l = refl
fills_negotiation x (Additional extra) l = refl

pub negotiation_after : (x : Side) (l : List Said) → (side_after x l).negotiation ≡ first (λ n. n.held) x.negotiation (gather negotiations l)
negotiation_after = first_after (λ n. n.held) (λ x. x.negotiation) negotiations fills_negotiation

fills_invocation : (x : Side) (m : Said) (l : List Transmitted) → first (λ n. n.held) (side_taken x m).invocation l ≡ first (λ n. n.held) x.invocation (invocations m ++ l)
unfolding side_taken
fills_invocation x (Negotiation list accepted extra) l = refl
fills_invocation x (Invocation extra word) l = first_step (λ n. n.held) x.invocation _ l refl
fills_invocation x (Result extra word) l = refl
fills_invocation x (Finished count) l = refl
fills_invocation x (Additional extra) l = refl

pub invocation_after : (x : Side) (l : List Said) → (side_after x l).invocation ≡ first (λ n. n.held) x.invocation (gather invocations l)
invocation_after = first_after (λ n. n.held) (λ x. x.invocation) invocations fills_invocation

fills_result : (x : Side) (m : Said) (l : List Transmitted) → first (λ n. n.held) (side_taken x m).result l ≡ first (λ n. n.held) x.result (results m ++ l)
unfolding side_taken
fills_result x (Negotiation list accepted extra) l = refl
fills_result x (Invocation extra word) l = refl
fills_result x (Result extra word) l = first_step (λ n. n.held) x.result _ l refl
fills_result x (Finished count) l = refl
fills_result x (Additional extra) l = refl

pub result_after : (x : Side) (l : List Said) → (side_after x l).result ≡ first (λ n. n.held) x.result (gather results l)
result_after = first_after (λ n. n.held) (λ x. x.result) results fills_result

fills_finished : (x : Side) (m : Said) (l : List Announced) → first (λ n. n.held) (side_taken x m).finished l ≡ first (λ n. n.held) x.finished (announcements m ++ l)
unfolding side_taken
fills_finished x (Negotiation list accepted extra) l = refl
fills_finished x (Invocation extra word) l = refl
fills_finished x (Result extra word) l = refl
fills_finished x (Finished count) l = first_step (λ n. n.held) x.finished _ l refl
fills_finished x (Additional extra) l = refl

pub finished_after : (x : Side) (l : List Said) → (side_after x l).finished ≡ first (λ n. n.held) x.finished (gather announcements l)
finished_after = first_after (λ n. n.held) (λ x. x.finished) announcements fills_finished

pub count_after : (x : Side) (l : List Said) → (side_after x l).additional.count ≡ x.additional.count + length (gather extras l)
unfolding side_after side_taken gather
count_after x [] = sym (add-zero _)
count_after x (Negotiation list accepted extra ∷ l) = count_after (side_taken x (Negotiation list accepted extra)) l
count_after x (Invocation extra word ∷ l) = count_after (side_taken x (Invocation extra word)) l
count_after x (Result extra word ∷ l) = count_after (side_taken x (Result extra word)) l
count_after x (Finished count ∷ l) = count_after (side_taken x (Finished count)) l
count_after x (Additional extra ∷ l) = omega (arith, count_after (side_taken x (Additional extra)) l)

-- the additional ones, where there is room for them
pub extras_after : (x : Side) (l : List Said) → length x.additional.extras ≡ 8 → x.additional.count + length (gather extras l) ≤ 8
    → take (side_after x l).additional.count (side_after x l).additional.extras ≡ take x.additional.count x.additional.extras ++ gather extras l
unfolding side_after side_taken gather
extras_after x [] e h = sym (append-nil _)
extras_after x (Negotiation list accepted extra ∷ l) e h = extras_after (side_taken x (Negotiation list accepted extra)) l e h
extras_after x (Invocation extra word ∷ l) e h = extras_after (side_taken x (Invocation extra word)) l e h
extras_after x (Result extra word ∷ l) e h = extras_after (side_taken x (Result extra word)) l e h
extras_after x (Finished count ∷ l) e h = extras_after (side_taken x (Finished count)) l e h
extras_after x (Additional extra ∷ l) e h =
    let i = x.additional.count in
    let before = x.additional.extras in
    extras_after (side_taken x (Additional extra)) l (length-set before i extra ∙ e) (omega arith)
    ∙ (ap (λ (k : List ℕ). k ++ gather extras l) (ap (λ (n : ℕ). take n (set before i extra)) (add-one i) ∙ take-suc-set before i extra (omega (arith, e)))
    ∙ append_assoc (take i before) (extra ∷ []) (gather extras l))

pub after_append : (x : Side) (l k : List Said) → side_after x (l ++ k) ≡ side_after (side_after x l) k
unfolding side_after
after_append x [] k = refl
after_append x (m ∷ l) k = after_append (side_taken x m) l k

-- every message is of one of the five kinds
pub kinds : (l : List Said) → length l ≡ length (gather negotiations l) + length (gather invocations l) + length (gather results l) + length (gather announcements l) + length (gather extras l)
unfolding gather
kinds [] = refl
kinds (Negotiation list accepted extra ∷ l) = omega (arith, kinds l)
kinds (Invocation extra word ∷ l) = omega (arith, kinds l)
kinds (Result extra word ∷ l) = omega (arith, kinds l)
kinds (Finished count ∷ l) = omega (arith, kinds l)
kinds (Additional extra ∷ l) = omega (arith, kinds l)
