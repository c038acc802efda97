-- A row is complete exactly if nothing is left of what the side sends: the first four are there once each, and the announced count is
-- reached only with the last additional message. Assumes nothing.
use Prim.Native.Nat.{ℕ, ◌+◌, ◌≤◌, min}
use mathlib.Core.Path.{◌≡◌, refl, sym, ap, subst, ◌∙◌}
use mathlib.Core.Bool.{Bool, true, false, ◌&&◌, not}
use mathlib.Core.List.{List, [], ◌∷◌, ◌++◌, append-nil, head-eq_of_cons-eq}
use native.Mathlib.Omega.{arith}
use borrow.Author.Tests.{eqb-true, eq-eqb, not-true}
use lib.ListN.{length}
use Rattle.activities.specs.Side.{empty_side, additions}
use Rattle.activities.specs.Complete.{complete_side}
use Rattle.activities.specs.declared.Said.{Said}
use Rattle.activities.specs.declared.Said.TheVariants.{Negotiation, Invocation, Result, Finished, Additional}
use Rattle.activities.specs.declared.Announced.{Announced}
use Rattle.completes.specs.Order.{gather, nothing}
use Rattle.completes.specs.Sends.{negotiations, invocations, results, announcement, announcements, extras, SendsAll}
use Rattle.completes.proofs.Lists.{and_left, and_right, same_test, nil_of_length, nothing_nil, some_length, length_some, length_gather, gather_append, Each, each_gather, first, first_held}
use Rattle.completes.proofs.Slots.{side_after, negotiation_after, invocation_after, result_after, finished_after, count_after, kinds}

-- in each place stands something exactly if some of the kind was sent
module _ {T : Type 0} (held : T → Bool) (f : Said → List T) (each : (m : Said) → Each (λ x. held x ≡ true) (f m)) (none : T) (bare : held none ≡ false) where
  filled : (l : List Said) → held (first held none (gather f l)) ≡ not (nothing (gather f l))
  filled l = first_held held none (gather f l) bare (each_gather (λ x. held x ≡ true) f each l)

  pub filled_some : (l : List Said) → held (first held none (gather f l)) ≡ true → 1 ≤ length (gather f l)
  filled_some l e = some_length (gather f l) (not-true _ (sym (filled l) ∙ e))

  pub some_filled : (l : List Said) → 1 ≤ length (gather f l) → held (first held none (gather f l)) ≡ true
  some_filled l h = filled l ∙ ap not (length_some (gather f l) h)

each_negotiation : (m : Said) → Each (λ n. n.held ≡ true) (negotiations m)
each_negotiation (Negotiation list accepted extra) = (refl, tt)
each_negotiation (Invocation extra word) = tt
each_negotiation (Result extra word) = tt
each_negotiation (Finished count) = tt
each_negotiation (Additional extra) = tt

each_invocation : (m : Said) → Each (λ n. n.held ≡ true) (invocations m)
each_invocation (Negotiation list accepted extra) = tt
each_invocation (Invocation extra word) = (refl, tt)
each_invocation (Result extra word) = tt
each_invocation (Finished count) = tt
each_invocation (Additional extra) = tt

each_result : (m : Said) → Each (λ n. n.held ≡ true) (results m)
each_result (Negotiation list accepted extra) = tt
each_result (Invocation extra word) = tt
each_result (Result extra word) = (refl, tt)
each_result (Finished count) = tt
each_result (Additional extra) = tt

each_announcement : (m : Said) → Each (λ n. n.held ≡ true) (announcements m)
each_announcement (Negotiation list accepted extra) = tt
each_announcement (Invocation extra word) = tt
each_announcement (Result extra word) = tt
each_announcement (Finished count) = (refl, tt)
each_announcement (Additional extra) = tt

-- the five facts of a complete row, of what was said so far
record Full (l : List Said) : Type 0 where
  negotiation : 1 ≤ length (gather negotiations l)
  invocation : 1 ≤ length (gather invocations l)
  result : 1 ≤ length (gather results l)
  finished : 1 ≤ length (gather announcements l)
  count : (first (λ (n : Announced). n.held) empty_side.finished (gather announcements l)).count ≡ 4 + min (length (gather extras l)) 8

full_row : (l : List Said) → complete_side (side_after empty_side l) ≡ true → Full l
unfolding complete_side
full_row l e =
    let x = side_after empty_side l in
    let n = x.negotiation.held in
    let i = x.invocation.held in
    let r = x.result.held in
    let f = x.finished.held in
    let e4 = and_left (n && i && r && f) _ e in
    let e3 = and_left (n && i && r) _ e4 in
    let e2 = and_left (n && i) _ e3 in
    let counted : x.finished.count ≡ 4 + additions x.additional = eqb-true _ _ (and_right (n && i && r && f) _ e) in
    record {
      negotiation = filled_some (λ n. n.held) negotiations each_negotiation empty_side.negotiation refl l (sym (ap (λ n. n.held) (negotiation_after empty_side l)) ∙ and_left n _ e2);
      invocation = filled_some (λ n. n.held) invocations each_invocation empty_side.invocation refl l (sym (ap (λ n. n.held) (invocation_after empty_side l)) ∙ and_right n _ e2);
      result = filled_some (λ n. n.held) results each_result empty_side.result refl l (sym (ap (λ n. n.held) (result_after empty_side l)) ∙ and_right (n && i) _ e3);
      finished = filled_some (λ n. n.held) announcements each_announcement empty_side.finished refl l (sym (ap (λ n. n.held) (finished_after empty_side l)) ∙ and_right (n && i && r) _ e4);
      count = sym (ap (λ n. n.count) (finished_after empty_side l)) ∙ (counted ∙ ap (λ (k : ℕ). 4 + min k 8) (count_after empty_side l ∙ omega arith));
    }

row_full : (l : List Said) → Full l → complete_side (side_after empty_side l) ≡ true
unfolding complete_side
row_full l h =
    let counted : (side_after empty_side l).additional.count ≡ length (gather extras l) = count_after empty_side l ∙ omega arith in
    rw (
      negotiation_after empty_side l,
      invocation_after empty_side l,
      result_after empty_side l,
      finished_after empty_side l,
      counted,
      some_filled (λ n. n.held) negotiations each_negotiation empty_side.negotiation refl l h.negotiation,
      some_filled (λ n. n.held) invocations each_invocation empty_side.invocation refl l h.invocation,
      some_filled (λ n. n.held) results each_result empty_side.result refl l h.result,
      some_filled (λ n. n.held) announcements each_announcement empty_side.finished refl l h.finished,
    )
    (eq-eqb _ _ h.count)

-- the first announcement is the only one
only : (g r : List Announced) (c : ℕ) → g ++ r ≡ announcement c ∷ [] → 1 ≤ length g → (first (λ (n : Announced). n.held) empty_side.finished g).count ≡ c
unfolding first
only [] r c e h = absurd (omega arith)
only (x ∷ g) r c e h = ap (λ n. n.count) (head-eq_of_cons-eq e)

module _ (l rest : List Said) (all : SendsAll (l ++ rest)) where
  none_left : Full l → rest ≡ []
  none_left h =
      let announced = only (gather announcements l) (gather announcements rest) _ (sym (gather_append announcements l rest) ∙ all.finished) h.finished in
      nil_of_length rest
      (omega (
        arith,
        kinds rest,
        all.negotiation,
        all.invocation,
        all.result,
        ap length all.finished,
        announced,
        h.count,
        h.negotiation,
        h.invocation,
        h.result,
        h.finished,
        length_gather negotiations l rest,
        length_gather invocations l rest,
        length_gather results l rest,
        length_gather announcements l rest,
        length_gather extras l rest,
      ))

all_there : (l : List Said) → SendsAll l → length (gather extras l) ≤ 8 → Full l
unfolding first
all_there l all room =
    record {
      negotiation = omega (arith, all.negotiation);
      invocation = omega (arith, all.invocation);
      result = omega (arith, all.result);
      finished = omega (arith, ap length all.finished);
      count = ap (λ (g : List Announced). (first (λ (n : Announced). n.held) empty_side.finished g).count) all.finished ∙ omega arith;
    }

pub complete_row : (l rest : List Said) → SendsAll (l ++ rest) → length (gather extras l) ≤ 8 → complete_side (side_after empty_side l) ≡ nothing rest
complete_row l rest all room =
    same_test (complete_side (side_after empty_side l)) (nothing rest)
    (λ e. ap nothing (none_left l rest all (full_row l e)))
    (λ e. row_full l (all_there l (subst SendsAll (ap (λ (r : List Said). l ++ r) (nothing_nil rest e) ∙ append-nil l) all) room))
