-- The two lines of a cause, or none. Assumes nothing.
use Prim.Native.Nat.{ℕ, ◌+◌, ◌-◌}
use mathlib.Core.Path.{◌≡◌, sym, ap, ◌∙◌}
use mathlib.Core.List.{List}
use Rattle.arrayvec.specs.ArrayVec.{ArrayVec}
use Rattle.protocol.specs.Words.{bit}
use Rattle.protocol.specs.Chain.{stated}
use Rattle.protocol.specs.Provn.{derivations}
use Rattle.provn.proofs.Turns.{wrote_lines, cause_turn, other_turn}
use Rattle.provn.proofs.document.derivations.Goals as goal
use Rattle.provn.proofs.document.derivations.Goals.{then-is_in, else-is_in}

pub loop-cause-preserved : goal.loop-cause-preserved
loop-cause-preserved c =
    let met = stated c.args.m.now c.args.key in
    let j = c.loop-cause.cause in
    let has : c.is_in.result ≡ bit met.causes j = c.is_in.ensures ∙ (λ i. bit ((c.from.ensures ∙ c.causes.ensures) i) (c.from-in-loop-cause.ensures i)) in
    elim c.if-is_in.branch [
      | then-is_in w ↦
          ap (λ (t : ArrayVec ℕ). wrote_lines t.items (derivations met (16 - (j + 1)) (j + 1))) w.text-is
          ∙ ap (λ (l : List ℕ). wrote_lines l (derivations met (16 - (j + 1)) (j + 1))) w.caused_by.ensures
          ∙ cause_turn met c.loop-cause.text.items j c.loop-cause-test.true (sym has ∙ w.if-is_in.true) ∙ c.loop-cause.invariant
      | else-is_in w ↦
          ap (λ (t : ArrayVec ℕ). wrote_lines t.items (derivations met (16 - (j + 1)) (j + 1))) w.text-is
          ∙ other_turn met c.loop-cause.text.items j c.loop-cause-test.true (sym has ∙ w.if-is_in.false) ∙ c.loop-cause.invariant
    ]
