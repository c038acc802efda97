use Rattle.std.specs.Prelude.{None, Some}
use Rattle.std.proofs.Common.{◌≡◌, ℕ, eqb, rules, arith, sym, ap, ◌∙◌}
use Rattle.protocol.specs.Book.{read_step}
use Rattle.protocol.specs.Setup.{answered}
use Rattle.protocol.specs.Words.{one}
use Rattle.runs.proofs.Running.{run_step, run_end, run_stop, run_all}
use Rattle.runs.proofs.take_steps.Goals as goal

pub returns-in_default-clause-state : goal.returns-in_default-clause-state
returns-in_default-clause-state c =
    let bad : read_step c.loop-i.reader.book.now c.loop-i.reader.at ≡ None = search rules in
    (run_end c.loop-i.invariant.running (run_stop c.loop-i.invariant.running (rw c.loop-i.invariant.same at bad))).0

pub returns-in_default-clause-numbers : goal.returns-in_default-clause-numbers
returns-in_default-clause-numbers c =
    let bad : read_step c.loop-i.reader.book.now c.loop-i.reader.at ≡ None = search rules in
    (run_end c.loop-i.invariant.running (run_stop c.loop-i.invariant.running (rw c.loop-i.invariant.same at bad))).1

pub returns-in_default-clause-taken : goal.returns-in_default-clause-taken
returns-in_default-clause-taken c =
    let bad : read_step c.loop-i.reader.book.now c.loop-i.reader.at ≡ None = search rules in
    (run_end c.loop-i.invariant.running (run_stop c.loop-i.invariant.running (rw c.loop-i.invariant.same at bad))).2

pub loop-i-preserved : goal.loop-i-preserved
loop-i-preserved c =
    let got : read_step c.loop-i.reader.book.now c.loop-i.reader.at ≡ Some (c.in-Some.step, c.step.new.self.at) = search rules in
    let counted : c.one_taken-taken.result ≡ one (eqb c.answer_number.result 0) = c.one_taken-taken.ensures ∙ sym (ap (λ (n : ℕ). one (eqb n 0)) c.answer_number.ensures) in
    let taken = ap (λ (n : ℕ). answered n c.take-answer.new.self.state) c.answer_number.ensures ∙ c.take-answer.ensures in
    record {
      same = ap (λ b. b.now) c.step.ensures.same ∙ c.loop-i.invariant.same;
      running = rw counted (run_step c.loop-i.invariant.running c.loop-i-test.true c.in-Some.step _ (rw c.loop-i.invariant.same at got) _ taken);
    }

pub returns-clause-state : goal.returns-clause-state
returns-clause-state c = (run_end c.loop-i.invariant.running (run_all c.loop-i.invariant.running (omega arith))).0

pub returns-clause-numbers : goal.returns-clause-numbers
returns-clause-numbers c = (run_end c.loop-i.invariant.running (run_all c.loop-i.invariant.running (omega arith))).1

pub returns-clause-taken : goal.returns-clause-taken
returns-clause-taken c = (run_end c.loop-i.invariant.running (run_all c.loop-i.invariant.running (omega arith))).2
