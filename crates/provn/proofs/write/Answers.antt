-- The walk is refused, or the document of its chain is written where the buffer has room. Assumes nothing.
use mathlib.Core.Path.{◌≡◌, sym, ap, ◌∙◌}
use Prim.Native.Nat.{ℕ}
use lib.ListN.{length}
use Rattle.std.proofs.Common.{rules}
use Rattle.std.specs.Prelude.{Ok, Err}
use Rattle.protocol.specs.Provn.{provn_of}
use Rattle.provn.specs.Told.{told_written}
use Rattle.provn.proofs.Ends.{refused, written, too_long}
use Rattle.walk.specs.Answer.{Answer}
use Rattle.provn.proofs.write.Goals as goal

pub returns-in_err-walked-clause-result : goal.returns-in_err-walked-clause-result
returns-in_err-walked-clause-result c =
    let r = c.in_err-walked.field-0.0 in
    let w : told_written (Err r) ≡ provn_of c.args.m.now c.args.key c.args.buffer.now = (refused c.args.m.now c.args.key c.args.buffer.now r c.in_err-walked.ensures).0 in
    search rules

pub returns-in_err-walked-clause-buffer : goal.returns-in_err-walked-clause-buffer
returns-in_err-walked-clause-buffer c = (refused c.args.m.now c.args.key c.args.buffer.now _ c.in_err-walked.ensures).1

pub returns-in_err-put-clause-result : goal.returns-in_err-put-clause-result
returns-in_err-put-clause-result c =
    let r = c.in_err-put.field-0.0 in
    let w : told_written (Err r) ≡ provn_of c.args.m.now c.args.key c.args.buffer.now =
    (too_long c.args.m.now c.args.key c.args.buffer.now c.in_ok-walked.walked.keys.items c.deref.result.now (c.deref.ensures.0 ∙ ap (λ (w : Answer). w.keys.items) c.walked.view_is) _ c.in_ok-walked.ensures
    c.deref-2.result.now (c.deref-2.ensures.0 ∙ c.document-text.ensures) r _ c.in_err-put.ensures.number c.in_err-put.ensures.bytes).0 in
    search rules

pub returns-in_err-put-clause-buffer : goal.returns-in_err-put-clause-buffer
returns-in_err-put-clause-buffer c =
    (too_long c.args.m.now c.args.key c.args.buffer.now c.in_ok-walked.walked.keys.items c.deref.result.now (c.deref.ensures.0 ∙ ap (λ (w : Answer). w.keys.items) c.walked.view_is) _ c.in_ok-walked.ensures
    c.deref-2.result.now (c.deref-2.ensures.0 ∙ c.document-text.ensures) c.in_err-put.field-0.0 _ c.in_err-put.ensures.number c.in_err-put.ensures.bytes).1

pub returns-clause-result : goal.returns-clause-result
returns-clause-result c =
    ap (λ (n : ℕ). record { answer = 0; len = n }) (c.len.ensures.value ∙ sym (ap length c.deref-2.ensures.0))
    ∙ (written c.args.m.now c.args.key c.args.buffer.now c.in_ok-walked.walked.keys.items c.deref.result.now (c.deref.ensures.0 ∙ ap (λ (w : Answer). w.keys.items) c.walked.view_is) _ c.in_ok-walked.ensures
    c.deref-2.result.now (c.deref-2.ensures.0 ∙ c.document-text.ensures) (Ok tt) _ c.in_ok-put.ensures.number c.in_ok-put.ensures.bytes).0

pub returns-clause-buffer : goal.returns-clause-buffer
returns-clause-buffer c =
    (written c.args.m.now c.args.key c.args.buffer.now c.in_ok-walked.walked.keys.items c.deref.result.now (c.deref.ensures.0 ∙ ap (λ (w : Answer). w.keys.items) c.walked.view_is) _ c.in_ok-walked.ensures
    c.deref-2.result.now (c.deref-2.ensures.0 ∙ c.document-text.ensures) (Ok tt) _ c.in_ok-put.ensures.number c.in_ok-put.ensures.bytes).1
