use Rattle.std.proofs.Common.{sym, ◌∙◌}
use Rattle.entry_core.proofs.Firsts.{no_body, other_mechanism, same_differs}
use Rattle.entry_core.proofs.first_step.scram_message.Goals as goal

pub returns-in_err-mechanism : goal.returns-in_err-mechanism
returns-in_err-mechanism c = rw c.from_residual.ensures (no_body c.args.body.now c.in_err-mechanism.ensures.none)

pub returns-then-ne : goal.returns-then-ne
returns-then-ne c =
    other_mechanism c.args.body.now c.in_ok-mechanism.field-0 c.in_ok-mechanism.ensures.some
    (λ same. same_differs c.as_slice.result.now c.as_slice-2.result.now c.ne.result
    (c.as_slice.ensures ∙ (same ∙ sym c.as_slice-2.ensures)) c.ne.ensures c.if-ne.true)
