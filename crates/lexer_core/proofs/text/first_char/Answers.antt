use Rattle.std.proofs.Common.{◌∙◌}
use Rattle.lexer_core.proofs.Chars.{char_first, no_char_in_empty, four}
use Rattle.lexer_core.proofs.text.first_char.Goals as goal

pub returns-in_err-next : goal.returns-in_err-next
returns-in_err-next c = rw c.from_residual.ensures (no_char_in_empty c.args.bytes.now c.utf8_chunks.result.rest.now (c.utf8_chunks.ensures.rest ∙ four c.args.bytes.now c.min.result c.min.ensures) c.in_err-next.ensures.steps.0)

pub returns : goal.returns
returns c =
    let steps = c.in_ok-next.ensures.steps in
    char_first _ c.args.bytes.now c.utf8_chunks.result.rest.now c.in_ok-next.field-0.valid.now _ c.chars.result.rest.now _ c.next-2.result
    (c.utf8_chunks.ensures.rest ∙ four c.args.bytes.now c.min.result c.min.ensures) steps.0 steps.3.0 (c.chars.ensures.rest ∙ c.valid.ensures) c.next-2.ensures.steps.0
