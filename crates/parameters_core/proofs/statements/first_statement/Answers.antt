use Rattle.std.proofs.Common.{◌+◌, ◌<◌, length, arith}
use Rattle.std.proofs.lemmas.List.{take_rest}
use Rattle.parameters_core.proofs.Cuts.{first_with, last_with}
use Rattle.parameters_core.proofs.statements.first_statement.Goals as goal

pub returns-then-len-text : goal.returns-then-len-text
returns-then-len-text c =
    let text = c.args.text.now in
    let n = c.statement_len-len.result in
    let h : n < length text = omega arith in
    first_with text _ n h c.statement_len-len.ensures.one (c.statement_len-len.ensures.closed h) (c.statement_len-len.ensures.ends h) (take_rest text (n + 1))

pub returns-else-len-text : goal.returns-else-len-text
returns-else-len-text c = last_with c.args.text.now c.statement_len-len.result (omega arith) c.statement_len-len.ensures.one
