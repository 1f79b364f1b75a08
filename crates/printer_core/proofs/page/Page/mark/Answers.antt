use Rattle.std.proofs.Common.{◌∙◌}
use Rattle.lexer_core.specs.Lexing.{Sign}
use Rattle.printer_core.proofs.Writing.{whole_token}
use Rattle.printer_core.proofs.page.Page.mark.Goals as goal

pub returns : goal.returns
returns c = whole_token (Sign c.args.mark) tt (rw c.from_mark.ensures at c.begin.ensures) (c.as_bytes.ensures.value ∙ c.text.ensures)
