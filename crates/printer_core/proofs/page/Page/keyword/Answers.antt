use Rattle.std.proofs.Common.{◌∙◌}
use Rattle.lexer_core.specs.Lexing.{Key}
use Rattle.printer_core.proofs.Writing.{whole_token}
use Rattle.printer_core.proofs.page.Page.keyword.Goals as goal

pub returns : goal.returns
returns c = whole_token (Key c.args.keyword) tt c.begin.ensures (c.as_bytes.ensures.value ∙ c.text.ensures)
