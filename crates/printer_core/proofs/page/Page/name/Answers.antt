use Rattle.lexer_core.specs.Lexing.{Named}
use Rattle.printer_core.proofs.Writing.{whole_token}
use Rattle.printer_core.proofs.page.Page.name.Goals as goal

pub returns : goal.returns
returns c = whole_token (Named c.args.name.now) c.as_bytes.ensures.name c.begin.ensures c.as_bytes.ensures.value
