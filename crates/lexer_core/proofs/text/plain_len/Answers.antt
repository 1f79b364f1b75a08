use Rattle.lexer_core.proofs.Chars.{control_is_not_plain}
use Rattle.lexer_core.proofs.text.plain_len.Goals as goal

pub returns-then-is_control : goal.returns-then-is_control
returns-then-is_control c = control_is_not_plain c.args.bytes.now c.in_ok-first.ensures.0 c.in_ok-first.first c.in_ok-first.ensures.1 c.if-is_control.ensures
