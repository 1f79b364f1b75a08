use Rattle.std.proofs.Common.{ap, ◌∙◌}
use Rattle.std.specs.Fmt.{signed_decimal}
use Rattle.std.proofs.lemmas.Int.{to_z-of_z}
use mir.Syntax.{w64}
use Rattle.lexer_core.specs.Lexing.{Number}
use Rattle.printer_core.proofs.Writing.{whole_token}
use Rattle.printer_core.proofs.page.Page.number.Goals as goal

pub returns : goal.returns
returns c =
    whole_token (Number c.args.number) c.ranges.number c.begin.ensures
    (c.as_bytes.ensures.value ∙ c.format.ensures.text ∙ ap signed_decimal (to_z-of_z w64 c.args.number c.ranges.number))
