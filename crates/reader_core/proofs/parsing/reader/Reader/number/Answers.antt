use Rattle.std.proofs.Common.{refl, pos}
use Rattle.lexer_core.specs.Lexing as lexemes
use Rattle.lexer_core.specs.declared.token.TokenKind.TheVariants as kinds
use Rattle.reader_core.specs.Grammar.{AtLeastOne}
use Rattle.reader_core.proofs.Taking.{kind_taken, missing_so}
use Rattle.reader_core.proofs.Exits.{exits}
use Rattle.reader_core.proofs.parsing.reader.Reader.number.Goals as goal

pub returns-in_err-number : goal.returns-in_err-number
returns-in_err-number c = exits _ _ _ _ _ _ _ c.from_residual.ensures.1 (missing_so c.args.self.now AtLeastOne c.in_err-number.field-0.0 c.in_err-number.ensures.err)

pub returns : goal.returns
returns c =
    let n = c.in_ok-number.number in
    kind_taken c.args.self.now c.advance.new.self AtLeastOne (kinds.Number (pos n)) (lexemes.Number (pos n)) c.in_ok-number.ensures.kind c.in_ok-number.ensures.some (λ bytes. refl) c.advance.ensures.rest c.advance.ensures.line
