use Rattle.std.proofs.Common.{refl}
use Rattle.reader_core.specs.Grammar.{AnyName}
use Rattle.lexer_core.specs.Lexing as lexemes
use Rattle.lexer_core.specs.declared.token.TokenKind.TheVariants as kinds
use Rattle.reader_core.proofs.Taking.{kind_taken, missing_so}
use Rattle.reader_core.proofs.Exits.{exits}
use Rattle.reader_core.proofs.parsing.reader.Reader.name.Goals as goal

pub returns-in_err-name : goal.returns-in_err-name
returns-in_err-name c = exits _ _ _ _ _ _ _ c.from_residual.ensures.1 (missing_so c.args.self.now AnyName c.in_err-name.field-0.0 c.in_err-name.ensures.err)

pub returns : goal.returns
returns c = kind_taken c.args.self.now c.advance.new.self AnyName (kinds.Name c.in_ok-name.name) (lexemes.Named c.in_ok-name.name) c.in_ok-name.ensures.kind refl (λ bytes. refl) c.advance.ensures.rest c.advance.ensures.line
