use Rattle.std.proofs.Common.{refl}
use Rattle.lexer_core.specs.Lexing as lexemes
use Rattle.lexer_core.specs.declared.token.TokenKind.TheVariants as kinds
use Rattle.reader_core.specs.Grammar.{AnyTest}
use Rattle.reader_core.specs.Saying.{comparison_mark}
use Rattle.reader_core.proofs.Taking.{kind_taken, missing_so, comparison_fits}
use Rattle.reader_core.proofs.Exits.{exits}
use Rattle.reader_core.proofs.parsing.reader.Reader.comparison.Goals as goal

pub returns-in_err-comparison : goal.returns-in_err-comparison
returns-in_err-comparison c = exits _ _ _ _ _ _ _ c.from_residual.ensures.1 (missing_so c.args.self.now AnyTest c.in_err-comparison.field-0.0 c.in_err-comparison.ensures.err)

pub returns : goal.returns
returns c =
    let m = comparison_mark c.in_ok-comparison.comparison in
    kind_taken c.args.self.now c.advance.new.self AnyTest (kinds.Mark m) (lexemes.Sign m) c.in_ok-comparison.ensures.kind (comparison_fits c.in_ok-comparison.comparison) (λ bytes. refl) c.advance.ensures.rest c.advance.ensures.line
