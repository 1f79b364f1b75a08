use Rattle.reader_core.specs.Grammar.{AnyType}
use Rattle.lexer_core.specs.Lexing.{kind_of}
use Rattle.reader_core.specs.Saying.{type_lexeme}
use Rattle.reader_core.proofs.Taking.{kind_taken, missing_so, type_fits, type_said}
use Rattle.reader_core.proofs.Exits.{exits}
use Rattle.reader_core.proofs.parsing.reader.Reader.column_type.Goals as goal

pub returns-in_err-ty : goal.returns-in_err-ty
returns-in_err-ty c = exits _ _ _ _ _ _ _ c.from_residual.ensures.1 (missing_so c.args.self.now AnyType c.in_err-ty.field-0.0 c.in_err-ty.ensures.err)

pub returns : goal.returns
returns c = kind_taken c.args.self.now c.advance.new.self AnyType (kind_of (type_lexeme c.in_ok-ty.ty)) (type_lexeme c.in_ok-ty.ty) c.in_ok-ty.ensures.kind (type_fits c.in_ok-ty.ty) (type_said c.in_ok-ty.ty) c.advance.ensures.rest c.advance.ensures.line
