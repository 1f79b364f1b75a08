use Rattle.std.proofs.Common.{sym}
use Rattle.lexer_core.specs.Lexing as lexemes
use Rattle.lexer_core.specs.declared.token.Mark.TheVariants as marks
use Rattle.reader_core.specs.Grammar.{Grammar, Sign}
use Rattle.reader_core.specs.Sentences.{name_list}
use Rattle.reader_core.proofs.Exits.{exits}
use Rattle.reader_core.proofs.Taking.{one_taken}
use Rattle.reader_core.proofs.Choosing.{entered_takes, passed_takes, passed_faults}
use Rattle.reader_core.proofs.parsing.reader.Reader.selection.Goals as goal

abbrev names : Grammar → Grammar
names k = name_list 32 k

pub returns-then-at_mark : goal.returns-then-at_mark
returns-then-at_mark c = entered_takes (Sign marks.Star) (λ k. k) names c.args.self.now (sym c.if-at_mark.ensures.next) (one_taken c.args.self.now c.advance.new.self (Sign marks.Star) (lexemes.Sign marks.Star) (sym c.if-at_mark.ensures.next) (c.at_mark.ensures.lexeme c.if-at_mark.true) c.advance.ensures.rest c.advance.ensures.line)

pub returns-in_err-names : goal.returns-in_err-names
returns-in_err-names c = exits _ _ _ _ _ _ _ c.from_residual.ensures.1 (passed_faults (Sign marks.Star) (λ k. k) names c.args.self.now (sym c.if-at_mark.ensures.next) c.in_err-names.ensures)

pub returns : goal.returns
returns c = passed_takes (Sign marks.Star) (λ k. k) names c.args.self.now (sym c.if-at_mark.ensures.next) c.in_ok-names.ensures
