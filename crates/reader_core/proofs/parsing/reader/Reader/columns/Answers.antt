use Rattle.std.proofs.Common.{sym}
use Rattle.lexer_core.specs.declared.token.Mark.TheVariants as marks
use Rattle.reader_core.specs.Grammar.{Grammar, One, Sign}
use Rattle.reader_core.specs.Sentences.{name_list}
use Rattle.reader_core.proofs.Exits.{exits}
use Rattle.reader_core.proofs.Choosing.{skipped, entered_takes, entered_faults}
use Rattle.reader_core.proofs.parsing.reader.Reader.columns.Goals as goal

abbrev behind : Grammar → Grammar
behind k = name_list 32 (One (Sign marks.Close) k)

pub returns-then-not-at_mark : goal.returns-then-not-at_mark
returns-then-not-at_mark c = skipped (Sign marks.Open) behind c.args.self.now (sym c.if-not-at_mark.ensures.next)

pub returns-in_err-columns : goal.returns-in_err-columns
returns-in_err-columns c = exits _ _ _ _ _ _ _ c.from_residual.ensures.1 (entered_faults (Sign marks.Open) behind (λ k. k) c.args.self.now (sym c.if-not-at_mark.ensures.next) c.in_err-columns.ensures)

pub returns : goal.returns
returns c = entered_takes (Sign marks.Open) behind (λ k. k) c.args.self.now (sym c.if-not-at_mark.ensures.next) c.in_ok-columns.ensures
