use Rattle.std.proofs.Common.{sym}
use Rattle.base_core.specs.declared.keyword.Keyword.TheVariants as keywords
use Rattle.reader_core.specs.Grammar.{Grammar, One, AnyName, Key}
use Rattle.reader_core.proofs.Exits.{exits}
use Rattle.reader_core.proofs.Choosing.{skipped, entered_takes, entered_faults}
use Rattle.reader_core.proofs.parsing.reader.Reader.only.Goals as goal

abbrev behind : Grammar → Grammar
behind k = One AnyName k

pub returns-then-not-at_keyword : goal.returns-then-not-at_keyword
returns-then-not-at_keyword c = skipped (Key keywords.Only) behind c.args.self.now (sym c.if-not-at_keyword.ensures.next)

pub returns-in_err-table : goal.returns-in_err-table
returns-in_err-table c = exits _ _ _ _ _ _ _ c.from_residual.ensures.1 (entered_faults (Key keywords.Only) behind (λ k. k) c.args.self.now (sym c.if-not-at_keyword.ensures.next) c.in_err-table.ensures)

pub returns : goal.returns
returns c = entered_takes (Key keywords.Only) behind (λ k. k) c.args.self.now (sym c.if-not-at_keyword.ensures.next) c.in_ok-table.ensures
