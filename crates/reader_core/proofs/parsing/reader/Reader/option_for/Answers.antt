use Rattle.std.proofs.Common.{sym}
use Rattle.base_core.specs.declared.keyword.Keyword.TheVariants as keywords
use Rattle.reader_core.specs.Grammar.{Grammar, One, Key}
use Rattle.reader_core.proofs.Exits.{exits}
use Rattle.reader_core.proofs.Choosing.{skipped, entered_takes, entered_faults}
use Rattle.reader_core.proofs.parsing.reader.Reader.option_for.Goals as goal

abbrev behind : Grammar → Grammar
behind k = One (Key keywords.Option) (One (Key keywords.For) k)

pub returns-then-not-at_keyword : goal.returns-then-not-at_keyword
returns-then-not-at_keyword c = skipped (Key keywords.Grant) behind c.args.self.now (sym c.if-not-at_keyword.ensures.next)

pub returns-in_err-grant_option_for : goal.returns-in_err-grant_option_for
returns-in_err-grant_option_for c = exits _ _ _ _ _ _ _ c.from_residual.ensures.1 (entered_faults (Key keywords.Grant) behind (λ k. k) c.args.self.now (sym c.if-not-at_keyword.ensures.next) c.in_err-grant_option_for.ensures)

pub returns : goal.returns
returns c = entered_takes (Key keywords.Grant) behind (λ k. k) c.args.self.now (sym c.if-not-at_keyword.ensures.next) c.in_ok-grant_option_for.ensures
