use Rattle.std.proofs.Common.{[], sym}
use Rattle.base_core.specs.declared.keyword.Keyword.TheVariants as keywords
use Rattle.reader_core.specs.Grammar.{Grammar, Items, Key}
use Rattle.reader_core.specs.Sentences.{conditions_rule, condition_item}
use Rattle.reader_core.specs.Saying.{filter_says}
use Rattle.reader_core.proofs.Choosing.{skipped, entered}
use Rattle.reader_core.proofs.parsing.reader.Reader.filter.Goals as goal

abbrev behind : Grammar → Grammar
behind k = Items conditions_rule [] condition_item k

pub returns-then-not-at_keyword : goal.returns-then-not-at_keyword
returns-then-not-at_keyword c = rw c.none.ensures (skipped (Key keywords.Where) behind c.args.self.now (sym c.if-not-at_keyword.ensures.next))

pub returns : goal.returns
returns c = entered (Key keywords.Where) behind (λ k. k) c.args.self.now (λ cs. filter_says cs) c.conditions.result c.conditions.new.self (sym c.if-not-at_keyword.ensures.next) c.conditions.ensures
