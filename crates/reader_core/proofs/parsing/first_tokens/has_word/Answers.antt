use Rattle.std.proofs.Common.{rules, tests, ◌∙◌, sym}
use Rattle.std.proofs.lemmas.Iterator.{YieldsList-from_slice}
use Rattle.std.proofs.lemmas.Iterator.Search.{any_from_yields_List}
use Rattle.lexer_core.specs.declared.token.TokenKind.TheVariants as kinds
use Rattle.reader_core.specs.Grammar.{same}
use Rattle.reader_core.specs.Privileges.{word_of, word_keyword}
use Rattle.reader_core.proofs.Lists.{any_first}
use Rattle.reader_core.proofs.parsing.first_tokens.has_word.Goals as goal

pub returns : goal.returns
returns c = any_from_yields_List (λ x. same (kinds.Keyword (word_keyword (word_of x))) (kinds.Keyword (word_keyword c.args.word))) _ _ c.any.result c.any.ensures.ran (YieldsList-from_slice c.args.privileges.now cc) (λ x b q k. search (rules, tests)) ∙ sym (any_first (λ x. kinds.Keyword (word_keyword (word_of x))) c.args.privileges.now (kinds.Keyword (word_keyword c.args.word)))
