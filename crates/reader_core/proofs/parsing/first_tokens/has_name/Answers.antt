use Rattle.std.proofs.Common.{rules, tests, ◌∙◌, sym}
use Rattle.std.proofs.lemmas.Iterator.{YieldsList-from_slice}
use Rattle.std.proofs.lemmas.Iterator.Search.{any_from_yields_List}
use Rattle.lexer_core.specs.declared.token.TokenKind.TheVariants as kinds
use Rattle.reader_core.specs.Grammar.{same}
use Rattle.reader_core.proofs.Lists.{any_first}
use Rattle.reader_core.proofs.parsing.first_tokens.has_name.Goals as goal

pub returns : goal.returns
returns g c = any_from_yields_List (λ x. same (kinds.Name (g.T.Named.name_of x)) (kinds.Name c.args.name)) _ _ c.any.result c.any.ensures.ran (YieldsList-from_slice c.args.items.now cc) (λ x b q k. search (rules, tests)) ∙ sym (any_first (λ x. kinds.Name (g.T.Named.name_of x)) c.args.items.now (kinds.Name c.args.name))
