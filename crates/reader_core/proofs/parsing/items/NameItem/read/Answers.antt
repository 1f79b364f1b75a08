use Rattle.std.proofs.Common.{◌∷◌, ◌++◌, [], map, sym, ap}
use Rattle.lexer_core.specs.declared.token.TokenKind.TheVariants as kinds
use Rattle.reader_core.specs.Grammar.{Items, More, End}
use Rattle.reader_core.specs.Sentences.{names_rule, name_item}
use Rattle.reader_core.specs.Saying.{name_says}
use Rattle.reader_core.proofs.Choosing.{leads_so}
use Rattle.reader_core.proofs.Lists.{firsts_push}
use Rattle.reader_core.proofs.parsing.items.NameItem.read.Goals as goal

pub returns-clause-leads : goal.returns-clause-leads
returns-clause-leads c =
    let before = c.args.before.now in
    leads_so (λ k. Items (names_rule 32) (map (λ x. kinds.Name x) before) name_item k) (λ n k. More (names_rule 32) (map (λ x. kinds.Name x) before ++ kinds.Name n ∷ []) name_item k) (λ n k. More (names_rule 32) (map (λ x. kinds.Name x) (before ++ n ∷ [])) name_item k) name_says c.item_name.result c.args.reader.now c.item_name.new.self
    (λ n k. ap (λ seen. More (names_rule 32) seen name_item k) (sym (firsts_push (λ x. kinds.Name x) before n))) (c.item_name.ensures.leads End)
