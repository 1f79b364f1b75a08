use Rattle.std.proofs.Common.{◌++◌, ◌∷◌, [], map}
use Rattle.lexer_core.specs.declared.token.TokenKind.TheVariants as kinds
use Rattle.reader_core.specs.Grammar.{One, More, AnyType, End}
use Rattle.reader_core.specs.Sentences.{names_rule, column_item}
use Rattle.base_core.specs.declared.value.Column.{Column}
use Rattle.reader_core.proofs.Exits.{exits}
use Rattle.reader_core.proofs.Joining.{fault_behind, joined}
use Rattle.reader_core.proofs.Lists.{firsts_push}
use Rattle.reader_core.proofs.parsing.items.ColumnItem.read.Goals as goal

pub returns-in_err-name-clause-leads : goal.returns-in_err-name-clause-leads
returns-in_err-name-clause-leads c = exits _ _ _ _ _ _ _ c.from_residual.ensures.1 (c.in_err-name.ensures.leads (One AnyType End))

pub returns-in_err-ty-clause-leads : goal.returns-in_err-ty-clause-leads
returns-in_err-ty-clause-leads c = exits _ _ _ _ _ _ _ c.from_residual-in_err-ty.ensures.1 (fault_behind (λ k. More (names_rule 32) (map (λ x. kinds.Name x.name) c.args.before.now ++ kinds.Name c.in_ok-name.name ∷ []) column_item k) (c.in_ok-name.ensures.leads (One AnyType End)) c.in_err-ty.ensures)

pub returns-clause-leads : goal.returns-clause-leads
returns-clause-leads c =
    let column : Column = record { name = c.in_ok-name.name; ty = c.in_ok-ty.ty } in
    rw (firsts_push (λ x. kinds.Name x.name) c.args.before.now column) (joined (λ k. More (names_rule 32) (map (λ x. kinds.Name x.name) c.args.before.now ++ kinds.Name c.in_ok-name.name ∷ []) column_item k) (c.in_ok-name.ensures.leads (One AnyType End)) c.in_ok-ty.ensures)
