use Rattle.std.proofs.Common.{ℕ, List, ◌∷◌, ◌++◌, [], map}
use Rattle.base_core.specs.declared.condition.Assignment.{Assignment}
use Rattle.lexer_core.specs.declared.token.TokenKind.TheVariants as kinds
use Rattle.lexer_core.specs.declared.token.Mark.TheVariants as marks
use Rattle.reader_core.specs.Grammar.{Grammar, One, More, Sign, AnyLiteral, End}
use Rattle.reader_core.specs.Sentences.{names_rule, set_item}
use Rattle.reader_core.proofs.Exits.{exits}
use Rattle.reader_core.proofs.Joining.{fault_behind, joined}
use Rattle.reader_core.proofs.Lists.{firsts_push}
use Rattle.reader_core.proofs.parsing.items.AssignmentItem.read.Goals as goal

abbrev rest : Grammar
rest = One (Sign marks.Equal) (One AnyLiteral End)

abbrev behind : List Assignment → List ℕ → Grammar → Grammar
behind before name k = More (names_rule 32) (map (λ x. kinds.Name x.column) before ++ kinds.Name name ∷ []) set_item k

pub returns-in_err-column-clause-leads : goal.returns-in_err-column-clause-leads
returns-in_err-column-clause-leads c = exits _ _ _ _ _ _ _ c.from_residual.ensures.1 (c.in_err-column.ensures.leads rest)

pub returns-in_err-mark-clause-leads : goal.returns-in_err-mark-clause-leads
returns-in_err-mark-clause-leads c = exits _ _ _ _ _ _ _ c.from_residual-in_err-mark.ensures.1 (fault_behind (λ k. One AnyLiteral (behind c.args.before.now c.in_ok-column.column k)) (c.in_ok-column.ensures.leads rest) c.in_err-mark.ensures)

pub returns-in_err-value-clause-leads : goal.returns-in_err-value-clause-leads
returns-in_err-value-clause-leads c =
    let front = joined (λ k. One AnyLiteral (behind c.args.before.now c.in_ok-column.column k)) (c.in_ok-column.ensures.leads rest) c.in_ok-mark.ensures in
    exits _ _ _ _ _ _ _ c.from_residual-in_err-value.ensures.1 (fault_behind (behind c.args.before.now c.in_ok-column.column) front c.in_err-value.ensures)

pub returns-clause-leads : goal.returns-clause-leads
returns-clause-leads c =
    let set : Assignment = record { column = c.in_ok-column.column; value = c.in_ok-value.value } in
    let front = joined (λ k. One AnyLiteral (behind c.args.before.now c.in_ok-column.column k)) (c.in_ok-column.ensures.leads rest) c.in_ok-mark.ensures in
    rw (firsts_push (λ x. kinds.Name x.column) c.args.before.now set) (joined (behind c.args.before.now c.in_ok-column.column) front c.in_ok-value.ensures)
