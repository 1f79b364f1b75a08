use Rattle.std.proofs.Common.{refl, ◌∙◌, ◌≡◌, None, Some, sym, ap, map, List}
use Rattle.lexer_core.specs.Lexing as lexemes
use Rattle.lexer_core.specs.declared.token.TokenKind.{TokenKind}
use Rattle.lexer_core.specs.declared.token.TokenKind.TheVariants as kinds
use Rattle.reader_core.specs.Grammar.{Grammar, item_fault, One, End, AnyName, AnyTest, AnyLiteral}
use Rattle.reader_core.specs.Cursor.{fault_of}
use Rattle.reader_core.specs.Sentences.{conditions_rule}
use Rattle.reader_core.proofs.Exits.{exits}
use Rattle.reader_core.proofs.Taking.{said_by_kind}
use Rattle.reader_core.proofs.Lists.{item_bad, item_misfit_so, item_taken, firsts_length}
use Rattle.reader_core.proofs.parsing.reader.Reader.tested_column.Goals as goal

abbrev rest : Grammar
rest = One AnyTest (One AnyLiteral End)

pub returns-in_err-column-clause-leads : goal.returns-in_err-column-clause-leads
returns-in_err-column-clause-leads c =
    let seen : List TokenKind = map (λ x. kinds.Name x.column) c.args.before.now in
    exits _ _ _ _ _ _ _ c.from_residual.ensures.1 (item_misfit_so c.args.self.now conditions_rule seen AnyName rest c.in_err-column.field-0.0 c.in_err-column.ensures.err)

pub returns-in_err-check_item-clause-leads : goal.returns-in_err-check_item-clause-leads
returns-in_err-check_item-clause-leads c =
    let n = c.in_ok-column.column in
    let seen : List TokenKind = map (λ x. kinds.Name x.column) c.args.before.now in
    let ch = c.in_err-check_item.ensures in
    let m : item_fault conditions_rule seen (kinds.Name n) ≡ Some ch.0 = rw (firsts_length (λ x. kinds.Name x.column) c.args.before.now) ch.1 in
    exits _ _ _ _ _ _ _ c.from_residual-in_err-check_item.ensures.1 record { fault = λ ne k. item_bad c.args.self.now conditions_rule seen AnyName rest k (kinds.Name n) ch.0 c.in_ok-column.ensures.kind refl m ∙ sym (ap fault_of ch.2) }

pub returns-clause-leads : goal.returns-clause-leads
returns-clause-leads c =
    let n = c.in_ok-column.column in
    let seen : List TokenKind = map (λ x. kinds.Name x.column) c.args.before.now in
    let m : item_fault conditions_rule seen (kinds.Name n) ≡ None = rw (firsts_length (λ x. kinds.Name x.column) c.args.before.now) c.in_ok-check_item.ensures in
    item_taken conditions_rule seen AnyName rest (kinds.Name n) (lexemes.Named n) c.in_ok-column.ensures.kind (said_by_kind c.args.self.now (kinds.Name n) (lexemes.Named n) c.in_ok-column.ensures.kind (λ bytes. refl)) refl m c.advance.ensures.rest c.advance.ensures.line
