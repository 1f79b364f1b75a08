use Rattle.std.proofs.Common.{refl, ◌≡◌, None, Some, sym, map, List, false, length}
use Rattle.lexer_core.specs.Lexing.{kind_of}
use Rattle.lexer_core.specs.declared.token.TokenKind.{TokenKind}
use Rattle.reader_core.specs.Grammar.{item_fault, repeated_or_too_many, AnyLiteral, End}
use Rattle.reader_core.specs.Sentences.{comma_separated}
use Rattle.reader_core.specs.Saying.{value_lexeme}
use Rattle.reader_core.proofs.Exits.{exits}
use Rattle.reader_core.proofs.Lists.{item_bad_at, item_misfit_at, item_taken, firsts_length, firsts_push}
use Rattle.reader_core.proofs.Taking.{value_fits}
use Rattle.reader_core.proofs.parsing.items.ValueItem.read.Goals as goal

pub returns-then-not-at_literal-clause-leads : goal.returns-then-not-at_literal-clause-leads
returns-then-not-at_literal-clause-leads c =
    let seen : List TokenKind = map (λ v. kind_of (value_lexeme v)) c.args.before.now in
    item_misfit_at c.args.reader.now (comma_separated 32 false) seen AnyLiteral End c.fault.result c.fault.ensures (sym c.if-not-at_literal.ensures)

pub returns-in_err-check_item-clause-leads : goal.returns-in_err-check_item-clause-leads
returns-in_err-check_item-clause-leads c =
    let seen : List TokenKind = map (λ v. kind_of (value_lexeme v)) c.args.before.now in
    let ch = c.in_err-check_item.ensures in
    let m : repeated_or_too_many false (length seen) 32 ≡ Some ch.0 = rw (firsts_length (λ v. kind_of (value_lexeme v)) c.args.before.now) ch.1 in
    exits _ _ _ _ _ _ _ c.from_residual.ensures.1 (item_bad_at c.args.reader.now (comma_separated 32 false) seen AnyLiteral End ch.0 c.in_err-check_item.field-0.0 refl (sym c.if-not-at_literal.ensures) m ch.2)

pub returns-clause-leads : goal.returns-clause-leads
returns-clause-leads c =
    let v = c.in_ok-value.value in
    let seen : List TokenKind = map (λ x. kind_of (value_lexeme x)) c.args.before.now in
    let m : item_fault (comma_separated 32 false) seen (kind_of (value_lexeme v)) ≡ None = rw (firsts_length (λ x. kind_of (value_lexeme x)) c.args.before.now) c.in_ok-check_item.ensures in
    rw (firsts_push (λ x. kind_of (value_lexeme x)) c.args.before.now v) (item_taken (comma_separated 32 false) seen AnyLiteral End (kind_of (value_lexeme v)) (value_lexeme v) c.in_ok-value.ensures.kind c.in_ok-value.ensures.ok (value_fits v) m c.advance.ensures.rest c.advance.ensures.line)
