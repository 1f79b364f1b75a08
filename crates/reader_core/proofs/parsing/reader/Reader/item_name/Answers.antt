use Rattle.std.proofs.Common.{refl, ◌∙◌, ◌≡◌, None, Some, ap, sym, map, List}
use Rattle.lexer_core.specs.Lexing as lexemes
use Rattle.lexer_core.specs.declared.token.TokenKind.{TokenKind}
use Rattle.lexer_core.specs.declared.token.TokenKind.TheVariants as kinds
use Rattle.reader_core.specs.Grammar.{item_fault, AnyName}
use Rattle.reader_core.specs.Cursor.{fault_of}
use Rattle.reader_core.specs.Sentences.{names_rule}
use Rattle.reader_core.proofs.Exits.{exits}
use Rattle.reader_core.proofs.Taking.{said_by_kind}
use Rattle.reader_core.proofs.Lists.{item_bad, item_misfit_so, item_taken, firsts_length}
use Rattle.reader_core.proofs.parsing.reader.Reader.item_name.Goals as goal

pub returns-in_err-name-clause-leads : goal.returns-in_err-name-clause-leads
returns-in_err-name-clause-leads g c = λ i.
    let seen : List TokenKind = map (λ x. kinds.Name (g.T.Named.name_of x)) c.args.items.now in
    exits _ _ _ _ _ _ _ c.from_residual.ensures.1 (item_misfit_so c.args.self.now (names_rule c.args.limit) seen AnyName i c.in_err-name.field-0.0 c.in_err-name.ensures.err)

pub returns-in_err-check_item-clause-leads : goal.returns-in_err-check_item-clause-leads
returns-in_err-check_item-clause-leads g c = λ i.
    let n = c.in_ok-name.name in
    let seen : List TokenKind = map (λ x. kinds.Name (g.T.Named.name_of x)) c.args.items.now in
    let ch = c.in_err-check_item.ensures in
    let m : item_fault (names_rule c.args.limit) seen (kinds.Name n) ≡ Some ch.0 = rw (firsts_length (λ x. kinds.Name (g.T.Named.name_of x)) c.args.items.now, ← c.has_name.ensures) ch.1 in
    exits _ _ _ _ _ _ _ c.from_residual-in_err-check_item.ensures.1 record { fault = λ ne k. item_bad c.args.self.now _ _ _ i k (kinds.Name n) ch.0 c.in_ok-name.ensures.kind refl m ∙ sym (ap fault_of ch.2) }

pub returns-clause-leads : goal.returns-clause-leads
returns-clause-leads g c = λ i.
    let n = c.in_ok-name.name in
    let seen : List TokenKind = map (λ x. kinds.Name (g.T.Named.name_of x)) c.args.items.now in
    let m : item_fault (names_rule c.args.limit) seen (kinds.Name n) ≡ None = rw (firsts_length (λ x. kinds.Name (g.T.Named.name_of x)) c.args.items.now, ← c.has_name.ensures) c.in_ok-check_item.ensures in
    item_taken (names_rule c.args.limit) seen AnyName i (kinds.Name n) (lexemes.Named n) c.in_ok-name.ensures.kind (said_by_kind c.args.self.now (kinds.Name n) (lexemes.Named n) c.in_ok-name.ensures.kind (λ bytes. refl)) refl m c.advance.ensures.rest c.advance.ensures.line

pub returns-clause-faultless : goal.returns-clause-faultless
returns-clause-faultless g c = rw (firsts_length (λ x. kinds.Name (g.T.Named.name_of x)) c.args.items.now, ← c.has_name.ensures) c.in_ok-check_item.ensures
