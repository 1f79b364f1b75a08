use Rattle.std.proofs.Common.{◌≡◌, None, Some, map, List}
use Rattle.lexer_core.specs.declared.token.TokenKind.{TokenKind}
use Rattle.lexer_core.specs.declared.token.TokenKind.TheVariants as kinds
use Rattle.reader_core.specs.Grammar.{item_fault}
use Rattle.reader_core.specs.Privileges.{word_of, word_keyword}
use Rattle.reader_core.specs.Sentences.{privileges_rule}
use Rattle.reader_core.proofs.Exits.{exits}
use Rattle.reader_core.proofs.Lists.{firsts_length}
use Rattle.reader_core.proofs.Words.{word_bad_at, word_misfit_so, word_taken}
use Rattle.reader_core.proofs.parsing.reader.Reader.item_word.Goals as goal

pub returns-in_err-word-clause-leads : goal.returns-in_err-word-clause-leads
returns-in_err-word-clause-leads c =
    let seen : List TokenKind = map (λ p. kinds.Keyword (word_keyword (word_of p))) c.args.before.now in
    exits _ _ _ _ _ _ _ c.from_residual.ensures.1 (word_misfit_so c.args.self.now seen c.in_err-word.field-0.0 c.in_err-word.ensures.err)

pub returns-in_err-check_item-clause-leads : goal.returns-in_err-check_item-clause-leads
returns-in_err-check_item-clause-leads c =
    let w = c.in_ok-word.word in
    let seen : List TokenKind = map (λ p. kinds.Keyword (word_keyword (word_of p))) c.args.before.now in
    let ch = c.in_err-check_item.ensures in
    let m : item_fault privileges_rule seen (kinds.Keyword (word_keyword w)) ≡ Some ch.0 = rw (firsts_length (λ p. kinds.Keyword (word_keyword (word_of p))) c.args.before.now, ← c.has_word.ensures) ch.1 in
    exits _ _ _ _ _ _ _ c.from_residual-in_err-check_item.ensures.1 (word_bad_at c.args.self.now seen w ch.0 c.in_err-check_item.field-0.0 c.in_ok-word.ensures.kind m ch.2)

pub returns-clause-leads : goal.returns-clause-leads
returns-clause-leads c =
    let w = c.in_ok-word.word in
    let seen : List TokenKind = map (λ p. kinds.Keyword (word_keyword (word_of p))) c.args.before.now in
    let m : item_fault privileges_rule seen (kinds.Keyword (word_keyword w)) ≡ None = rw (firsts_length (λ p. kinds.Keyword (word_keyword (word_of p))) c.args.before.now, ← c.has_word.ensures) c.in_ok-check_item.ensures in
    word_taken seen w c.in_ok-word.ensures.kind m c.advance.ensures.rest c.advance.ensures.line
