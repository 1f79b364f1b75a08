use Rattle.std.proofs.Common.{sym, ◌∙◌, ap}
use Rattle.base_core.specs.Words.{is_word_byte}
use Rattle.lexer_core.proofs.Put.{put, fault_first}
use Rattle.lexer_core.proofs.Numbers.{unsigned, numeral, number_first, too_great, joined}
use Rattle.lexer_core.proofs.number.number.Goals as goal

pub value-requires-clause-unsigned : goal.value-requires-clause-unsigned
value-requires-clause-unsigned c = unsigned c.args.bytes.now c.number_len-len.result c.number_len-len.ensures.len c.number_len-len.ensures.within c.requires.starts

pub value-requires-clause-digits : goal.value-requires-clause-digits
value-requires-clause-digits c = numeral c.args.bytes.now c.number_len-len.result c.number_len-len.ensures.len c.number_len-len.ensures.within c.requires.starts

pub returns-then-is_word_byte : goal.returns-then-is_word_byte
returns-then-is_word_byte c = fault_first c.args.bytes.now c.args.start _ (joined c.args.bytes.now c.number_len-len.result c.number_len-len.ensures.len c.number_len-len.ensures.within c.requires.starts (ap is_word_byte (sym c.byte_at.ensures) ∙ (sym c.is_word_byte.ensures ∙ c.if-is_word_byte.true)))

pub returns-in-Some : goal.returns-in-Some
returns-in-Some c = put c.args.bytes.now c.args.start _ _ _ _ c.push.result (number_first c.args.bytes.now c.number_len-len.result c.number_len-len.ensures.len c.number_len-len.ensures.within c.requires.starts c.in-Some.number c.in-Some.ensures (ap is_word_byte (sym c.byte_at.ensures) ∙ (sym c.is_word_byte.ensures ∙ c.if-is_word_byte.false))) c.push.ensures

pub returns-in-None : goal.returns-in-None
returns-in-None c = fault_first c.args.bytes.now c.args.start _ (too_great c.args.bytes.now c.number_len-len.result c.number_len-len.ensures.len c.number_len-len.ensures.within c.requires.starts c.in-None.ensures)
