use Rattle.std.proofs.Common.{◌≡◌, ap, sym, ◌∙◌, length, false}
use Rattle.std.specs.Prelude.{slice_index, ◌==◌}
use Rattle.std.specs.Char.{is_ascii_alphabetic}
use Rattle.lexer_core.specs.Lexing.{starts_number, stray}
use Rattle.lexer_core.proofs.Put.{put, fault_first}
use Rattle.lexer_core.proofs.Marks.{mark_first, none_of}
use Rattle.lexer_core.proofs.Texts.{not_quote}
use Rattle.lexer_core.proofs.lexer.first_token.Goals as goal

pub returns-in-Some : goal.returns-in-Some
returns-in-Some c = put c.args.bytes.now c.args.start _ _ _ _ c.push.result (mark_first c.args.bytes.now c.in-Some.mark _ c.in-Some.ensures (ap length c.text-in-Some.ensures)) c.push.ensures

pub returns-in-None : goal.returns-in-None
returns-in-None c =
    let letter : is_ascii_alphabetic (slice_index c.args.bytes.now 0) ≡ false = ap is_ascii_alphabetic (sym c.byte_at-first.ensures) ∙ (sym c.is_ascii_alphabetic.ensures.value ∙ c.if-is_ascii_alphabetic.false) in
    let number : starts_number c.args.bytes.now ≡ false = sym c.starts_number.ensures ∙ c.if-starts_number.false in
    let quote : (slice_index c.args.bytes.now 0 == 39) ≡ false = not_quote _ (λ e. c.if-first-eq39.false (c.byte_at-first.ensures ∙ e)) in
    fault_first c.args.bytes.now c.args.start _ (stray (none_of _ _ _ _ letter number quote c.in-None.ensures) c.requires.no_blank c.requires.some)
