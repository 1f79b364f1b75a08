use Rattle.std.proofs.Common.{refl, sym}
use Rattle.std.proofs.lemmas.List.{take_rest}
use Rattle.messages_core.proofs.Texts.{text_up_to, no_text}
use Rattle.messages_core.proofs.fields.text_at.Goals as goal

pub returns-in_err-end : goal.returns-in_err-end
returns-in_err-end c =
    rw (no_text c.args.bytes.now c.in_err-end.ensures.none, c.from_residual.ensures) refl

pub returns : goal.returns
returns c =
    let e = c.in_ok-end.ensures in
    rw take_rest (sym (text_up_to c.args.bytes.now c.in_ok-end.end e.within e.zero e.first))
