use Rattle.std.proofs.Common.{◌≡◌, ℕ, ◌^◌, ◌<◌, List, length, ap, ◌∙◌, arith}
use Rattle.std.specs.Fmt.{decimal}
use Rattle.messages_core.specs.Server.{severity_text}
use Rattle.answer_core.proofs.Sizes.{place_short, severity_short, texts_short_at}
use Rattle.answer_core.proofs.messages.write_problem_at.Goals as goal

pub write_message-requires-clause-short : goal.write_message-requires-clause-short
write_message-requires-clause-short g c =
    let five : length c.new.result ≡ 5 = ap (λ (t : List ℕ). length t) c.new.ensures ∙ c.text.ensures.five in
    let short : length c.new-2.result < 2 ^ 30 = omega (arith, ap (λ (t : List ℕ). length t) c.new-2.ensures, c.requires.short) in
    texts_short_at (severity_text c.args.severity) c.new.result c.new-2.result (decimal c.args.place)
    (severity_short c.args.severity) five short (place_short c.args.place (omega (arith, c.ranges.place)))
