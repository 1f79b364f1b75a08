use Rattle.std.proofs.Common.{◌<◌, ℕ, List, ◌∙◌, length, sym, subst}
use Rattle.std.proofs.lemmas.Fmt.{decimal_nonempty}
use Rattle.export_core.specs.Record.{IsPlain}
use Rattle.export_core.proofs.CsvLaw.{IsPlain-decimal}
use Rattle.stream_core.proofs.telling.put_head.Goals as goal

pub begin-requires-clause-some : goal.begin-requires-clause-some
begin-requires-clause-some c =
    let Some_bytes : List ℕ → Type 0 = λ text. 0 < length text in
    subst Some_bytes (sym (c.as_bytes.ensures.value ∙ c.format.ensures.text)) (decimal_nonempty c.args.moment c.ranges.moment.fits)

pub begin-requires-clause-plain : goal.begin-requires-clause-plain
begin-requires-clause-plain c =
    subst IsPlain (sym (c.as_bytes.ensures.value ∙ c.format.ensures.text)) (IsPlain-decimal c.args.moment c.ranges.moment.fits)
