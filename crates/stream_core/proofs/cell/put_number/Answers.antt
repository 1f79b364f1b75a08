use Rattle.std.proofs.Common.{◌∙◌, sym, subst}
use Rattle.export_core.specs.Record.{IsPlain}
use Rattle.export_core.proofs.CsvLaw.{IsPlain-decimal}
use Rattle.stream_core.proofs.cell.put_number.Goals as goal

pub put_field-requires-clause-plain : goal.put_field-requires-clause-plain
put_field-requires-clause-plain c =
    subst IsPlain (sym (c.as_bytes.ensures.value ∙ c.format.ensures.text)) (IsPlain-decimal c.args.number c.ranges.number.fits)
