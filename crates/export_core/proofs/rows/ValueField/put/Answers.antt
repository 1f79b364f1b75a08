use Rattle.std.proofs.Common.{rules}
use Rattle.export_core.proofs.CsvLaw.{IsPlain-signed_decimal}
use Rattle.export_core.proofs.rows.ValueField.put.Goals as goal

pub put_field-requires-clause-plain : goal.put_field-requires-clause-plain
put_field-requires-clause-plain c = rw (c.as_bytes.ensures.value, c.format.ensures.text) (IsPlain-signed_decimal _ (search rules))
