use Rattle.export_core.proofs.CsvLaw.{field-appended}
use Rattle.export_core.proofs.record.put_field.Goals as goal

pub returns-clause-text : goal.returns-clause-text
returns-clause-text c = field-appended _ _ _ _ _ c.requires.begun.setup c.requires.plain c.requires.begun.some c.in-Ok.ensures.text
