use Rattle.export_core.proofs.CsvLaw.{first_field-appended}
use Rattle.export_core.proofs.record.begin.Goals as goal

pub returns-clause-text : goal.returns-clause-text
returns-clause-text c = first_field-appended _ _ _ _ _ c.requires.between.setup c.requires.plain c.requires.between.none c.in-Ok.ensures.text
