use Rattle.std.proofs.Common.{sym, ap, ◌∙◌}
use Rattle.std.specs.List.{list_all}
use Rattle.export_core.specs.Marks.{marks_kept}
use Rattle.export_core.proofs.Cutting.{all-each}
use Rattle.export_core.proofs.marks.Marks.cut.Goals as goal

pub returns-in-Whole : goal.returns-in-Whole
returns-in-Whole c = ap (list_all (λ mark. mark)) (sym c.self.view_is ∙ ap marks_kept c.in-Whole.is) ∙ all-each c.in-Whole.field-0
