use Rattle.std.proofs.Common.{◌≡◌, take, map}
use Rattle.export_core.specs.Export.{holds_now}
use Rattle.export_core.proofs.judgement.marked_now.Given as goal

abbrev pub invariant-loop-column : goal.invariant-loop-column
invariant-loop-column g l = l.marks.items ≡ map (λ c. holds_now (g.A.Authority.content l.rights) l.user l.table.name c.name) (take l.column-index l.columns)
