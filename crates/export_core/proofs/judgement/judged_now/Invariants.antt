use Rattle.std.proofs.Common.{◌≡◌, take, map}
use Rattle.export_core.specs.Walk.{by_rights}
use Rattle.export_core.proofs.judgement.judged_now.Given as goal

abbrev pub invariant-loop-table : goal.invariant-loop-table
invariant-loop-table g l = l.judged.items ≡ map (by_rights (g.A.Authority.content l.rights) l.user) (take l.table-index l.tables)
