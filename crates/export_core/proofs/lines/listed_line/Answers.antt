use Rattle.std.proofs.Common.{◌≡◌, Some, sym, ap, ◌∙◌}
use Rattle.std.specs.List.{slice_get}
use Rattle.std.proofs.lemmas.Option.{MatchOption-at_none}
use Rattle.std.proofs.lemmas.Result.{IfOk-weaker}
use Rattle.export_core.specs.Export as lines
use Rattle.export_core.proofs.lines.listed_line.Goals as goal

-- the table's own
pub returns-in-None : goal.returns-in-None
returns-in-None c =
    let all = lines.listed_lines c.args.marks.now c.args.table.now in
    let first : c.args.index ≡ 0 = MatchOption-at_none _ _ c.in-None.is (c.row_at.ensures c.args.marks.now) in
    IfOk-weaker c.table_line.result _ _ (λ line made. ap (slice_get all) first ∙ ap Some (sym made)) c.table_line.ensures
