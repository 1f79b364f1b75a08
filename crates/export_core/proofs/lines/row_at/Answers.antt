use Rattle.std.proofs.Common.{◌-◌, get_or, ap, ◌∙◌}
use Rattle.export_core.proofs.Listing.{listed_row}
use Rattle.export_core.proofs.lines.row_at.Goals as goal

pub returns : goal.returns
returns c = λ marks.
    let row = c.index-as_slice-index.result in
    listed_row marks c.args.table.now c.args.index row c.if-index-eq0.false c.requires (c.index-as_slice-index.is ∙ ap (λ rows. get_or rows (c.args.index - 1) row) c.as_slice.ensures)
