use Rattle.std.proofs.Common.{ℕ, List, ◌∷◌, map, ap}
use Rattle.base_core.proofs.Fronts.{text-same}
use Rattle.messages_core.specs.Fields.{sized, value, counted_items}
use Rattle.messages_core.specs.Rows.{cell_value, data_row}
use Rattle.messages_core.proofs.Pieces.{cells_mapped}
use Rattle.messages_core.proofs.rows.write_data_row.Goals as goal

pub returns : goal.returns
returns g c =
    let cells = c.args.cells.now in
    text-same g.W.Sink.failed g.W.Sink.taken _ _ (68 ∷ sized (counted_items (λ x. value (cell_value x)) cells)) (data_row (map cell_value cells))
    c.write_counted.result (ap (λ (bytes : List ℕ). 68 ∷ sized bytes) (cells_mapped cells)) c.write_counted.ensures
