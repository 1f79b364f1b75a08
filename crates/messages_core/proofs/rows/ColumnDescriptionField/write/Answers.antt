use Rattle.std.proofs.Common.{◌≡◌, [], ◌∷◌, ◌++◌, append_assoc, sym}
use Rattle.base_core.proofs.Fronts.{front-first, text-broken, text-then, text-same}
use Rattle.messages_core.specs.Rows.{described, behind_name, column_tail}
use Rattle.messages_core.specs.declared.rows.ColumnDescription.{ColumnDescription}
use Rattle.messages_core.proofs.rows.ColumnDescriptionField.write.Goals as goal

-- the zero byte ends the name
told : (c : ColumnDescription) → c.name ++ column_tail c.ty c.format ≡ described c
told c = sym (append_assoc c.name (0 ∷ []) (behind_name c.ty c.format))

pub returns-in_err-write_all : goal.returns-in_err-write_all
returns-in_err-write_all g c =
    let column = c.args.self.now in
    text-same g.W.Sink.failed g.W.Sink.taken _ _ (column.name ++ column_tail column.ty column.format) (described column) c.from_residual.result (told column)
    (text-broken g.W.Sink.failed g.W.Sink.taken _ _ (column.name ++ column_tail column.ty column.format) c.from_residual.result c.from_residual.ensures.0
    (c.in_err-write_all.ensures.0, front-first _ _ column.name (column_tail column.ty column.format) (rw c.as_slice.ensures at c.in_err-write_all.ensures.1)))

pub returns : goal.returns
returns g c =
    let column = c.args.self.now in
    text-same g.W.Sink.failed g.W.Sink.taken _ _ (column.name ++ column_tail column.ty column.format) (described column) c.write_all-2.result (told column)
    (text-then g.W.Sink.failed g.W.Sink.taken _ _ _ column.name (column_tail column.ty column.format) c.write_all-2.result
    (rw c.as_slice.ensures at c.in_ok-write_all.ensures.1) (rw c.column_tail.ensures at c.write_all-2.ensures))
