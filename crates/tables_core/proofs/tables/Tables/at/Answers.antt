use Rattle.std.proofs.Common.{◌≡◌, Some, slice_get, sym, ap, subst, ◌∙◌}
use Rattle.std.specs.Option.{option_map, IfSome}
use Rattle.std.proofs.lemmas.Option.{slice_get-map}
use Rattle.base_core.specs.declared.name.Name.{Name}
use Rattle.tables_core.specs.Contents.{Table}
use Rattle.tables_core.specs.Capture.{StoredTable, shown_tables}
use Rattle.tables_core.specs.Fitting.{IsWellTyped}
use Rattle.tables_core.proofs.tables.Tables.at.Goals as goal

pub returns-clause-shown : goal.returns-clause-shown
returns-clause-shown c =
    let show : Name × StoredTable → Name × Table = λ t. (t.0, t.1.contents) in
    rw (← c.self.view_is, c.owner.ensures, c.columns.ensures, c.inserted.ensures, c.rows.ensures.rows) (ap (option_map show) c.in_ok-name.ensures.entry ∙ sym (slice_get-map show c.self.inside.tables.entries c.args.index))

pub returns-clause-typed : goal.returns-clause-typed
returns-clause-typed c =
    let show : Name × StoredTable → Name × Table = λ t. (t.0, t.1.contents) in
    let there : Some (show (c.in_ok-name.name.now, c.in_ok-name.table.now)) ≡ slice_get (shown_tables c.self.inside.tables.entries) c.args.index = ap (option_map show) c.in_ok-name.ensures.entry ∙ sym (slice_get-map show c.self.inside.tables.entries c.args.index) in
    rw (← c.self.view_is) (subst (λ o. IfSome o (λ (t : Name × Table). IsWellTyped t.1)) there c.rows.ensures.typed)
