use Rattle.std.proofs.Common.{sym, subst, ◌∙◌}
use Rattle.tables_core.specs.Contents.{Table}
use Rattle.tables_core.specs.Capture.{StoredTable}
use Rattle.tables_core.specs.Fitting.{AssignmentsFit}
use Rattle.tables_core.proofs.FittingLemmas.{IsWellTyped-updated_or_same}
use Rattle.tables_core.proofs.table.Table.update.Goals as goal

pub update_chosen-requires : goal.update_chosen-requires
update_chosen-requires c = c.prepare.ensures c.self.invariant.2

pub invariant_of-self : goal.invariant_of-self
invariant_of-self c =
    let t : Table = record { owner = c.self.inside.owner; columns = c.self.inside.columns; inserted = c.self.inside.inserted; rows = c.self.inside.rows.store.contents } in
    let ok = rw c.as_slice-columns.ensures at c.update_chosen.ensures.ok in
    let Typed : StoredTable → Type 0 = λ k. AssignmentsFit k.contents.columns c.args.sets.now in (
      IsWellTyped-updated_or_same t c.args.sets.now c.args.filter.now c.update_chosen.new.rows.store.contents c.update_chosen.result ok c.update_chosen.ensures.no_memory (subst Typed (sym c.self.view_is) c.requires) c.self.invariant.0,
      c.self.invariant.1 ∙ sym c.update_chosen.ensures.next,
      c.update_chosen.ensures.listed,
    )
