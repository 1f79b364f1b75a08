use Rattle.std.proofs.Common.{Bool, not, sym, ◌∙◌, rules}
use Rattle.std.proofs.lemmas.List.Elements.{All-filter, All-weaker}
use Rattle.tables_core.specs.Contents.{Table, satisfies}
use Rattle.tables_core.specs.Indexing.{Numbered, EachLists}
use Rattle.tables_core.proofs.FittingLemmas.{IsWellTyped-deleted}
use Rattle.tables_core.proofs.table.Table.delete.Goals as goal

pub drop_chosen-dropped-requires : goal.drop_chosen-dropped-requires
drop_chosen-dropped-requires c = rw c.prepare-2.ensures.contents (c.prepare.ensures c.self.invariant.2)

pub invariant_of-self : goal.invariant_of-self
invariant_of-self c =
    let t : Table = record { owner = c.self.inside.owner; columns = c.self.inside.columns; inserted = c.self.inside.inserted; rows = c.self.inside.rows.store.contents } in
    let rows = c.self.inside.rows.store.contents in
    let stays : Numbered → Bool = λ r. not (satisfies c.as_slice-columns.result.now c.args.filter.now r) in
    let still = All-weaker (EachLists c.prepare.new.self.kept.items) (EachLists c.note_dropped.new.self.kept.items) c.note_dropped.ensures rows (c.prepare.ensures c.self.invariant.2) in (
      rw (c.drop_chosen-dropped.ensures.contents, c.as_slice-columns.ensures, c.prepare-2.ensures.contents) (IsWellTyped-deleted t c.args.filter.now c.self.invariant.0),
      c.self.invariant.1 ∙ sym (c.drop_chosen-dropped.ensures.next ∙ c.prepare-2.ensures.next),
      rw (c.drop_chosen-dropped.ensures.contents, c.prepare-2.ensures.contents) (All-filter stays (EachLists c.note_dropped.new.self.kept.items) rows still),
    )

pub returns-clause-due : goal.returns-clause-due
returns-clause-due c = search rules
