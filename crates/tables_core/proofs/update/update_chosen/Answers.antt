use Rattle.std.proofs.Common.{List, filter, refl, ◌∙◌, rules}
use Rattle.std.proofs.lemmas.List.Elements.{All-filter, All-weaker}
use Rattle.tables_core.specs.Contents.{assigned_row, satisfies}
use Rattle.tables_core.specs.Indexing.{Numbered, EachLists}
use Rattle.tables_core.proofs.NewRowLemmas.{all-with_new_rows, chosen-put, chosen-there}
use Rattle.tables_core.proofs.update.update_chosen.Goals as goal

pub set_new_rows-requires : goal.set_new_rows-requires
set_new_rows-requires c =
    let chosen = satisfies c.new-conditions.result.columns.now c.new-conditions.result.items.now in
    let made = assigned_row c.new-changes.result.columns.now c.new-changes.result.items.now in
    rw (c.prepare.ensures.contents, c.in_ok-new_rows.ensures) (chosen-there chosen made (λ e. refl) c.args.rows.now.store.contents)

pub returns-clause-ok : goal.returns-clause-ok
returns-clause-ok c =
    let columns = c.args.columns.now in
    let chosen = satisfies columns c.args.filter.now in
    let items = rw (c.new-conditions.ensures.columns, c.new-conditions.ensures.items, c.new-changes.ensures.columns, c.new-changes.ensures.items) at c.in_ok-new_rows.ensures in
    c.set_new_rows.ensures.contents
    ∙ rw (c.prepare.ensures.contents, items) (chosen-put chosen (assigned_row columns c.args.sets.now) (λ e. refl) 0 c.args.rows.now.store.next c.args.rows.now.store.contents c.len-count.ensures.numbered)

pub returns-clause-listed : goal.returns-clause-listed
returns-clause-listed c =
    let columns = c.args.columns.now in
    let chosen = satisfies columns c.args.filter.now in
    let rows : List Numbered = c.args.rows.now.store.contents in
    let old = EachLists c.args.indexes.now.kept.items in
    let new = EachLists c.note_changed.new.self.kept.items in
    let items = rw (c.new-conditions.ensures.columns, c.new-conditions.ensures.items, c.new-changes.ensures.columns, c.new-changes.ensures.items) at c.in_ok-new_rows.ensures in
    let noted = rw c.as_slice.ensures.value at (c.note_changed.ensures.noted (filter chosen rows) (c.as_slice.ensures.value ∙ items) (All-filter chosen old rows c.requires)) in
    rw (c.set_new_rows.ensures.contents, c.prepare.ensures.contents) (all-with_new_rows new rows c.in_ok-new_rows.new_rows.items (All-weaker old new c.note_changed.ensures.kept rows c.requires) noted)

pub returns-clause-due : goal.returns-clause-due
returns-clause-due c = search rules
