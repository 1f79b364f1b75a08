use Rattle.std.proofs.Common.{◌≡◌, ◌∙◌, List, [], ◌∷◌, map, IsSomeAnd, ap, sym, subst}
use Rattle.std.specs.List.{filter}
use Rattle.std.specs.Option.{option_map_or}
use Rattle.std.proofs.lemmas.Result.{IfOk-weaker}
use Rattle.base_core.specs.declared.name.Name.{Name}
use Rattle.base_core.specs.declared.value.Value.{Value}
use Rattle.base_core.specs.declared.value.Column.{Column}
use Rattle.base_core.specs.declared.condition.Condition.{Condition}
use Rattle.base_core.specs.declared.condition.Assignment.{Assignment}
use Rattle.reader_core.specs.declared.statement.Statement.{Statement}
use Rattle.tables_core.specs.Contents.{Table, assigned_values, satisfies, table_of}
use Rattle.system_core.specs.Journal.{tables_at}
use Rattle.stream_core.specs.declared.effect.Effect.{Effect}
use Rattle.stream_core.specs.declared.effect.Effect.TheVariants as effects
use Rattle.stream_core.specs.Updates.{AreUpdates, row_deleted}
use Rattle.stream_core.proofs.Foretold.{Makes, foretold-are}
use Rattle.stream_core.proofs.foretelling.foretold.Goals as goal

pub returns-in-CreateTable : goal.returns-in-CreateTable
returns-in-CreateTable c =
    let w = c.args.system.now in
    let e = c.args.entry.now in
    let table = c.in-CreateTable.table in
    IfOk-weaker c.created.result _ _ (λ all made.
    let makes : all.items ≡ effects.TableMade table e.user c.in-CreateTable.columns ∷ [] = made ∙ ap (λ (cs : List Column). effects.TableMade table e.user cs ∷ []) c.as_slice.ensures.items in
    foretold-are w.limits w.journal c.journal-journal.ensures.lawful.journal e c.args.grants.now all.items c.requires.change c.requires.gives c.requires.allowed c.requires.grants
    (subst (λ (s : Statement). Makes (tables_at w.journal) e.user c.args.grants.now s all.items) (sym c.in-CreateTable.is) makes))
    c.created.ensures

pub returns-in-Insert : goal.returns-in-Insert
returns-in-Insert c =
    let w = c.args.system.now in
    let e = c.args.entry.now in
    let table = c.in-Insert.table in
    let said : List (Name × Table) → List Value → List Effect = λ ts vs. effects.RowInserted table (option_map_or (λ (t : Table). t.inserted) (table_of ts table) 0) (record { values = vs }) ∷ [] in
    IfOk-weaker c.inserted.result _ _ (λ all made.
    let makes : all.items ≡ said (tables_at w.journal) c.in-Insert.values =
    made ∙ ap (said c.tables-tables.result.now.tables) c.values.ensures ∙ ap (λ ts. said ts c.in-Insert.values) c.tables-tables.ensures in
    foretold-are w.limits w.journal c.journal-journal.ensures.lawful.journal e c.args.grants.now all.items c.requires.change c.requires.gives c.requires.allowed c.requires.grants
    (subst (λ (s : Statement). Makes (tables_at w.journal) e.user c.args.grants.now s all.items) (sym c.in-Insert.is) makes))
    c.inserted.ensures

pub returns-in-Delete : goal.returns-in-Delete
returns-in-Delete c =
    let w = c.args.system.now in
    let e = c.args.entry.now in
    let table = c.in-Delete.table in
    IfOk-weaker c.deleted.result _ _ (λ all made.
    let P : List (Name × Table) → List Condition → Type 0 = λ ts cs. IsSomeAnd (table_of ts table) (λ t. all.items ≡ map (row_deleted table) (filter (satisfies t.columns cs) t.rows)) in
    let makes : P (tables_at w.journal) c.in-Delete.filter = subst (λ ts. P ts c.in-Delete.filter) c.tables-tables.ensures (subst (P c.tables-tables.result.now.tables) c.as_slice-in-Delete.ensures.items made) in
    foretold-are w.limits w.journal c.journal-journal.ensures.lawful.journal e c.args.grants.now all.items c.requires.change c.requires.gives c.requires.allowed c.requires.grants
    (subst (λ (s : Statement). Makes (tables_at w.journal) e.user c.args.grants.now s all.items) (sym c.in-Delete.is) makes))
    c.deleted.ensures

pub returns-in-Update : goal.returns-in-Update
returns-in-Update c =
    let w = c.args.system.now in
    let e = c.args.entry.now in
    let table = c.in-Update.table in
    IfOk-weaker c.updated.result _ _ (λ all made.
    let P : List (Name × Table) → List Assignment → List Condition → Type 0 = λ ts sets cs.
    IsSomeAnd (table_of ts table) (λ t. AreUpdates table (assigned_values t.columns sets) (filter (satisfies t.columns cs) t.rows) all.items) in
    let here = c.tables-tables.result.now.tables in
    let makes : P (tables_at w.journal) c.in-Update.sets c.in-Update.filter =
    subst (λ ts. P ts c.in-Update.sets c.in-Update.filter) c.tables-tables.ensures
    (subst (λ sets. P here sets c.in-Update.filter) c.as_slice-in-Update.ensures.items
    (subst (P here c.as_slice-in-Update.result.now) c.as_slice-in-Update-2.ensures.items made)) in
    foretold-are w.limits w.journal c.journal-journal.ensures.lawful.journal e c.args.grants.now all.items c.requires.change c.requires.gives c.requires.allowed c.requires.grants
    (subst (λ (s : Statement). Makes (tables_at w.journal) e.user c.args.grants.now s all.items) (sym c.in-Update.is) makes))
    c.updated.ensures

pub returns-in-Grant : goal.returns-in-Grant
returns-in-Grant c =
    let w = c.args.system.now in
    let e = c.args.entry.now in
    IfOk-weaker c.granted.result _ _ (λ all made.
    foretold-are w.limits w.journal c.journal-journal.ensures.lawful.journal e c.args.grants.now all.items c.requires.change c.requires.gives c.requires.allowed c.requires.grants
    (subst (λ (s : Statement). Makes (tables_at w.journal) e.user c.args.grants.now s all.items) (sym c.in-Grant.is) made))
    c.granted.ensures
