use Rattle.std.proofs.Common.{List, take, subst}
use Rattle.std.specs.List.{All}
use Rattle.std.proofs.lemmas.List.{take_all}
use Rattle.std.proofs.lemmas.List.Elements.{All-more, All-weaker}
use Rattle.tables_core.specs.Indexing.{Numbered, ColumnLists}
use Rattle.tables_core.proofs.column_index.ColumnIndex.note_all.Goals as goal

pub loop-number-preserved : goal.loop-number-preserved
loop-number-preserved c =
    let rows = c.args.rows.now in
    let i = c.loop-number.number-index in
    let item : Numbered = c.loop-number-item.result in
    let Old : Numbered → Type 0 = λ r. ColumnLists c.loop-number.self r in
    let New : Numbered → Type 0 = λ r. ColumnLists c.note.new.self r in
    record {
      kept = λ r h. c.note.ensures.kept r (c.loop-number.invariant.kept r h);
      noted = All-more New rows i item c.loop-number-test.true (All-weaker Old New c.note.ensures.kept (take i rows) c.loop-number.invariant.noted) (subst New c.loop-number-item.is c.note.ensures.noted);
    }

pub returns-clause-noted : goal.returns-clause-noted
returns-clause-noted c =
    let rows = c.args.rows.now in
    let i = c.loop-number.number-index in
    let All_listed : List Numbered → Type 0 = λ l. All (λ r. ColumnLists c.loop-number.self r) l in
    subst All_listed (take_all i rows c.loop-number-test.false) c.loop-number.invariant.noted
