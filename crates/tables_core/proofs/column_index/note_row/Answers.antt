use Rattle.tables_core.proofs.IndexLemmas.{lists-kept}
use Rattle.tables_core.proofs.column_index.note_row.Goals as goal

pub returns-clause-kept : goal.returns-clause-kept
returns-clause-kept c = lists-kept c.args.index.now c.note.new.self c.note.ensures.key c.in_ok-note.ensures.kept c.args.place
