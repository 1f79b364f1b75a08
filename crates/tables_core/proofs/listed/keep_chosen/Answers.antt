use Rattle.std.proofs.Common.{◌≡◌, rules, ap, ◌∙◌}
use Rattle.std.proofs.lemmas.Fn.{filter_same}
use Rattle.tables_core.specs.Contents.{satisfies}
use Rattle.tables_core.specs.Picking.{rows_at, without_rows, numbers_of}
use Rattle.tables_core.proofs.PickingLemmas.{found-among, rows_at-numbers_of, without_rows-numbers_of}
use Rattle.tables_core.proofs.listed.keep_chosen.Goals as goal

among : (c : goal.After-retain) → c.retain.new.self.items ≡ numbers_of (satisfies c.args.conditions.now.columns.now c.args.conditions.now.items.now) c.args.rows.now.contents
among c =
    let test = satisfies c.args.conditions.now.columns.now c.args.conditions.now.items.now in
    let rows = c.args.rows.now in
    filter_same _ _ _ (λ x b f' k. search rules) _ _ c.retain.ensures.filtered ∙ found-among test rows.next rows.contents c.args.numbers.now.items c.len-len.ensures.numbered c.requires.rising c.requires.covers

pub returns-clause-found : goal.returns-clause-found
returns-clause-found c =
    let test = satisfies c.args.conditions.now.columns.now c.args.conditions.now.items.now in
    let rows = c.args.rows.now in
    ap (λ l. rows_at l rows.contents) (among c) ∙ rows_at-numbers_of test rows.next rows.contents c.len-len.ensures.numbered

pub returns-clause-left : goal.returns-clause-left
returns-clause-left c =
    let test = satisfies c.args.conditions.now.columns.now c.args.conditions.now.items.now in
    let rows = c.args.rows.now in
    ap (λ l. without_rows l rows.contents) (among c) ∙ without_rows-numbers_of test rows.next rows.contents c.len-len.ensures.numbered
