use Rattle.std.proofs.Common.{◌≡◌, List, take, drop, flat_map, sym, ap, ◌∙◌}
use Rattle.std.specs.List.{concat}
use Rattle.base_core.specs.declared.value.Row.{Row}
use Rattle.base_core.proofs.Fronts.{text-same}
use Rattle.messages_core.specs.declared.rows.Format.{Format}
use Rattle.system_core.specs.declared.machine.event.Checkpoint.{Checkpoint}
use Rattle.answer_core.specs.Remaining.{item_rows}
use Rattle.answer_core.specs.RowTexts.{checkpoint_row, table_row}
use Rattle.answer_core.specs.declared.items.Items.{Items}
use Rattle.answer_core.proofs.RowLemmas.{part_texts}
use Rattle.answer_core.proofs.items.Items.write_some.Goals as goal

pub returns-in-Rows : goal.returns-in-Rows
returns-in-Rows g c =
    let fs = c.args.formats.now in
    let n = c.args.count in
    let k = c.args.next in
    let part = c.part_of-part.result.now in
    let is : part ≡ take n (drop k c.in-Rows.rows) = c.part_of-part.ensures ∙ ap (λ (l : List Row). take n (drop k l)) c.as_slice.ensures in
    let told =
    ap (λ (f : List Format). flat_map (table_row f) part) c.as_slice-in-Rows.ensures.formats
    ∙ ap (flat_map (table_row fs)) is
    ∙ part_texts (table_row fs) c.in-Rows.rows k n
    ∙ ap (λ (list : Items). concat (take n (drop k (item_rows list fs)))) (sym c.in-Rows.is) in
    text-same g.W.Sink.failed g.W.Sink.taken _ _ (flat_map (table_row c.as_slice-in-Rows.result.now) part)
    (concat (take n (drop k (item_rows c.args.self.now fs)))) c.write_rows.result told c.write_rows.ensures

pub returns-in-Checkpoints : goal.returns-in-Checkpoints
returns-in-Checkpoints g c =
    let fs = c.args.formats.now in
    let n = c.args.count in
    let k = c.args.next in
    let part = c.part_of-part-in-Checkpoints.result.now in
    let is : part ≡ take n (drop k c.in-Checkpoints.entries) =
    c.part_of-part-in-Checkpoints.ensures ∙ ap (λ (l : List Checkpoint). take n (drop k l)) c.as_slice-in-Checkpoints.ensures in
    let told =
    ap (λ (f : List Format). flat_map (checkpoint_row f) part) c.as_slice-in-Checkpoints-2.ensures.formats
    ∙ ap (flat_map (checkpoint_row fs)) is
    ∙ part_texts (checkpoint_row fs) c.in-Checkpoints.entries k n
    ∙ ap (λ (list : Items). concat (take n (drop k (item_rows list fs)))) (sym c.in-Checkpoints.is) in
    text-same g.W.Sink.failed g.W.Sink.taken _ _ (flat_map (checkpoint_row c.as_slice-in-Checkpoints-2.result.now) part)
    (concat (take n (drop k (item_rows c.args.self.now fs)))) c.write_rows-in-Checkpoints.result told c.write_rows-in-Checkpoints.ensures
