use Rattle.std.proofs.Common.{◌≡◌, ℕ, List, [], ◌∷◌, Some, None, codes, ap, ◌∙◌}
use Rattle.base_core.proofs.Fronts.{text-same}
use Rattle.messages_core.specs.Columns.{format_at}
use Rattle.messages_core.specs.Rows.{data_row}
use Rattle.messages_core.specs.declared.rows.Format.{Format}
use Rattle.system_core.specs.declared.machine.event.Checkpoint.TheVariants as checkpoints
use Rattle.answer_core.specs.RowTexts.{checkpoint_row, int8_value}
use Rattle.answer_core.proofs.told.write_kept.Goals as goal

pub returns : goal.returns
returns g c =
    let fs = c.args.formats.now in
    let one = c.new.result in
    let two = c.new-2.result in
    let three = c.new-3.result in
    let state : one ≡ codes "finished" = c.new.ensures in
    let number : two ≡ int8_value (format_at fs 1) c.args.number =
    c.new-2.ensures ∙ c.as_slice.ensures.value ∙ c.int8-number.ensures ∙ ap (λ (f : Format). int8_value f c.args.number) c.format_at.ensures in
    let point : three ≡ int8_value (format_at fs 2) c.args.point.0 =
    c.new-3.ensures ∙ c.as_slice-2.ensures.value ∙ c.int8-point.ensures ∙ ap (λ (f : Format). int8_value f c.args.point.0) c.format_at-2.ensures in
    let told =
    ap (λ (x : List ℕ). data_row (Some x ∷ Some two ∷ Some three ∷ None ∷ [])) state
    ∙ ap (λ (x : List ℕ). data_row (Some (codes "finished") ∷ Some x ∷ Some three ∷ None ∷ [])) number
    ∙ ap (λ (x : List ℕ). data_row (Some (codes "finished") ∷ Some (int8_value (format_at fs 1) c.args.number) ∷ Some x ∷ None ∷ [])) point in
    text-same g.W.Sink.failed g.W.Sink.taken _ _ (data_row (Some one ∷ Some two ∷ Some three ∷ None ∷ []))
    (checkpoint_row fs (checkpoints.Kept c.args.number c.args.point)) c.write_data_row.result told c.write_data_row.ensures
