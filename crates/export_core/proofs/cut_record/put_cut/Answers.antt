use Rattle.std.proofs.Common.{◌++◌, ◌∷◌, map, sym, ap, subst, ◌∙◌, append-nil}
use Rattle.export_core.specs.Record.{IsBegun, field_text, more_text, text_in}
use Rattle.export_core.proofs.Cutting.{cut-none, cut-more_unset}
use Rattle.export_core.proofs.Fields.{more_text-cut}
use Rattle.export_core.proofs.cut_record.put_cut.Goals as goal
use Rattle.export_core.proofs.cut_record.put_cut.Goals.{then-is_set+in_ok-put, else-is_set}

pub loop-at-init : goal.loop-at-init
loop-at-init g c = record {
  written = sym (ap (λ fields. text_in c.args.writer.now ++ more_text (map g.F.Field.bytes fields)) (cut-none c.args.marks.now) ∙ append-nil (text_in c.args.writer.now));
  begun = c.requires;
}

pub loop-at-preserved : goal.loop-at-preserved
loop-at-preserved g c =
    let bytes = g.F.Field.bytes in
    let marks = c.args.marks.now in
    let fields = c.args.fields.now in
    let i = c.loop-at.at in
    let field = c.index-fields-at.result in
    let start = text_in c.args.writer.now in
    let old = text_in c.loop-at.writer in
    let so_far = c.loop-at.invariant in
    elim c.if-is_set.branch [
      | then-is_set+in_ok-put w ↦
          record {
            written = ap text_in w.writer-is
                ∙ more_text-cut bytes marks fields i field start old (text_in w.put.new.writer) c.loop-at-test.true (sym c.is_set.ensures ∙ w.if-is_set.true) so_far.written
                (w.in_ok-put.ensures.text ∙ ap (λ f. old ++ 44 ∷ field_text (bytes f)) c.index-fields-at.is);
            begun = subst IsBegun (sym w.writer-is) w.in_ok-put.ensures.begun;
          }
      | else-is_set w ↦
          record {
            written = ap text_in w.writer-is
                ∙ so_far.written
                ∙ ap (λ left. start ++ more_text (map bytes left)) (sym (cut-more_unset marks fields i field c.loop-at-test.true (sym c.is_set.ensures ∙ w.if-is_set.false)));
            begun = subst IsBegun (sym w.writer-is) so_far.begun;
          }
    ]
