use Rattle.std.proofs.Common.{◌++◌, codes, flat_map, subst, sym}
use Rattle.base_core.specs.Streams.{WritesFront}
use Rattle.base_core.proofs.Fronts.{front-first, front-second, text-broken, text-same, text-then}
use Rattle.export_core.specs.Record.{row_line}
use Rattle.reply_core.specs.Texts.{value_text}
use Rattle.reply_core.proofs.Fields.{row_line-parts}
use Rattle.reply_core.proofs.records.write_row.Goals as goal

pub returns-in_err-write_all : goal.returns-in_err-write_all
returns-in_err-write_all g c =
    let before = g.W.Sink.taken c.args.writer.now in
    let after = g.W.Sink.taken c.write_all.new.writer in
    let r = c.in_err-write_all.ensures in
    let values = flat_map value_text c.args.values.now in
    text-broken g.W.Sink.failed g.W.Sink.taken _ _ (row_line c.args.values.now) c.from_residual.result c.from_residual.ensures.0
    (r.0, subst (λ t. WritesFront before after t) (sym (row_line-parts c.args.values.now)) (front-first before after (codes "row") (values ++ codes "\n") r.1))

pub returns-in_err-write_values : goal.returns-in_err-write_values
returns-in_err-write_values g c =
    let before = g.W.Sink.taken c.args.writer.now in
    let between = g.W.Sink.taken c.write_all.new.writer in
    let after = g.W.Sink.taken c.write_values.new.writer in
    let r = c.in_err-write_values.ensures in
    let values = flat_map value_text c.args.values.now in
    text-broken g.W.Sink.failed g.W.Sink.taken _ _ (row_line c.args.values.now) c.from_residual-in_err-write_values.result c.from_residual-in_err-write_values.ensures.0 (
      r.0,
      subst (λ t. WritesFront before after t) (sym (row_line-parts c.args.values.now))
          (front-second before between after (codes "row") (values ++ codes "\n") c.in_ok-write_all.ensures.1 (front-first between after values (codes "\n") r.1)),
    )

pub returns : goal.returns
returns g c =
    let values = flat_map value_text c.args.values.now in
    text-same g.W.Sink.failed g.W.Sink.taken _ _ (codes "row" ++ (values ++ codes "\n")) (row_line c.args.values.now) c.write_all-2.result (sym (row_line-parts c.args.values.now))
    (text-then g.W.Sink.failed g.W.Sink.taken _ _ _ (codes "row") (values ++ codes "\n") c.write_all-2.result c.in_ok-write_all.ensures.1
    (text-then g.W.Sink.failed g.W.Sink.taken _ _ _ values (codes "\n") c.write_all-2.result c.in_ok-write_values.ensures.1 c.write_all-2.ensures))
