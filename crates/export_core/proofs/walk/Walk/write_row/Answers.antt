use Rattle.std.proofs.Common.{◌≡◌, ◌++◌, ◌-◌, length, drop, subst, ap, ◌∙◌, arith, rules}
use Rattle.std.proofs.lemmas.List.{take_all, length-drop}
use Rattle.std.proofs.Math.Seq.{drop-append_seam}
use Rattle.csv.specs.Writing.{writer_under}
use Rattle.base_core.specs.Streams.{WritesFront}
use Rattle.export_core.specs.Export.{cut}
use Rattle.export_core.specs.Record.{row_line}
use Rattle.export_core.proofs.Giving.{breaks_one}
use Rattle.export_core.proofs.walk.Walk.write_row.Goals as goal

pub returns-in-Err-clause-err : goal.returns-in-Err-clause-err
returns-in-Err-clause-err g c =
    let before = (writer_under c.args.records.now).items in
    let line = row_line (cut c.in-Some.marks.now c.in-Some.row.now.values) in
    let start : c.len-start.result ≡ length before = search rules in
    let text : c.deref.result.now ≡ before ++ line = c.deref.ensures.value ∙ ap (λ v. v.items) c.get_ref-2.ensures ∙ c.in-Ok.ensures.text in
    let whole = take_all (length c.deref.result.now - c.len-start.result) (drop c.len-start.result c.deref.result.now) (omega (arith, length-drop c.len-start.result c.deref.result.now)) in
    let written = whole ∙ ap (λ n. drop n c.deref.result.now) start ∙ ap (drop (length before)) text ∙ drop-append_seam before line in
    (0, breaks_one c.args.self.now c.pass.new.self line _ _ c.in-Some.ensures c.pass.ensures (subst (WritesFront (g.W.Sink.taken c.args.writer.now) (g.W.Sink.taken c.write_all.new.writer)) written c.in-Err.ensures.1))
