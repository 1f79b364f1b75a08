use Rattle.std.proofs.Common.{ℕ, ◌+◌, ◌++◌, ◌∷◌, [], List, ◌∙◌, ap}
use Rattle.export_core.specs.Record.{text_in}
use Rattle.explain_core.specs.declared.life.Life.{Life}
use Rattle.explain_records.specs.Telling.{Fields, lines}
use Rattle.explain_records.specs.Steps.{loss_step}
use Rattle.explain_records.proofs.Lines.{numbered-more}
use Rattle.explain_records.proofs.steps.Told.put_way.Goals as goal

pub loop-life-preserved : goal.loop-life-preserved
loop-life-preserved c =
    let l = c.loop-life in
    let told = c.args.self.now in
    let old = text_in l.writer in
    let steps : ℕ → Life → List Fields = λ n life. loss_step told.past.history.now told.past.numbers.now told.user told.atom c.args.way.given c.args.way.fell n life ∷ [] in
    record {
      step = ap (λ n. n + 1) l.invariant.step;
      written = numbered-more steps c.args.line.now l.life-index l.step c.life-item.result (text_in c.args.writer.now) old (text_in c.put.new.writer)
          c.loop-life-test.true l.invariant.step l.invariant.written
          (c.in_ok-put.ensures.text ∙ ap (λ fields. old ++ lines (fields ∷ [])) c.loss_of.ensures ∙ ap (λ life. old ++ lines (steps (l.step + 1) life)) c.life-item.is);
      between = c.in_ok-put.ensures.between;
    }
