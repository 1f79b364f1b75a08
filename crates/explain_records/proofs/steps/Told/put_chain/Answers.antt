use Rattle.std.proofs.Common.{ℕ, ◌+◌, ◌++◌, ◌∷◌, [], List, ◌∙◌, ap}
use Rattle.export_core.specs.Record.{text_in}
use Rattle.grants_core.specs.declared.grant.Grant.{Grant}
use Rattle.explain_records.specs.Telling.{Fields, lines}
use Rattle.explain_records.specs.Steps.{link_step}
use Rattle.explain_records.proofs.Lines.{numbered-more}
use Rattle.explain_records.proofs.steps.Told.put_chain.Goals as goal

pub loop-grant-preserved : goal.loop-grant-preserved
loop-grant-preserved c =
    let l = c.loop-grant in
    let told = c.args.self.now in
    let old = text_in l.writer in
    let steps : ℕ → Grant → List Fields = λ n g. link_step told.past.numbers.now told.user told.atom c.args.given n g ∷ [] in
    record {
      step = ap (λ n. n + 1) l.invariant.step;
      written = numbered-more steps c.args.chain.now l.grant-index l.step c.grant-item.result (text_in c.args.writer.now) old (text_in c.put.new.writer)
          c.loop-grant-test.true l.invariant.step l.invariant.written
          (c.in_ok-put.ensures.text ∙ ap (λ fields. old ++ lines (fields ∷ [])) c.link_of.ensures ∙ ap (λ g. old ++ lines (steps (l.step + 1) g)) c.grant-item.is);
      between = c.in_ok-put.ensures.between;
    }
