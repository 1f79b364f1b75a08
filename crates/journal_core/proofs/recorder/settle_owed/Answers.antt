use Rattle.std.proofs.Common.{sym, ◌∙◌}
use Rattle.journal_core.proofs.Entering.{tried-kept}
use Rattle.journal_core.proofs.recorder.settle_owed.Goals as goal

pub returns-then-is_owing : goal.returns-then-is_owing
returns-then-is_owing g c = λ start entries had.
    tried-kept g.K.Keeper start c.args.keeper.now c.settle.new.self entries c.settle.result (sym c.is_owing.ensures ∙ c.if-is_owing.true) c.settle.ensures.owing c.settle.ensures.ok c.settle.ensures.err had
