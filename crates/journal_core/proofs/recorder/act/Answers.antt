use Rattle.journal_core.specs.Recorder.{next}
use Rattle.journal_core.proofs.recorder.act.Goals as goal

pub returns : goal.returns
returns g c = record { step = c.act_next.ensures.step; keeping = next c.act_next.ensures.keeping; withheld = c.act_next.ensures.withheld }
