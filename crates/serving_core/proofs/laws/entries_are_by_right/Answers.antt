use Rattle.serving_core.proofs.Rightful.{entries_are_by_right}
use Rattle.serving_core.proofs.laws.entries_are_by_right.Goals as goal

pub returns : goal.returns
returns g c = λ by workers sessions keeper start world leaves.
    entries_are_by_right g.M.SessionMachine.right g.M.SessionMachine.protocol g.met.M.SessionMachine.rightful by workers sessions keeper start world leaves
