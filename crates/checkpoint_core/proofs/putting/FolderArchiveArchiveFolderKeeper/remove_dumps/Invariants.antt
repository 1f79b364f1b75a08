use Rattle.std.proofs.Common.{◌≡◌, ◌≤◌}
use Rattle.turnstile.specs.Logs.{StartsWith}
use Rattle.turnstile.specs.Passes.{IsSamePass, mine}
use Rattle.desk_core.specs.Turns.{asked_by}
use Rattle.checkpoint_core.proofs.putting.FolderArchiveArchiveFolderKeeper.remove_dumps.Given as goal

-- it is the same pass, which made nothing and has seen no less
abbrev pub invariant-loop-point : goal.invariant-loop-point
invariant-loop-point g l =
    IsSamePass l.initial.pass l.pass
    × (mine asked_by l.pass ≡ mine asked_by l.initial.pass)
    × StartsWith l.pass.seen l.initial.pass.seen
    × (l.count ≤ l.point-index)
