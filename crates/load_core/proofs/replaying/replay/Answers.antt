use Rattle.std.proofs.Common.{sym, subst}
use Rattle.lines_core.specs.declared.serving.SessionFault.TheVariants as SessionFault
use Rattle.load_core.specs.Replaying.{EndsReplay}
use Rattle.load_core.proofs.ReplayInput.{ends_replay, fails_replay, count_is_small, entries_read, never_read, no_fault}
use Rattle.load_core.proofs.replaying.replay.Goals as goal

pub finish-requires : goal.finish-requires
finish-requires g c =
    count_is_small c.args.manner c.args.begins c.new-replayer.result c.read_lines.new.replayer (g.S.Source.left c.args.reader.now) (g.S.Source.left c.read_lines.new.reader) c.new-replayer.ensures c.in-Ok.front c.in-Ok.ensures.ends

pub returns-in-Ok-clause-ends : goal.returns-in-Ok-clause-ends
returns-in-Ok-clause-ends g c =
    let left = g.S.Source.left c.args.reader.now in
    let left' = g.S.Source.left c.read_lines.new.reader in
    subst (λ r. EndsReplay c.args.manner c.args.begins r left left') (sym c.finish.ensures)
    (ends_replay c.args.manner c.args.begins c.new-replayer.result c.read_lines.new.replayer left left' c.new-replayer.ensures c.in-Ok.front c.in-Ok.ensures.ends)

pub returns-in-Ok-clause-entries : goal.returns-in-Ok-clause-entries
returns-in-Ok-clause-entries g c =
    entries_read c.args.manner c.args.begins c.finish.result (g.S.Source.left c.args.reader.now) (g.S.Source.left c.read_lines.new.reader) (returns-in-Ok-clause-ends g c)

pub returns-in-Ok-clause-read : goal.returns-in-Ok-clause-read
returns-in-Ok-clause-read g c =
    let p = c.read_lines.new.replayer in (
      (λ e. never_read p p.count p.stop p.manner.cut_line c.in-Ok.front c.finish.result c.finish.ensures e),
      λ e. no_fault c.in-Ok.front SessionFault.Read (c.in-Ok.ensures.read.1 e),
    )

pub returns-in-Err-clause-ends : goal.returns-in-Err-clause-ends
returns-in-Err-clause-ends g c =
    fails_replay c.args.manner c.args.begins c.new-replayer.result c.read_lines.new.replayer (g.S.Source.left c.args.reader.now) (g.S.Source.left c.read_lines.new.reader) c.new-replayer.ensures c.in-Err.fault c.reading_fault.result c.in-Err.ensures.ends c.reading_fault.ensures
