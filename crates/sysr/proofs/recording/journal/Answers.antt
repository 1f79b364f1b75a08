use Rattle.std.proofs.Common.{Ok, refl, subst}
use Rattle.journal_core.specs.Keeping.{EndsJournal}
use Rattle.load_core.specs.Replaying.{EndsReplay, ReplayedState}
use Rattle.load_core.specs.declared.manner.Manner.{Manner}
use Rattle.sysr.proofs.recording.journal.Goals as goal

pub returns-clause-ok : goal.returns-clause-ok
returns-clause-ok g c =
    let Reads : Manner → Type 0 = λ m. EndsReplay m c.in_ok-begins.begins (Ok c.in_ok-replayed.replayed) (g.S.Source.left c.args.reader.now) (g.S.Source.left c.replayed.new.reader) in
    let Writes : ReplayedState → Type 0 = λ r. EndsJournal (Ok tt) r.world.journal (g.W.Sink.taken c.args.writer.now) (g.W.Sink.taken c.journal_to-written.new.writer) in record {
      replayed = record {
        begins = c.in_ok-begins.begins;
        leavings = c.in_ok-replayed.replayed;
        limits_are = c.in_ok-begins.ensures.asked.1;
        empty = λ _. c.in_ok-begins.ensures.empty refl;
        replays = subst Reads c.manner_of.ensures c.in_ok-replayed.ensures.ends;
      };
      written = subst Writes c.replayed-2.view_is c.in_ok-written.ensures.ok;
      status_is = c.status_of-status.ensures;
    }
