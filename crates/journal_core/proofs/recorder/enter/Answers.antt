use Rattle.std.proofs.Common.{subst, ap, refl}
use Rattle.base_core.specs.declared.value.Moment.{Moment}
use Rattle.base_core.specs.declared.lack.Lack.TheVariants as lacks
use Rattle.system_core.specs.World.{World, moment_of, next_moment}
use Rattle.system_core.specs.Step.{CarriesOut}
use Rattle.system_core.specs.declared.machine.event.Reply.TheVariants as replies
use Rattle.system_core.proofs.Judged.{change-responds}
use Rattle.journal_core.specs.Recorder.{next, kept, owed}
use Rattle.journal_core.proofs.Entering.{was_done, was_refused}
use Rattle.journal_core.proofs.recorder.enter.Goals as goal

pub returns-in-Err-clause-told : goal.returns-in-Err-clause-told
returns-in-Err-clause-told g c =
    let old = c.args.system.now in
    let new = c.change.new.self in
    let e = c.args.entry in
    let carries = was_refused old new e (moment_of old) c.in-Err.field-0 c.change.result c.in-Err.is c.change.ensures in
    record {
      step = change-responds old new e (replies.Refused (moment_of old) lacks.NoMemory) c.requires.allowed c.requires.change carries;
      keeping = next (kept c.requires.settled c.requires.settled refl);
      withheld = λ _. c.requires.change;
    }

pub keep_last-requires-clause-last : goal.keep_last-requires-clause-last
keep_last-requires-clause-last g c =
    let old = c.args.system.now in
    let e = c.args.entry in
    let carries = was_done old c.change.new.self e (moment_of old) c.in-Ok.made c.change.result c.in-Ok.is c.change.ensures in
    (old.journal, e, c.requires.spelled.0, ap (λ (w : World). w.journal) carries.2, c.requires.spelled.1)

pub returns-in-Ok-keep_last-clause-told : goal.returns-in-Ok-keep_last-clause-told
returns-in-Ok-keep_last-clause-told g c =
    let old = c.args.system.now in
    let new = c.change.new.self in
    let e = c.args.entry in
    let made = c.in-Ok.made in
    let carries = was_done old new e (moment_of old) made c.change.result c.in-Ok.is c.change.ensures in
    let keeps = c.in-Ok-keep_last.ensures.ok old.journal e (ap (λ (w : World). w.journal) carries.2) in
    record {
      step = change-responds old new e (replies.Done made) c.requires.allowed c.requires.change carries;
      keeping = next (kept c.requires.settled c.in-Ok-keep_last.ensures.owing (_, keeps, refl));
      withheld = λ _. c.requires.change;
    }

pub returns-in-Err-keep_last-clause-unkept : goal.returns-in-Err-keep_last-clause-unkept
returns-in-Err-keep_last-clause-unkept g c =
    let old = c.args.system.now in
    let new = c.change.new.self in
    let e = c.args.entry in
    let made = c.in-Ok.made in
    let carries = was_done old new e (moment_of old) made c.change.result c.in-Ok.is c.change.ensures in
    let Carried = λ (m : Moment). CarriesOut old e (replies.Done m) new in
    let owes = c.in-Err-keep_last.ensures.err old.journal e (ap (λ (w : World). w.journal) carries.2) in
    record {
      step = change-responds old new e (replies.Done (next_moment old)) c.requires.allowed c.requires.change (subst Carried carries.1 carries);
      keeping = next (owed c.requires.settled c.in-Err-keep_last.ensures.owing e refl owes);
      withheld = λ _. c.requires.change;
    }
