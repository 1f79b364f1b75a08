use Rattle.std.proofs.Common.{sym, subst}
use Rattle.base_core.specs.Streams.{MayWrite}
use Rattle.base_core.proofs.Fronts.{Writes-nothing}
use Rattle.system_core.specs.declared.machine.event.Reply.{Reply}
use Rattle.reply_core.specs.Telling.{TellsRecords}
use Rattle.reply_core.proofs.WritingLemmas.{no_records}
use Rattle.reply_core.proofs.writing.write_records.Goals as goal

pub returns-in_default : goal.returns-in_default
returns-in_default g c =
    (c.requires, Writes-nothing (TellsRecords c.args.reply) (g.W.Sink.taken c.args.writer.now) (no_records c.args.reply c.in_default.not-Export))

pub returns : goal.returns
returns g c =
    subst (λ (r : Reply). MayWrite g.W.Sink.failed g.W.Sink.taken (TellsRecords r) c.write_ticket.result c.args.writer.now c.write_ticket.new.writer) (sym c.in-Export.is) c.write_ticket.ensures
