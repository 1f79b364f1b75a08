use Rattle.std.proofs.Common.{ℕ, List, ◌++◌, take, refl, inl, inr, rules}
use Rattle.std.specs.List.{concat}
use Rattle.std.proofs.KnownBytes.{Appends-trans}
use Rattle.base_core.specs.Streams.{WritesFront}
use Rattle.base_core.proofs.Fronts.{write-text, text-then}
use Rattle.export_core.specs.Ticket.{Stops}
use Rattle.export_core.specs.declared.fault.ExportFault.TheVariants as faults
use Rattle.reply_core.specs.Texts.{cut_text}
use Rattle.system_core.specs.declared.machine.event.Reply.TheVariants as replies
use Rattle.reply_core.specs.Telling.{TellsRecords}
use Rattle.reply_core.proofs.WritingLemmas.{records-broken}
use Rattle.reply_core.proofs.writing.write_ticket.Goals as goal

pub returns-in-Err-NoMemory : goal.returns-in-Err-NoMemory
returns-in-Err-NoMemory g c =
    let before = g.W.Sink.taken c.args.writer.now in
    let mid = g.W.Sink.taken c.write_to.new.writer in
    let stops : Stops faults.NoMemory c.args.ticket c.write_to.new.self before mid = rw c.in-Err-NoMemory.field-0-is at c.in-Err-NoMemory.ensures.err in
    let text : List ℕ = concat (take stops.0 c.args.ticket.to_come) in
    let told : TellsRecords (replies.Export c.args.ticket) (text ++ cut_text) = inr (stops.0, stops.1, refl) in
    write-text g.W.Sink.failed g.W.Sink.taken _ _ (TellsRecords (replies.Export c.args.ticket)) (text ++ cut_text) c.write_all.result told
    (text-then g.W.Sink.failed g.W.Sink.taken _ _ _ text cut_text c.write_all.result stops.2.wrote c.write_all.ensures)

pub returns : goal.returns
returns g c =
    let before = g.W.Sink.taken c.args.writer.now in
    let after = g.W.Sink.taken c.write_to.new.writer in
    let stops : Stops faults.Write c.args.ticket c.write_to.new.self before after = rw c.in-Err-Write.field-0-is at c.in-Err-Write.ensures.err in
    let all : List ℕ = concat c.args.ticket.to_come in
    let told : TellsRecords (replies.Export c.args.ticket) all = inl refl in
    (search rules, record { text = all; is = told; wrote = records-broken c.args.ticket.to_come stops.0 stops.1.front stops.1.unwritten before after stops.1.broken stops.1.wrote })
