use Rattle.std.proofs.Common.{◌≡◌, ℕ, List, [], ◌++◌, take, refl, inl}
use Rattle.std.specs.List.{concat}
use Rattle.std.proofs.KnownBytes.{Appends-trans}
use Rattle.base_core.proofs.Fronts.{front-second, on_err}
use Rattle.export_core.specs.Ticket.{Stops}
use Rattle.export_core.specs.declared.fault.ExportFault.TheVariants as faults
use Rattle.reply_core.specs.Texts.{cut_text}
use Rattle.reply_core.proofs.PendingLemmas.{cut_records, cut_then_nothing, last_records, more_records}
use Rattle.reply_core.proofs.WritingLemmas.{records-broken}
use Rattle.reply_core.proofs.pending.go_on_export.Goals as goal

pub returns-in-Ok-true-clause-ok : goal.returns-in-Ok-true-clause-ok
returns-in-Ok-true-clause-ok g c =
    let some = c.in-Ok-true.ensures.ok in
    record {
      text = concat (take some.0 c.args.ticket.to_come);
      is = more_records some.0 c.args.ticket c.write_some.new.self some.2.gave;
      wrote = some.2.wrote;
    }

pub returns-in-Ok-false-clause-ok : goal.returns-in-Ok-false-clause-ok
returns-in-Ok-false-clause-ok g c =
    let some = c.in-Ok-false.ensures.ok in
    let over : c.write_some.new.self.to_come ≡ [] = c.in-Ok-false.ensures.more.0 c.in-Ok-false.field-0-test in
    record {
      text = concat (take some.0 c.args.ticket.to_come);
      is = last_records some.0 c.args.ticket c.write_some.new.self some.2.gave over;
      wrote = some.2.wrote;
    }

pub returns-in_err-write_all-in-Err-NoMemory-clause-err : goal.returns-in_err-write_all-in-Err-NoMemory-clause-err
returns-in_err-write_all-in-Err-NoMemory-clause-err g c =
    let before = g.W.Sink.taken c.args.writer.now in
    let mid = g.W.Sink.taken c.write_some.new.writer in
    let stops : Stops faults.NoMemory c.args.ticket c.write_some.new.self before mid = rw c.in-Err-NoMemory.field-0-is at c.in-Err-NoMemory.ensures.err in
    let written : List ℕ = concat (take stops.0 c.args.ticket.to_come) in
    on_err c.from_residual.result (record {
      text = written ++ cut_text;
      is = cut_records c.args.ticket stops.0 stops.1;
      wrote = front-second before mid (g.W.Sink.taken c.write_all.new.writer) written cut_text stops.2.wrote c.in_err-write_all-in-Err-NoMemory.ensures.1;
    })

pub returns-in-Err-NoMemory-clause-ok : goal.returns-in-Err-NoMemory-clause-ok
returns-in-Err-NoMemory-clause-ok g c =
    let before = g.W.Sink.taken c.args.writer.now in
    let mid = g.W.Sink.taken c.write_some.new.writer in
    let stops : Stops faults.NoMemory c.args.ticket c.write_some.new.self before mid = rw c.in-Err-NoMemory.field-0-is at c.in-Err-NoMemory.ensures.err in
    let written : List ℕ = concat (take stops.0 c.args.ticket.to_come) in
    record {
      text = written ++ cut_text;
      is = cut_then_nothing c.args.ticket stops.0 stops.1;
      wrote = Appends-trans before mid (g.W.Sink.taken c.write_all.new.writer) written cut_text stops.2.wrote c.in_ok-write_all-in-Err-NoMemory.ensures.1;
    }

pub returns-clause-err : goal.returns-clause-err
returns-clause-err g c =
    let before = g.W.Sink.taken c.args.writer.now in
    let after = g.W.Sink.taken c.write_some.new.writer in
    let stops : Stops faults.Write c.args.ticket c.write_some.new.self before after = rw c.in-Err-Write.field-0-is at c.in-Err-Write.ensures.err in
    record {
      text = concat c.args.ticket.to_come;
      is = inl refl;
      wrote = records-broken c.args.ticket.to_come stops.0 stops.1.front stops.1.unwritten before after stops.1.broken stops.1.wrote;
    }
