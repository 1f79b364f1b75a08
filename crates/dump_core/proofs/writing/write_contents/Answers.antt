use Rattle.std.proofs.Common.{◌≡◌, Err, sym, subst, rules}
use Rattle.dump_core.specs.declared.fault.DumpFault.TheVariants as faults
use Rattle.dump_core.specs.Dump.{dump_of}
use Rattle.dump_core.specs.Ending.{WritesLines, IsLongRow, EndsLines}
use Rattle.dump_core.proofs.WritingLemmas.{all_parts, in_creations, in_rows, in_grants, kept, whole-front}
use Rattle.dump_core.proofs.writing.write_contents.Goals as goal

pub returns-in_err-write_creations-clause-ends : goal.returns-in_err-write_creations-clause-ends
returns-in_err-write_creations-clause-ends g c =
    let ts = g.C.Contents.tables c.args.contents.now in
    let gs = c.args.grants.now in
    let Ends = EndsLines {T = Unit {0}} (IsLongRow ts) (dump_of ts gs) in
    let a = g.W.Sink.taken c.args.writer.now in
    let b = g.W.Sink.taken c.write_creations.new.writer in
    let fault = c.in_err-write_creations.field-0.0 in
    let same : c.from_residual-in_err-write_creations.result ≡ Err fault = search rules in
    let ends = c.in_err-write_creations.ensures.ends in
    subst (λ r. Ends r a b) (sym same) (in_creations ts gs a b b b fault ends)

pub returns-in_err-write_rows-clause-ends : goal.returns-in_err-write_rows-clause-ends
returns-in_err-write_rows-clause-ends g c =
    let ts = g.C.Contents.tables c.args.contents.now in
    let gs = c.args.grants.now in
    let Ends = EndsLines {T = Unit {0}} (IsLongRow ts) (dump_of ts gs) in
    let a = g.W.Sink.taken c.args.writer.now in
    let b = g.W.Sink.taken c.write_creations.new.writer in
    let d = g.W.Sink.taken c.write_rows.new.writer in
    let fault = c.in_err-write_rows.field-0.0 in
    let same : c.from_residual-in_err-write_rows.result ≡ Err fault = search rules in
    let created = c.in_ok-write_creations.ensures.ends in
    let ends = c.in_err-write_rows.ensures.ends in
    subst (λ r. Ends r a d) (sym same) (in_rows ts gs a b d d fault created ends)

pub returns-in_err-write_grants-clause-ends : goal.returns-in_err-write_grants-clause-ends
returns-in_err-write_grants-clause-ends g c =
    let ts = g.C.Contents.tables c.args.contents.now in
    let gs = c.args.grants.now in
    let Ends = EndsLines {T = Unit {0}} (IsLongRow ts) (dump_of ts gs) in
    let a = g.W.Sink.taken c.args.writer.now in
    let b = g.W.Sink.taken c.write_creations.new.writer in
    let d = g.W.Sink.taken c.write_rows.new.writer in
    let e = g.W.Sink.taken c.write_grants.new.writer in
    let fault = c.in_err-write_grants.field-0.0 in
    let same : c.from_residual-in_err-write_grants.result ≡ Err fault = search rules in
    let created = c.in_ok-write_creations.ensures.ends in
    let inserted = c.in_ok-write_rows.ensures.ends in
    let ends = c.in_err-write_grants.ensures.ends in
    subst (λ r. Ends r a e) (sym same) (in_grants ts gs a b d e fault created inserted ends)

pub returns-in_err-flush-clause-ends : goal.returns-in_err-flush-clause-ends
returns-in_err-flush-clause-ends g c =
    let ts = g.C.Contents.tables c.args.contents.now in
    let gs = c.args.grants.now in
    let Ends = EndsLines {T = Unit {0}} (IsLongRow ts) (dump_of ts gs) in
    let a = g.W.Sink.taken c.args.writer.now in
    let b = g.W.Sink.taken c.write_creations.new.writer in
    let d = g.W.Sink.taken c.write_rows.new.writer in
    let e = g.W.Sink.taken c.write_grants.new.writer in
    let created = c.in_ok-write_creations.ensures.ends in
    let inserted = c.in_ok-write_rows.ensures.ends in
    let granted = c.in_ok-write_grants.ensures.ends in
    let whole : WritesLines (dump_of ts gs) a (g.W.Sink.taken c.flush.new.self) = kept (dump_of ts gs) a e (g.W.Sink.taken c.flush.new.self) (all_parts ts gs a b d e created inserted granted) c.in_err-flush.ensures.bytes in
    let same : c.from_residual-in_err-flush.result ≡ Err faults.Write = search rules in
    subst (λ r. Ends r a (g.W.Sink.taken c.flush.new.self)) (sym same) (whole-front (dump_of ts gs) a (g.W.Sink.taken c.flush.new.self) whole)

pub returns-clause-ends : goal.returns-clause-ends
returns-clause-ends g c =
    let ts = g.C.Contents.tables c.args.contents.now in
    let gs = c.args.grants.now in
    let Ends = EndsLines {T = Unit {0}} (IsLongRow ts) (dump_of ts gs) in
    let a = g.W.Sink.taken c.args.writer.now in
    let b = g.W.Sink.taken c.write_creations.new.writer in
    let d = g.W.Sink.taken c.write_rows.new.writer in
    let e = g.W.Sink.taken c.write_grants.new.writer in
    let created = c.in_ok-write_creations.ensures.ends in
    let inserted = c.in_ok-write_rows.ensures.ends in
    let granted = c.in_ok-write_grants.ensures.ends in
    let whole : WritesLines (dump_of ts gs) a (g.W.Sink.taken c.flush.new.self) = kept (dump_of ts gs) a e (g.W.Sink.taken c.flush.new.self) (all_parts ts gs a b d e created inserted granted) c.in_ok-flush.ensures.bytes in
    whole
