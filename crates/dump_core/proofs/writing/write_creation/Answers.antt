use Rattle.std.proofs.Common.{◌≡◌, Err, List, [], ◌∷◌, refl, sym, subst, rules}
use Rattle.std.proofs.KnownBytes.{Appends-nil}
use Rattle.reader_core.specs.declared.statement.Statement.TheVariants as statements
use Rattle.system_core.specs.World.{entry}
use Rattle.system_core.specs.declared.machine.event.Entry.{Entry}
use Rattle.journal_core.specs.Text.{journal_text}
use Rattle.dump_core.specs.declared.fault.DumpFault.TheVariants as faults
use Rattle.dump_core.specs.Ending.{IsNowhere, EndsLines}
use Rattle.dump_core.proofs.writing.write_creation.Goals as goal

pub returns-in_err-statement-clause-ends : goal.returns-in_err-statement-clause-ends
returns-in_err-statement-clause-ends g c =
    let entries : List Entry = entry 0 c.args.owner (statements.CreateTable c.args.name c.args.columns.now) ∷ [] in
    let taken = g.W.Sink.taken c.args.writer.now in
    let same : c.from_residual.result ≡ Err faults.NoMemory = search rules in
    subst (λ r. EndsLines {T = Unit {0}} IsNowhere entries r taken taken) (sym same)
    (record { part = []; unwritten = journal_text entries; front = refl; wrote = Appends-nil taken })
