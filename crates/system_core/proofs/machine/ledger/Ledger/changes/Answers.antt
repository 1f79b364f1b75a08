use Rattle.std.proofs.Common.{◌≡◌, ◌≤◌, ◌∙◌, List, subst, sym, ap, length, map, IfOk}
use Rattle.base_core.specs.declared.name.Name.{Name}
use Rattle.tables_core.specs.Contents.{Table}
use Rattle.grants_core.specs.declared.grant.Change.{Change}
use Rattle.system_core.specs.declared.machine.event.Entry.{Entry}
use Rattle.monitor_core.specs.Verdict.{columns_of}
use Rattle.system_core.specs.Journal.{change_of, changes}
use Rattle.system_core.specs.Standing.{LedgerState}
use Rattle.std.proofs.lemmas.Result.{IfOk-weaker}
use Rattle.grants_core.specs.Lawful.{AreLawful}
use Rattle.system_core.proofs.Accepted.{lawful_changes}
use Rattle.system_core.proofs.Replaying.{changes-at_once}
use Rattle.system_core.proofs.machine.ledger.Ledger.changes.Goals as goal

pub changes_of-requires : goal.changes_of-requires
changes_of-requires c =
    let Narrow : List (Name × Table) → Type 0 = λ ts. (name : Name) → length (columns_of ts name) ≤ 32 in
    subst Narrow (sym c.self.invariant.tables_of) c.self.invariant.sound.narrow

pub returns-clause-changes : goal.returns-clause-changes
returns-clause-changes c =
    let by : List (Name × Table) → List Entry → List Change = λ ts es. map (λ (e : Entry). change_of ts e.user e.statement) es in
    let same : by c.self.inside.tables.tables c.as_slice.result.now ≡ changes c.args.self.now.journal =
    ap (by c.self.inside.tables.tables) c.as_slice.ensures.value
    ∙ (ap (λ ts. by ts c.self.inside.journal.items) c.self.invariant.tables_of
    ∙ (changes-at_once c.self.inside.limits c.self.inside.journal.items c.self.invariant.sound.lawful
    ∙ ap (λ (w : LedgerState). changes w.journal) c.self.view_is)) in
    let Answered : List Change → Type 0 = λ v. IfOk c.changes_of.result (λ found. found.items ≡ v) in
    subst Answered same c.changes_of.ensures

pub returns-clause-lawful : goal.returns-clause-lawful
returns-clause-lawful c =
    let Lawful : List Change → Type 0 = λ cs. AreLawful cs in
    let all : Lawful (changes c.args.self.now.journal) =
    subst (λ (w : LedgerState). AreLawful (changes w.journal)) c.self.view_is (lawful_changes c.self.inside.limits c.self.inside.journal.items c.self.invariant.sound.lawful) in
    IfOk-weaker c.changes_of.result _ _ (λ found is. subst Lawful (sym is) all) (returns-clause-changes c)
