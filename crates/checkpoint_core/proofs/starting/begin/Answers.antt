use Rattle.std.proofs.Common.{◌≤◌, ap, refl, sym, subst, rules}
use Rattle.journal_core.specs.Keeping.{owing_nothing}
use Rattle.desk_core.specs.Guarded.{origin_at}
use Rattle.data_core.specs.Written.{PiecesState, text_written}
use Rattle.recovery_core.proofs.Histories.{history_restored}
use Rattle.checkpoint_core.specs.Beginning.{MayTend}
use Rattle.checkpoint_core.proofs.Restored.{ready, some_begins_at, may_tend}
use Rattle.checkpoint_core.proofs.starting.begin.Goals as goal

pub new-requires : goal.new-requires
new-requires g c = some_begins_at c.args.chunk c.args.limits c.in_ok-recovered.recovered (g.F.Folder.state c.args.folder) (g.F.Folder.state c.recover.new.folder) c.in_ok-recovered.ensures.moves

pub returns-clause-ready : goal.returns-clause-ready
returns-clause-ready g c = ready c.in_ok-recovered.recovered.system c.in_ok-recovered.ensures.made.0

pub returns-clause-begins : goal.returns-clause-begins
returns-clause-begins g c =
    let r = c.in_ok-recovered.recovered in
    let old = g.F.Folder.state c.args.folder in
    let new = g.F.Folder.state c.recover.new.folder in
    let few : r.at ≤ 9999999999 = search rules in
    let tended = may_tend history_restored c.args.chunk c.args.limits r g.F.Folder.knows (record { count = r.at; start = c.moment.result.0 }) old new refl (ap (λ m. m.0) c.moment.ensures) few c.in_ok-recovered.ensures.made.0
    (g.met.F.Folder.reached c.args.folder) c.requires.over (g.met.F.Folder.texts c.recover.new.folder) c.in_ok-recovered.ensures.moves (g.met.F.Folder.known c.args.folder) in
    subst (λ (p : PiecesState g.row.F.Denot). MayTend g.F.Folder.knows (record { count = r.at; start = c.moment.result.0 }) r.system.journal (origin_at r.system (owing_nothing (text_written (g.F.Folder.state p.folder)) (text_written (g.F.Folder.state p.folder)))))
    (sym c.new.ensures) tended
