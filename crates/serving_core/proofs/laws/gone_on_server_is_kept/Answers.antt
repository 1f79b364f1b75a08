use Rattle.std.proofs.Common.{◌∙◌, ap, refl, sym, subst, ◌++◌, List, drop, length, map}
use Rattle.std.proofs.lemmas.List.{drop_at}
use Rattle.system_core.specs.declared.machine.event.Entry.{Entry}
use Rattle.std.specs.Prelude.{is_some}
use Rattle.journal_core.specs.Keeping.{line_rules}
use Rattle.journal_core.proofs.Entering.{KeepsOrOwes-all}
use Rattle.load_core.proofs.GoneOn.{kept_on}
use Rattle.load_core.specs.Kept.{CanBeLoadedBehind}
use Rattle.load_core.specs.Loading.{without_pass}
use Rattle.serving_core.proofs.laws.gone_on_server_is_kept.Goals as goal

pub returns : goal.returns
returns g c = λ by workers sessions start world old begun keeper leaves kept nothing whole loads.
    let rest = leaves.begins.0 in
    let all = KeepsOrOwes-all (line_rules g.W.Errands.may_run g.W.Errands.knows) begun keeper (drop (length start.journal) world.journal) (ap is_some nothing) kept in
    subst (λ (es : List Entry). CanBeLoadedBehind world.limits old begun.taken keeper.taken (start.journal ++ map without_pass es))
    (sym (ap (drop (length start.journal)) leaves.begins.1 ∙ drop_at start.journal rest (length start.journal) refl))
    (kept_on world.limits old start.journal rest world.journal begun keeper all leaves.begins.1 leaves.ended.lawful.journal whole loads)
