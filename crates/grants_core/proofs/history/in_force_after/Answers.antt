use Rattle.std.proofs.Common.{◌≡◌, ap, ◌∙◌}
use Rattle.std.proofs.lemmas.Result.{IfOk-weaker}
use Rattle.grants_core.specs.Valid.{valid}
use Rattle.grants_core.specs.Log.{left_by}
use Rattle.grants_core.specs.History.{left_after, in_force_after}
use Rattle.grants_core.proofs.LogLemmas.{left_by-log}
use Rattle.grants_core.proofs.history.in_force_after.Goals as goal

pub returns : goal.returns
returns c =
    let log = c.in_ok-log.log in
    let changes = c.args.changes.now in
    let is = c.in_ok-log.ensures in
    let same : valid log.owners (left_by log log.made.items) ≡ in_force_after changes =
    ap (valid log.owners) (left_by-log log changes is) ∙ ap (λ o. valid o (left_after changes)) is.owners in
    IfOk-weaker c.valid_grants.result (λ grants. grants.items ≡ valid log.owners (left_by log log.made.items)) (λ grants. grants.items ≡ in_force_after changes)
    (λ grants e. e ∙ same) c.valid_grants.ensures
