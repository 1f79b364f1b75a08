use Rattle.std.proofs.Common.{sym, ◌∙◌}
use Rattle.grants_core.specs.Keys.{same_key}
use Rattle.indexmap.specs.IndexSet.{contains_by}
use Rattle.capture_core.proofs.Given.{with_grant, with_another}
use Rattle.capture_core.proofs.granted.add_given.Goals as goal

pub returns-in_ok-insert : goal.returns-in_ok-insert
returns-in_ok-insert c =
    λ atom.
    c.in_ok-insert.ensures.updates.0 (record { 0 = atom })
    ∙ with_grant c.args.user.now atom c.args.grant.now (contains_by (same_key (record { 0 = atom })) c.args.given.now) (sym c.eq.ensures ∙ c.if-eq.true)

pub returns-else-eq : goal.returns-else-eq
returns-else-eq c =
    λ atom. with_another c.args.user.now atom c.args.grant.now (contains_by (same_key (record { 0 = atom })) c.args.given.now) (sym c.eq.ensures ∙ c.if-eq.false)
