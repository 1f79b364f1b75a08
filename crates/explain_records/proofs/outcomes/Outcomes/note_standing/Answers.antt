use Rattle.std.proofs.Common.{◌≡◌, ◌∙◌, Some, ap, cond, sym}
use Rattle.indexmap.specs.IndexMap.{get}
use Rattle.grants_core.specs.declared.key.Holding.{Holding}
use Rattle.grants_core.specs.Keys.{given_by, same_holding}
use Rattle.grants_core.specs.KeyLaws.{same_holding-true}
use Rattle.explain_records.specs.Outcomes.{is_to}
use Rattle.explain_records.proofs.OutcomeLemmas.{standing-where_given, some-none}
use Rattle.explain_records.proofs.outcomes.Outcomes.note_standing.Goals as goal

pub returns : goal.returns
returns c = λ w.
    let life = c.args.life.now in
    let old = c.args.self.now.of in
    let mine : Holding = given_by life.grant in
    let found : Some c.in-Some.outcome ≡ get same_holding old mine = sym c.in-Some.is ∙ c.of_holding.ensures in
    c.in_ok-insert.ensures.updates.0 w
    ∙ ap (λ v. cond (is_to w life) (Some v) (get same_holding old w)) c.kept_by.ensures
    ∙ standing-where_given life w (get same_holding old w) c.in-Some.outcome (some-none life.fell (sym c.is_some.ensures ∙ c.if-is_some.false))
    (λ same. found ∙ ap (get same_holding old) (same_holding-true mine w same))
