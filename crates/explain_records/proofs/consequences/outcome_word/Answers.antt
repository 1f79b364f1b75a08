use Rattle.std.proofs.Common.{◌∙◌, ap, sym}
use Rattle.std.proofs.lemmas.Option.{same_Some}
use Rattle.grants_core.specs.History.{owners_after}
use Rattle.grants_core.specs.Keys.{given_by}
use Rattle.grants_core.specs.Owners.{owns}
use Rattle.explain_core.specs.Lives.{lives_of}
use Rattle.explain_records.specs.Outcomes.{left_text, outcome_of}
use Rattle.explain_records.proofs.Left.{left-told, taken-noted}
use Rattle.explain_records.proofs.consequences.outcome_word.Goals as goal

pub unreachable-requires : goal.unreachable-requires
unreachable-requires c =
    let life = c.args.life.now in
    let lives = lives_of c.args.history.now in
    c.in_default.not-Some (outcome_of lives c.args.at (given_by life.grant))
    (c.of_life.ensures ∙ c.requires.outcomes (given_by life.grant) ∙ taken-noted lives c.args.at life c.requires.known c.requires.taken)

pub returns : goal.returns
returns c =
    let life = c.args.life.now in
    let changes = c.args.history.now in
    let lives = lives_of changes in
    let noted = c.of_life.ensures ∙ c.requires.outcomes (given_by life.grant) ∙ taken-noted lives c.args.at life c.requires.known c.requires.taken in
    let same = same_Some c.in-Some.outcome (outcome_of lives c.args.at (given_by life.grant)) (sym c.in-Some.is ∙ noted) in
    c.left_word.ensures
    ∙ ap (λ b. left_text b c.in-Some.outcome) c.owns-is_owner.ensures
    ∙ ap (left_text (owns (owners_after changes) life.grant.grantee life.grant.atom)) same
    ∙ left-told changes life.grant.grantee life.grant.atom c.requires.lawful c.args.at
