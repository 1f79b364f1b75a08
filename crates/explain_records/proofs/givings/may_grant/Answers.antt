use Rattle.std.proofs.Common.{◌||◌, ◌&&◌, ◌∙◌, ap, sym}
use Rattle.std.specs.List.{list_any}
use Rattle.grants_core.specs.Content.{gives}
use Rattle.grants_core.specs.History.{in_force_after}
use Rattle.explain_core.specs.Lives.{lives_of}
use Rattle.explain_records.specs.Held.{has_option_noted, holding_of}
use Rattle.explain_records.proofs.HeldLemmas.{held-option, held-optioned}
use Rattle.explain_records.proofs.givings.may_grant.Goals as goal

pub returns-else-owns : goal.returns-else-owns
returns-else-owns c =
    let changes = c.args.history.now in
    let user = c.args.user.now in
    let atom = c.args.atom.now in
    let w = holding_of user atom in
    c.has_with_option.ensures ∙ ap has_option_noted (c.requires.held w) ∙ held-option w (lives_of changes) ∙ held-optioned changes user atom c.requires.lawful
    ∙ sym (ap (λ b. b || list_any (λ g. g.option && gives user atom g) (in_force_after changes)) (sym c.owns.ensures ∙ c.if-owns.false))
