use Rattle.std.proofs.Common.{◌||◌, ◌∙◌, ap, is_some, sym}
use Rattle.std.specs.List.{list_any}
use Rattle.grants_core.specs.Content.{gives}
use Rattle.grants_core.specs.History.{in_force_after}
use Rattle.explain_core.specs.Lives.{lives_of}
use Rattle.explain_records.specs.Held.{holding_of}
use Rattle.explain_records.proofs.HeldLemmas.{held-gives, held-some}
use Rattle.explain_records.proofs.givings.holds.Goals as goal

pub returns-else-owns : goal.returns-else-owns
returns-else-owns c =
    let changes = c.args.history.now in
    let user = c.args.user.now in
    let atom = c.args.atom.now in
    let w = holding_of user atom in
    c.has.ensures ∙ ap is_some (c.requires.held w) ∙ held-some w (lives_of changes) ∙ held-gives changes user atom c.requires.lawful
    ∙ sym (ap (λ b. b || list_any (gives user atom) (in_force_after changes)) (sym c.owns.ensures ∙ c.if-owns.false))
