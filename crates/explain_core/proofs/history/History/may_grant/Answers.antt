use Rattle.std.proofs.Common.{◌||◌, ◌&&◌, ◌∙◌, ap, is_none, is_some, not, sym}
use Rattle.std.specs.List.{list_any}
use Rattle.grants_core.specs.Content.{gives}
use Rattle.grants_core.specs.History.{in_force_after}
use Rattle.explain_core.proofs.LifeLemmas.{option-lives}
use Rattle.explain_core.proofs.SupportLemmas.{explained}
use Rattle.explain_core.proofs.history.History.may_grant.Goals as goal

pub returns-else-owns : goal.returns-else-owns
returns-else-owns c =
    let changes = c.args.self.now in
    let user = c.args.user.now in
    let atom = c.args.atom.now in
    let h = explained _ _ c.self.view_is c.self.invariant in
    c.any_optioned.ensures
    ∙ ap (list_any (λ life. is_none life.fell && (not (is_some life.option_end) && gives user atom life.grant))) (c.deref.ensures.value ∙ h.lives_are)
    ∙ sym (option-lives changes user atom h.lawful)
    ∙ sym (ap (λ b. b || list_any (λ g. g.option && gives user atom g) (in_force_after changes)) (sym c.owns.ensures ∙ c.if-owns.false))
