use Rattle.std.proofs.Common.{◌∙◌, sym}
use Rattle.explain_core.proofs.LifeLemmas.{standing-holds}
use Rattle.explain_core.proofs.SupportLemmas.{explained}
use Rattle.explain_core.proofs.history.History.holds.Goals as goal

pub returns-else-owns : goal.returns-else-owns
returns-else-owns c =
    let h = explained _ _ c.self.view_is c.self.invariant in
    c.is_some.ensures ∙ standing-holds c.args.self.now c.args.user.now c.args.atom.now c.standing.result h.lawful (sym c.owns.ensures ∙ c.if-owns.false) c.standing.ensures
