use Rattle.std.proofs.Common.{sym, ap, ◌∙◌}
use Rattle.wire_core.specs.State.{ClientAndQueue}
use Rattle.wire_core.specs.Entering.{LogsInBy, logged_in, refused, exhausted}
use Rattle.wire_core.proofs.Answering.{talked}
use Rattle.wire_core.proofs.client.Client.log_in_by.Goals as goal

pub returns-in-LoggedIn : goal.returns-in-LoggedIn
returns-in-LoggedIn c =
    logged_in c.in-Some.begun c.in-LoggedIn.user c.in-LoggedIn.answer
    (sym (ap (λ (z : ClientAndQueue). z.state.begun) c.self.view_is) ∙ c.in-Some.is) c.in-LoggedIn.ensures c.welcome.ensures

pub returns-in-Refused : goal.returns-in-Refused
returns-in-Refused c =
    talked (LogsInBy c.args.users.now c.args.secret.now c.args.own.now c.args.name c.args.body.now) _ _ c.self.view_is c.requires _ _ _ _ c.end.ensures.items c.end.ensures.state
    (refused c.in-Some.begun c.in-Some.is c.in-Refused.ensures)

pub returns-in-Unread : goal.returns-in-Unread
returns-in-Unread c =
    talked (LogsInBy c.args.users.now c.args.secret.now c.args.own.now c.args.name c.args.body.now) _ _ c.self.view_is c.requires _ _ _ _ c.end-in-Unread.ensures.items c.end-in-Unread.ensures.state
    exhausted
