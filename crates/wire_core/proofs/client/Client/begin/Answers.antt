use Rattle.std.proofs.Common.{◌≡◌, Some, List, ◌++◌, ℕ, ap, ◌∙◌}
use Rattle.sending_core.specs.declared.plain.Plain.TheVariants as plains
use Rattle.conversation_core.specs.State.{ConversationState}
use Rattle.conversation_core.specs.Telling.{plain}
use Rattle.wire_core.specs.State.{ClientAndQueue, ClientState}
use Rattle.wire_core.specs.Entering.{LogsInBy, challenged, not_begun, exhausted}
use Rattle.wire_core.proofs.Answering.{added, talked}
use Rattle.wire_core.proofs.client.Client.begin.Goals as goal

pub returns-in-Refused : goal.returns-in-Refused
returns-in-Refused c =
    let none = ap (λ (z : ClientAndQueue). z.state.begun) c.self.view_is ∙ c.requires.none in
    talked (LogsInBy c.args.users.now c.args.secret.now c.args.own.now c.args.name c.args.body.now) _ _ c.self.view_is c.requires.free _ _ _ _ c.end.ensures.items c.end.ensures.state
    (not_begun none c.in-Refused.ensures)

pub returns-in-Unread : goal.returns-in-Unread
returns-in-Unread c =
    talked (LogsInBy c.args.users.now c.args.secret.now c.args.own.now c.args.name c.args.body.now) _ _ c.self.view_is c.requires.free _ _ _ _ c.end-in-Unread.ensures.items c.end-in-Unread.ensures.state
    exhausted

pub returns-in_default : goal.returns-in_default
returns-in_default c =
    talked (LogsInBy c.args.users.now c.args.secret.now c.args.own.now c.args.name c.args.body.now) _ _ c.self.view_is c.requires.free _ _ _ _ c.end-in_default.ensures.items c.end-in_default.ensures.state
    exhausted

pub returns : goal.returns
returns c =
    let none = ap (λ (z : ClientAndQueue). z.state.begun) c.self.view_is ∙ c.requires.none in
    let told : c.in-Some.challenge ≡ c.in-Challenged.begun.server_first = c.in-Some.ensures ∙ c.server_first.ensures in
    added (LogsInBy c.args.users.now c.args.secret.now c.args.own.now c.args.name c.args.body.now) _ _ c.self.view_is c.requires.free _ _ _ _
    (c.send.ensures.items ∙ ap (λ (s : List ℕ). c.self.inside.conversation.sending.items ++ plain (plains.Challenge s)) told)
    (ap (λ (t : ConversationState). record { claimed = c.self.inside.claimed; begun = Some c.in-Challenged.begun; user = c.self.inside.user; talk = t }) c.send.ensures.state)
    (challenged none c.in-Challenged.ensures)
