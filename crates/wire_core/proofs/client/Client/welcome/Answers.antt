use Rattle.std.proofs.Common.{◌≡◌, Some, List, ◌++◌, ℕ, ap, ◌∙◌, append_assoc}
use Rattle.sending_core.specs.declared.item.Item.{Item}
use Rattle.sending_core.specs.declared.plain.Plain.TheVariants as plains
use Rattle.conversation_core.specs.State.{ConversationState}
use Rattle.conversation_core.specs.Telling.{plain}
use Rattle.wire_core.specs.State.{ClientState}
use Rattle.wire_core.specs.Entering.{WelcomesBy, welcomed, exhausted}
use Rattle.wire_core.proofs.Answering.{added, talked}
use Rattle.wire_core.proofs.client.Client.welcome.Goals as goal

pub returns-in_default : goal.returns-in_default
returns-in_default c =
    talked (WelcomesBy c.args.user c.args.answer.items) _ _ c.self.view_is c.requires _ _ _ _ c.end.ensures.items c.end.ensures.state
    exhausted

pub returns : goal.returns
returns c =
    let signature : c.in-Some.answer ≡ c.args.answer.items = c.in-Some.ensures.some ∙ c.from_vec.ensures in
    let waiting = c.self.inside.conversation.sending.items in
    let items : c.send-2.new.self.sending.items ≡ waiting ++ (plain (plains.Signature c.args.answer.items) ++ plain plains.Welcome)
    = c.send-2.ensures.items
    ∙ (ap (λ (q : List Item). q ++ plain plains.Welcome) (c.send.ensures.items ∙ ap (λ (s : List ℕ). waiting ++ plain (plains.Signature s)) signature)
    ∙ append_assoc waiting (plain (plains.Signature c.args.answer.items)) (plain plains.Welcome)) in
    added (WelcomesBy c.args.user c.args.answer.items) _ _ c.self.view_is c.requires _ _ _ _ items
    (ap (λ (t : ConversationState). record { claimed = c.self.inside.claimed; begun = c.self.inside.begun; user = Some c.args.user; talk = t }) (c.send-2.ensures.state ∙ c.send.ensures.state)) welcomed
