use Rattle.std.proofs.Common.{◌≡◌, ℕ, List, codes, ap, ◌∙◌}
use Rattle.std.specs.Fmt.{decimal}
use Rattle.base_core.proofs.Fronts.{text-same}
use Rattle.messages_core.specs.Server.{server_spelling}
use Rattle.messages_core.specs.declared.server.ServerMessage.TheVariants as servers
use Rattle.answer_core.specs.Messages.{moment_status}
use Rattle.answer_core.proofs.messages.write_moment.Goals as goal

pub returns : goal.returns
returns g c =
    let name = c.new-name.result in
    let value = c.new-value.result in
    let is_name : name ≡ codes "sysr.moment" = c.new-name.ensures in
    let is_value : value ≡ decimal c.args.at.0 = c.new-value.ensures ∙ c.as_bytes.ensures.value ∙ c.format.ensures.text in
    text-same g.W.Sink.failed g.W.Sink.taken _ _ (server_spelling (servers.ParameterStatus name value)) (moment_status c.args.at.0) c.write_message.result
    (ap (λ (n : List ℕ). server_spelling (servers.ParameterStatus n value)) is_name ∙ ap (λ (v : List ℕ). server_spelling (servers.ParameterStatus (codes "sysr.moment") v)) is_value)
    c.write_message.ensures
