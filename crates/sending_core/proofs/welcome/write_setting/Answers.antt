use Rattle.std.proofs.Common.{◌≡◌, ◌≤◌, ℕ, List, length, ap, ◌∙◌, arith}
use Rattle.base_core.proofs.Fronts.{text-same}
use Rattle.messages_core.specs.Server.{server_spelling}
use Rattle.messages_core.specs.declared.server.ServerMessage.TheVariants as servers
use Rattle.utility_core.specs.Settings.{setting_name, setting_value}
use Rattle.sending_core.specs.Welcome.{setting_status}
use Rattle.sending_core.proofs.SettingLemmas.{name_short, strings_short, value_short}
use Rattle.sending_core.proofs.welcome.write_setting.Goals as goal

pub write_message-requires-clause-short : goal.write_message-requires-clause-short
write_message-requires-clause-short g c =
    let s = c.args.setting in
    let is_name : c.new-name.result ≡ setting_name s = c.new-name.ensures ∙ c.as_bytes.ensures.value ∙ c.name.ensures in
    let is_value : c.new-value.result ≡ setting_value s = c.new-value.ensures ∙ c.as_bytes-2.ensures.value ∙ c.value.ensures in
    let name : length c.new-name.result ≤ 30 = omega (arith, ap (λ (t : List ℕ). length t) is_name, name_short s) in
    let value : length c.new-value.result ≤ 30 = omega (arith, ap (λ (t : List ℕ). length t) is_value, value_short s) in
    strings_short c.new-name.result c.new-value.result name value

pub returns : goal.returns
returns g c =
    let s = c.args.setting in
    let name = c.new-name.result in
    let value = c.new-value.result in
    let is_name : name ≡ setting_name s = c.new-name.ensures ∙ c.as_bytes.ensures.value ∙ c.name.ensures in
    let is_value : value ≡ setting_value s = c.new-value.ensures ∙ c.as_bytes-2.ensures.value ∙ c.value.ensures in
    text-same g.W.Sink.failed g.W.Sink.taken _ _ (server_spelling (servers.ParameterStatus name value)) (setting_status s) c.write_message.result
    (ap (λ (n : List ℕ). server_spelling (servers.ParameterStatus n value)) is_name ∙ ap (λ (v : List ℕ). server_spelling (servers.ParameterStatus (setting_name s) v)) is_value)
    c.write_message.ensures
