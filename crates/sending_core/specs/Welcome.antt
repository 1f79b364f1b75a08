-- What ends a login and begins a session (PostgreSQL's protocol 3.0, "Start-up").
use Rattle.std.specs.Prelude.{ℕ, List, [], ◌∷◌, ◌++◌}
use Rattle.std.specs.List.{flat_map}
use Rattle.messages_core.specs.Server.{server_spelling}
use Rattle.messages_core.specs.declared.server.ServerMessage.TheVariants as servers
use Rattle.messages_core.specs.declared.server.Status.TheVariants as statuses
use Rattle.utility_core.specs.Settings.{setting_name, setting_value}
use Rattle.utility_core.specs.declared.command.Setting.{Setting}
use Rattle.utility_core.specs.declared.command.Setting.TheVariants as settings

-- ParameterStatus, which tells a setting
abbrev pub setting_status : Setting → List ℕ
setting_status s = server_spelling (servers.ParameterStatus (setting_name s) (setting_value s))

-- the settings that PostgreSQL tells at the start, and that the server has
abbrev pub told_settings : List Setting
told_settings =
    settings.ServerVersion ∷ settings.ServerEncoding ∷ settings.ClientEncoding
    ∷ settings.DateStyle ∷ settings.TimeZone ∷ settings.IntegerDatetimes
    ∷ settings.StandardConformingStrings ∷ []

-- that the client is logged in, and the settings
abbrev pub login_end : List ℕ
login_end = server_spelling servers.AuthenticationOk ++ flat_map setting_status told_settings

-- numbers for CancelRequest, which is not served, and that a statement may come
abbrev pub session_begin : List ℕ
session_begin = server_spelling (servers.BackendKeyData 0 0)
    ++ server_spelling (servers.ReadyForQuery statuses.Idle)

abbrev pub welcome : List ℕ
welcome = login_end ++ session_begin
