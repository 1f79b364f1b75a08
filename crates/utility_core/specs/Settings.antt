-- Settings: their names and their values.
use Rattle.std.specs.Prelude.{ℕ, List, codes}
use Rattle.utility_core.specs.declared.command.Setting.{Setting}
use Rattle.utility_core.specs.declared.command.Setting.TheVariants as settings

-- the name of a setting, as PostgreSQL heads the column of SHOW
abbrev pub setting_name : Setting → List ℕ
setting_name settings.ServerVersion = codes "server_version"
setting_name settings.ServerEncoding = codes "server_encoding"
setting_name settings.ClientEncoding = codes "client_encoding"
setting_name settings.DateStyle = codes "DateStyle"
setting_name settings.TimeZone = codes "TimeZone"
setting_name settings.IntegerDatetimes = codes "integer_datetimes"
setting_name settings.StandardConformingStrings = codes "standard_conforming_strings"
setting_name settings.TransactionIsolation = codes "transaction_isolation"
setting_name settings.TransactionReadOnly = codes "transaction_read_only"
setting_name settings.SearchPath = codes "search_path"
setting_name settings.MaxIdentifierLength = codes "max_identifier_length"

-- its value
abbrev pub setting_value : Setting → List ℕ
setting_value settings.ServerVersion = codes "15.0"
setting_value settings.ServerEncoding = codes "UTF8"
setting_value settings.ClientEncoding = codes "UTF8"
setting_value settings.DateStyle = codes "ISO, MDY"
setting_value settings.TimeZone = codes "UTC"
setting_value settings.IntegerDatetimes = codes "on"
setting_value settings.StandardConformingStrings = codes "on"
setting_value settings.TransactionIsolation = codes "read committed"
setting_value settings.TransactionReadOnly = codes "off"
setting_value settings.SearchPath = codes "\"$user\", public"
setting_value settings.MaxIdentifierLength = codes "30"
