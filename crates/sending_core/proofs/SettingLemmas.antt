-- How long the texts of settings are.
use Rattle.std.proofs.Common.{ℕ, ◌+◌, ◌^◌, ◌<◌, ◌≤◌, List, ◌++◌, length, arith}
use Rattle.std.proofs.lemmas.List.{length-append}
use Rattle.messages_core.specs.Fields.{string}
use Rattle.utility_core.specs.Settings.{setting_name, setting_value}
use Rattle.utility_core.specs.declared.command.Setting.{Setting}
use Rattle.utility_core.specs.declared.command.Setting.TheVariants as settings

pub name_short : (s : Setting) → length (setting_name s) ≤ 30
name_short settings.ServerVersion = omega arith
name_short settings.ServerEncoding = omega arith
name_short settings.ClientEncoding = omega arith
name_short settings.DateStyle = omega arith
name_short settings.TimeZone = omega arith
name_short settings.IntegerDatetimes = omega arith
name_short settings.StandardConformingStrings = omega arith
name_short settings.TransactionIsolation = omega arith
name_short settings.TransactionReadOnly = omega arith
name_short settings.SearchPath = omega arith
name_short settings.MaxIdentifierLength = omega arith

pub value_short : (s : Setting) → length (setting_value s) ≤ 30
value_short settings.ServerVersion = omega arith
value_short settings.ServerEncoding = omega arith
value_short settings.ClientEncoding = omega arith
value_short settings.DateStyle = omega arith
value_short settings.TimeZone = omega arith
value_short settings.IntegerDatetimes = omega arith
value_short settings.StandardConformingStrings = omega arith
value_short settings.TransactionIsolation = omega arith
value_short settings.TransactionReadOnly = omega arith
value_short settings.SearchPath = omega arith
value_short settings.MaxIdentifierLength = omega arith

-- both as Strings
pub strings_short : (name value : List ℕ) → length name ≤ 30 → length value ≤ 30 → length (string name ++ string value) + 6 < 2 ^ 31
strings_short name value n v = simp length-append (omega arith)
