-- The tables: which words are which command.
use Rattle.std.specs.Prelude.{ℕ, List, [], ◌∷◌, ◌++◌}
use Rattle.utility_core.specs.Words.{words}
use Rattle.utility_core.specs.declared.command.Command.{Command}
use Rattle.utility_core.specs.declared.command.Command.TheVariants as commands
use Rattle.utility_core.specs.declared.command.Setting.TheVariants as settings
use Rattle.utility_core.specs.declared.forms.Rest.{Rest}
use Rattle.utility_core.specs.declared.forms.Rest.TheVariants as rests

-- the first words of a command, what may stand behind them, and the command
abbrev pub Form : Type 0
Form = List (List ℕ) × Rest × Command

-- words that say how a block is isolated
abbrev pub mode_words : List (List ℕ)
mode_words =
    words "isolation level serializable repeatable read committed uncommitted"
    ++ words "write only not deferrable ,"

-- how a client writes UTF-8
abbrev pub utf8_words : List (List ℕ)
utf8_words = words "utf8 unicode 'utf8' 'utf-8' 'unicode'"

-- how it writes yes
abbrev pub yes_words : List (List ℕ)
yes_words = words "on 'on' true 'true'"

-- for how long a setting is to hold
abbrev pub scopes : List (List ℕ)
scopes = words "session local"

-- all commands but most of SET
unfoldable pub command_forms : List Form
command_forms =
    (words "begin", rests.Modes, commands.Begin)
    ∷ (words "begin work", rests.Modes, commands.Begin)
    ∷ (words "begin transaction", rests.Modes, commands.Begin)
    ∷ (words "start transaction", rests.Modes, commands.Begin)
    ∷ (words "commit", rests.Nothing, commands.Commit)
    ∷ (words "commit work", rests.Nothing, commands.Commit)
    ∷ (words "commit transaction", rests.Nothing, commands.Commit)
    ∷ (words "end", rests.Nothing, commands.Commit)
    ∷ (words "end work", rests.Nothing, commands.Commit)
    ∷ (words "end transaction", rests.Nothing, commands.Commit)
    ∷ (words "rollback", rests.Nothing, commands.Rollback)
    ∷ (words "rollback work", rests.Nothing, commands.Rollback)
    ∷ (words "rollback transaction", rests.Nothing, commands.Rollback)
    ∷ (words "abort", rests.Nothing, commands.Rollback)
    ∷ (words "abort work", rests.Nothing, commands.Rollback)
    ∷ (words "abort transaction", rests.Nothing, commands.Rollback)
    ∷ (words "show server_version", rests.Nothing, commands.Show settings.ServerVersion)
    ∷ (words "show server_encoding", rests.Nothing, commands.Show settings.ServerEncoding)
    ∷ (words "show client_encoding", rests.Nothing, commands.Show settings.ClientEncoding)
    ∷ (words "show datestyle", rests.Nothing, commands.Show settings.DateStyle)
    ∷ (words "show timezone", rests.Nothing, commands.Show settings.TimeZone)
    ∷ (words "show integer_datetimes", rests.Nothing, commands.Show settings.IntegerDatetimes)
    ∷ (
      words "show standard_conforming_strings",
      rests.Nothing,
      commands.Show settings.StandardConformingStrings,
    )
    ∷ (
      words "show transaction_isolation",
      rests.Nothing,
      commands.Show settings.TransactionIsolation,
    )
    ∷ (
      words "show transaction isolation level",
      rests.Nothing,
      commands.Show settings.TransactionIsolation,
    )
    ∷ (
      words "show transaction_read_only",
      rests.Nothing,
      commands.Show settings.TransactionReadOnly,
    )
    ∷ (words "show search_path", rests.Nothing, commands.Show settings.SearchPath)
    ∷ (
      words "show max_identifier_length",
      rests.Nothing,
      commands.Show settings.MaxIdentifierLength,
    )
    ∷ (words "show", rests.Word, commands.UnknownSetting)
    ∷ (words "deallocate all", rests.Nothing, commands.DeallocateAll)
    ∷ (words "deallocate prepare all", rests.Nothing, commands.DeallocateAll)
    ∷ (words "deallocate", rests.Word, commands.Deallocate 1)
    ∷ (words "deallocate prepare", rests.Word, commands.Deallocate 2)
    ∷ (words "discard all", rests.Nothing, commands.DiscardAll)
    ∷ (words "reset all", rests.Nothing, commands.ResetAll)
    ∷ (words "close all", rests.Nothing, commands.CloseAll)
    ∷ (words "unlisten *", rests.Nothing, commands.UnlistenAll)
    ∷ (words "select version ( )", rests.Nothing, commands.Version)
    ∷ (words "select current_schema ( )", rests.Nothing, commands.CurrentSchema)
    ∷ (words "select pg_advisory_unlock_all ( )", rests.Nothing, commands.UnlockAll)
    ∷ (words "select 1", rests.Nothing, commands.One)
    ∷ (words "savepoint", rests.Anything, commands.Unserved)
    ∷ (words "release", rests.Anything, commands.Unserved)
    ∷ (words "declare", rests.Anything, commands.Unserved)
    ∷ (words "fetch", rests.Anything, commands.Unserved)
    ∷ (words "move", rests.Anything, commands.Unserved)
    ∷ (words "prepare", rests.Anything, commands.Unserved)
    ∷ (words "execute", rests.Anything, commands.Unserved)
    ∷ (words "listen", rests.Anything, commands.Unserved)
    ∷ (words "notify", rests.Anything, commands.Unserved)
    ∷ (words "lock", rests.Anything, commands.Unserved)
    ∷ (words "set session characteristics as transaction", rests.SomeModes, commands.Set)
    ∷ []

-- SET, behind its first word and SESSION or LOCAL
unfoldable pub setting_forms : List Form
setting_forms =
    (words "transaction", rests.SomeModes, commands.Set)
    ∷ (words "time zone", rests.Values, commands.Set)
    ∷ (words "application_name =", rests.Values, commands.Set)
    ∷ (words "application_name to", rests.Values, commands.Set)
    ∷ (words "datestyle =", rests.Values, commands.Set)
    ∷ (words "datestyle to", rests.Values, commands.Set)
    ∷ (words "timezone =", rests.Values, commands.Set)
    ∷ (words "timezone to", rests.Values, commands.Set)
    ∷ (words "extra_float_digits =", rests.Values, commands.Set)
    ∷ (words "extra_float_digits to", rests.Values, commands.Set)
    ∷ (words "client_encoding =", rests.Utf8, commands.Set)
    ∷ (words "client_encoding to", rests.Utf8, commands.Set)
    ∷ (words "standard_conforming_strings =", rests.Yes, commands.Set)
    ∷ (words "standard_conforming_strings to", rests.Yes, commands.Set)
    ∷ ([], rests.Anything, commands.UnknownSetting)
    ∷ []
