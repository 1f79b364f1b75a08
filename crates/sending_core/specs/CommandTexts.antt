-- What commands beside the language answer: at most one row of one column, and a tag (PostgreSQL's
-- protocol 3.0, "Message Formats").
use Rattle.std.specs.Prelude.{ℕ, pos, List, [], ◌∷◌, Option, Some, None, codes}
use Rattle.base_core.specs.declared.value.ColType.{ColType}
use Rattle.base_core.specs.declared.value.ColType.TheVariants as types
use Rattle.messages_core.specs.Rows.{cell_value, data_row, row_description}
use Rattle.messages_core.specs.Server.{server_spelling}
use Rattle.messages_core.specs.declared.rows.Cell.{Cell}
use Rattle.messages_core.specs.declared.rows.Cell.TheVariants as cells
use Rattle.messages_core.specs.declared.rows.ColumnDescription.{ColumnDescription}
use Rattle.messages_core.specs.declared.rows.Format.{Format}
use Rattle.messages_core.specs.declared.server.ServerMessage.TheVariants as servers
use Rattle.utility_core.specs.Settings.{setting_name, setting_value}
use Rattle.utility_core.specs.declared.command.Command.{Command}
use Rattle.utility_core.specs.declared.command.Command.TheVariants as commands

-- a column of this name and type, in this format
abbrev pub shown_column : List ℕ → ColType → Format → ColumnDescription
shown_column text kind f = record { name = text; ty = kind; format = f }

-- the column of the row that a command answers, as PostgreSQL heads it, if it answers one
abbrev pub command_column : Command → Format → Option ColumnDescription
command_column (commands.Show setting) f = Some (shown_column (setting_name setting) types.Text f)
command_column commands.UnlockAll f =
    Some (shown_column (codes "pg_advisory_unlock_all") types.Text f)
command_column commands.Version f = Some (shown_column (codes "version") types.Text f)
command_column commands.CurrentSchema f = Some (shown_column (codes "current_schema") types.Text f)
command_column commands.One f = Some (shown_column (codes "?column?") types.Integer f)
command_column command f = None

-- what stands in that row
abbrev pub command_cell : Command → Format → Option Cell
command_cell (commands.Show setting) f = Some (cells.Text (setting_value setting))
command_cell commands.UnlockAll f = Some (cells.Text [])
command_cell commands.Version f = Some (cells.Text (codes "PostgreSQL 15.0 (Bavgusen)"))
command_cell commands.CurrentSchema f = Some (cells.Text (codes "public"))
command_cell commands.One f = Some (cells.Number (pos 1) f)
command_cell command f = None

-- the tag of a command, if it is one that is carried out
abbrev pub command_tag : Command → Option (List ℕ)
command_tag commands.Begin = Some (codes "BEGIN")
command_tag commands.Commit = Some (codes "COMMIT")
command_tag commands.Rollback = Some (codes "ROLLBACK")
command_tag commands.Set = Some (codes "SET")
command_tag commands.UnknownSetting = None
command_tag (commands.Show setting) = Some (codes "SHOW")
command_tag (commands.Deallocate token) = Some (codes "DEALLOCATE")
command_tag commands.DeallocateUnderscored = Some (codes "DEALLOCATE")
command_tag commands.DeallocateAll = Some (codes "DEALLOCATE ALL")
command_tag commands.DiscardAll = Some (codes "DISCARD ALL")
command_tag commands.ResetAll = Some (codes "RESET")
command_tag commands.CloseAll = Some (codes "CLOSE CURSOR ALL")
command_tag commands.UnlistenAll = Some (codes "UNLISTEN")
command_tag commands.UnlockAll = Some (codes "SELECT 1")
command_tag commands.Version = Some (codes "SELECT 1")
command_tag commands.CurrentSchema = Some (codes "SELECT 1")
command_tag commands.One = Some (codes "SELECT 1")
command_tag commands.Unserved = None

-- RowDescription of that column, if there is one
abbrev pub column_message : Option ColumnDescription → List ℕ
column_message None = []
column_message (Some column) = row_description (column ∷ [])

-- DataRow of that row, if there is one
abbrev pub cell_message : Option Cell → List ℕ
cell_message None = []
cell_message (Some cell) = data_row (cell_value cell ∷ [])

-- CommandComplete with that tag, if there is one
abbrev pub tag_message : Option (List ℕ) → List ℕ
tag_message None = []
tag_message (Some tag) = server_spelling (servers.CommandComplete tag)
