-- The messages that hang on no reply of the core.
use Rattle.std.specs.Prelude.{ℕ, List, Some, None, codes}
use Rattle.messages_core.specs.Columns.{table_columns}
use Rattle.messages_core.specs.Rows.{parameter_description, row_description}
use Rattle.messages_core.specs.Server.{no_encryption, server_spelling}
use Rattle.messages_core.specs.declared.server.ServerMessage.TheVariants as servers
use Rattle.answer_core.specs.Messages.{error_message, fault_message, unread_message}
use Rattle.answer_core.specs.RowTexts.{checkpoint_columns, export_columns}
use Rattle.sending_core.specs.CommandTexts.{cell_message, column_message, command_cell, command_column, command_tag, tag_message}
use Rattle.sending_core.specs.Problems.{problem_state, problem_text}
use Rattle.sending_core.specs.Welcome.{welcome}
use Rattle.sending_core.specs.declared.plain.Plain.{Plain}
use Rattle.sending_core.specs.declared.plain.Plain.TheVariants as plains

-- what is written of each
abbrev pub plain_text : Plain → List ℕ
plain_text plains.NoEncryption = no_encryption
plain_text plains.LoginWanted = server_spelling servers.AuthenticationSasl
plain_text (plains.Challenge text) = server_spelling (servers.AuthenticationSaslContinue text)
plain_text (plains.Signature text) = server_spelling (servers.AuthenticationSaslFinal text)
plain_text plains.Welcome = welcome
plain_text plains.ParseComplete = server_spelling servers.ParseComplete
plain_text plains.BindComplete = server_spelling servers.BindComplete
plain_text plains.CloseComplete = server_spelling servers.CloseComplete
plain_text plains.NoData = server_spelling servers.NoData
plain_text plains.EmptyQuery = server_spelling servers.EmptyQueryResponse
plain_text (plains.Ready status) = server_spelling (servers.ReadyForQuery status)
plain_text (plains.Types types) = parameter_description types
plain_text (plains.Columns columns formats) = row_description (table_columns columns formats)
plain_text (plains.CheckpointColumns formats) = row_description (checkpoint_columns formats)
plain_text (plains.ExportColumns formats) = row_description (export_columns formats)
plain_text (plains.CommandColumn command format) =
    column_message (command_column command format)
plain_text (plains.CommandRow command format) = cell_message (command_cell command format)
plain_text (plains.CommandTag command) = tag_message (command_tag command)
plain_text plains.RolledBack = tag_message (Some (codes "ROLLBACK"))
plain_text (plains.Fault code offset position) = fault_message code offset position
plain_text plains.Unread = unread_message
plain_text (plains.Error severity problem) =
    error_message severity (problem_state problem) (problem_text problem) None
