-- The messages of an answer (PostgreSQL's protocol 3.0), but for its rows.
use Rattle.std.specs.Prelude.{ℕ, List, [], ◌++◌, Option, None, Some, codes, decimal}
use Rattle.lexer_core.specs.declared.fault.Code.{Code}
use Rattle.messages_core.specs.Server.{server_spelling}
use Rattle.messages_core.specs.declared.server.Notice.{Notice}
use Rattle.messages_core.specs.declared.server.ServerMessage.TheVariants as servers
use Rattle.messages_core.specs.declared.server.Severity.{Severity}
use Rattle.messages_core.specs.declared.server.Severity.TheVariants as severities
use Rattle.reply_core.specs.Texts.{fault_text, reply_text, unread_text}
use Rattle.system_core.specs.declared.machine.event.Reply.{Reply}
use Rattle.system_core.specs.declared.machine.event.Reply.TheVariants as replies
use Rattle.answer_core.specs.Codes.{fault_state, lack_state, state_text}
use Rattle.answer_core.specs.RowTexts.{unended}
use Rattle.answer_core.specs.Tags.{tag_text}
use Rattle.answer_core.specs.declared.sql_state.SqlState.{SqlState}
use Rattle.answer_core.specs.declared.sql_state.SqlState.TheVariants as states
use Rattle.answer_core.specs.declared.tag.Tag.{Tag}

-- ParameterStatus, which tells the moment
abbrev pub moment_status : ℕ → List ℕ
moment_status at = server_spelling (servers.ParameterStatus (codes "sysr.moment") (decimal at))

-- CommandComplete of a statement of this kind, behind so many rows
abbrev pub command_complete : Tag → ℕ → List ℕ
command_complete tag count = server_spelling (servers.CommandComplete (tag_text tag count))

-- what ends the answer to a statement that was carried out: the moment, and its tag
abbrev pub closing : Tag → ℕ → ℕ → List ℕ
closing tag count at = moment_status at ++ command_complete tag count

-- that as many rows were sent as were asked for, and more are left
abbrev pub portal_suspended : List ℕ
portal_suspended = server_spelling servers.PortalSuspended

-- what an error or a notice tells: a text, its code, and the character of the statement, counted from
-- 1, that it is about
abbrev pub notice : Severity → SqlState → List ℕ → Option ℕ → Notice
notice grave state text place =
    record { severity = grave; code = state_text state; message = text; position = place }

-- ErrorResponse
abbrev pub error_message : Severity → SqlState → List ℕ → Option ℕ → List ℕ
error_message grave state text place =
    server_spelling (servers.ErrorResponse (notice grave state text place))

-- that a statement was not carried out, as it lacks something: the line of its reply
abbrev pub lack_message : SqlState → List ℕ → List ℕ
lack_message state line = error_message severities.Error state (unended line) None

-- the line of a reply, as a notice
abbrev pub line_notice : List ℕ → List ℕ
line_notice line = server_spelling
    (servers.NoticeResponse (notice severities.Notice states.SuccessfulCompletion (unended line) None))

-- what is written of a reply without rows; the replies to the checkpointer are no answer to anybody
abbrev pub reply_messages : Tag → Reply → List ℕ
reply_messages tag (replies.Done at) = closing tag 0 at.0
reply_messages tag (replies.Begun number at) =
    line_notice (reply_text (replies.Begun number at)) ++ closing tag 0 at.0
reply_messages tag (replies.Denied at lack) =
    lack_message (lack_state lack) (reply_text (replies.Denied at lack))
reply_messages tag (replies.Refused at lack) =
    lack_message (lack_state lack) (reply_text (replies.Refused at lack))
reply_messages tag reply = []

-- what is written behind the rows of an export whose next record found no memory
abbrev pub cut_error : List ℕ
cut_error =
    error_message severities.Error states.OutOfMemory (codes "export cut: no memory") None

-- what is written of a fault with this code, if it has one, and this line: one without is no error
abbrev pub fault_error : Option SqlState → List ℕ → Option ℕ → List ℕ
fault_error None line place = server_spelling servers.EmptyQueryResponse
fault_error (Some state) line place =
    error_message severities.Error state (unended line) place

-- what is written of a statement that is not read: of one without a token that it is empty
abbrev pub fault_message : Code → ℕ → Option ℕ → List ℕ
fault_message code offset place = fault_error (fault_state code) (fault_text code offset) place

-- what is written of a statement that could not be read: out of memory
abbrev pub unread_message : List ℕ
unread_message =
    error_message severities.Error states.OutOfMemory (unended unread_text) None
