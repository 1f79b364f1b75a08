-- What servers send, and the one body of each message (PostgreSQL's protocol 3.0, "Message Formats").
use Rattle.std.specs.Prelude.{◌+◌, ◌<◌, ◌^◌, ℕ, List, [], ◌∷◌, ◌++◌, length, Option, Some, None, option_map, IfSome, codes, decimal}
use Rattle.std.specs.List.{flat_map}
use Rattle.messages_core.specs.Fields.{int32, string, sized, HasNoZero, IsNumber32}
use Rattle.messages_core.specs.declared.server.Status.{Status}
use Rattle.messages_core.specs.declared.server.Status.TheVariants as statuses
use Rattle.messages_core.specs.declared.server.Severity.{Severity}
use Rattle.messages_core.specs.declared.server.Severity.TheVariants as severities
use Rattle.messages_core.specs.declared.server.Notice.{Notice}
use Rattle.messages_core.specs.declared.server.ServerMessage.{ServerMessage}
use Rattle.messages_core.specs.declared.server.ServerMessage.TheVariants as servers

-- I: no transaction is open; T: one is; E: one is, in which a statement has failed
abbrev pub status_byte : Status → ℕ
status_byte statuses.Idle = 73
status_byte statuses.InTransaction = 84
status_byte statuses.InFailedTransaction = 69

abbrev pub severity_text : Severity → List ℕ
severity_text severities.Error = codes "ERROR"
severity_text severities.Fatal = codes "FATAL"
severity_text severities.Notice = codes "NOTICE"

-- a field of a notice: the byte that says which, and its text
abbrev pub notice_field : ℕ × List ℕ → List ℕ
notice_field field = field.0 ∷ string field.1

-- P, the position, where there is one
abbrev pub position_fields : Option (List ℕ) → List (ℕ × List ℕ)
position_fields None = []
position_fields (Some position) = (80, position) ∷ []

-- S and V, the severity, of which V is never translated; C, the code; M, the message
abbrev pub text_fields : List ℕ → List ℕ → List ℕ → Option (List ℕ) → List (ℕ × List ℕ)
text_fields severity code message position =
    (83, severity) ∷ (86, severity) ∷ (67, code) ∷ (77, message) ∷ position_fields position

-- the fields, and the zero byte that ends them
abbrev pub texts_body : List ℕ → List ℕ → List ℕ → Option (List ℕ) → List ℕ
texts_body severity code message position =
    flat_map notice_field (text_fields severity code message position) ++ 0 ∷ []

-- the body of an error or a notice
abbrev pub notice_body : Notice → List ℕ
notice_body n =
    texts_body (severity_text n.severity) n.code n.message (option_map decimal n.position)

-- the byte that each type begins with
abbrev pub server_byte : ServerMessage → ℕ
server_byte servers.AuthenticationOk = 82
server_byte servers.AuthenticationSasl = 82
server_byte (servers.AuthenticationSaslContinue text) = 82
server_byte (servers.AuthenticationSaslFinal text) = 82
server_byte (servers.BackendKeyData process secret) = 75
server_byte servers.BindComplete = 50
server_byte servers.CloseComplete = 51
server_byte (servers.CommandComplete tag) = 67
server_byte servers.EmptyQueryResponse = 73
server_byte (servers.ErrorResponse notice) = 69
server_byte servers.NoData = 110
server_byte (servers.NoticeResponse notice) = 78
server_byte (servers.ParameterStatus name value) = 83
server_byte servers.ParseComplete = 49
server_byte servers.PortalSuspended = 115
server_byte (servers.ReadyForQuery status) = 90

-- The body of a message. Those of a login begin with an Int32 that says which; AuthenticationSASL has a
-- list of mechanisms, which an empty String ends.
abbrev pub server_body : ServerMessage → List ℕ
server_body servers.AuthenticationOk = int32 0
server_body servers.AuthenticationSasl = int32 10 ++ (string (codes "SCRAM-SHA-256") ++ string [])
server_body (servers.AuthenticationSaslContinue text) = int32 11 ++ text
server_body (servers.AuthenticationSaslFinal text) = int32 12 ++ text
server_body (servers.BackendKeyData process secret) = int32 process ++ int32 secret
server_body servers.BindComplete = []
server_body servers.CloseComplete = []
server_body (servers.CommandComplete tag) = string tag
server_body servers.EmptyQueryResponse = []
server_body (servers.ErrorResponse notice) = notice_body notice
server_body servers.NoData = []
server_body (servers.NoticeResponse notice) = notice_body notice
server_body (servers.ParameterStatus name value) = string name ++ string value
server_body servers.ParseComplete = []
server_body servers.PortalSuspended = []
server_body (servers.ReadyForQuery status) = status_byte status ∷ []

-- the bytes of a message: the byte of its type, a length, and its body
abbrev pub server_spelling : ServerMessage → List ℕ
server_spelling message = server_byte message ∷ sized (server_body message)

-- a message by the byte of its type and its body
abbrev pub framed : ℕ × List ℕ → List ℕ
framed frame = frame.0 ∷ sized frame.1

-- a body whose length can be told: an Int32 is at most 2 ^ 31 - 1
abbrev pub FitsLength : List ℕ → Type 0
FitsLength body = 4 + length body < 2 ^ 31

-- the one byte that answers SSLRequest and GSSENCRequest: N, there is no encryption
abbrev pub no_encryption : List ℕ
no_encryption = 78 ∷ []

-- what each error or notice has
pub record IsNotice (n : Notice) : Type 0 where
  pub code : HasNoZero n.code
  pub message : HasNoZero n.message
  pub position : IfSome n.position (λ p. p < 2 ^ 32)

-- what each message has that is read again: no text has a zero byte, and numbers have room in their
-- bytes
abbrev pub IsServerMessage : ServerMessage → Type 0
IsServerMessage servers.AuthenticationOk = Unit {0}
IsServerMessage servers.AuthenticationSasl = Unit {0}
IsServerMessage (servers.AuthenticationSaslContinue text) = Unit {0}
IsServerMessage (servers.AuthenticationSaslFinal text) = Unit {0}
IsServerMessage (servers.BackendKeyData process secret) = IsNumber32 process × IsNumber32 secret
IsServerMessage servers.BindComplete = Unit {0}
IsServerMessage servers.CloseComplete = Unit {0}
IsServerMessage (servers.CommandComplete tag) = HasNoZero tag
IsServerMessage servers.EmptyQueryResponse = Unit {0}
IsServerMessage (servers.ErrorResponse notice) = IsNotice notice
IsServerMessage servers.NoData = Unit {0}
IsServerMessage (servers.NoticeResponse notice) = IsNotice notice
IsServerMessage (servers.ParameterStatus name value) = HasNoZero name × HasNoZero value
IsServerMessage servers.ParseComplete = Unit {0}
IsServerMessage servers.PortalSuspended = Unit {0}
IsServerMessage (servers.ReadyForQuery status) = Unit {0}

-- and its length can be told
abbrev pub IsWholeServerMessage : ServerMessage → Type 0
IsWholeServerMessage message = IsServerMessage message × FitsLength (server_body message)
