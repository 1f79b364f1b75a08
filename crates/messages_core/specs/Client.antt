-- What clients send, and the one body of each message (PostgreSQL's protocol 3.0, "Message Formats").
use Rattle.std.specs.Prelude.{ℕ, List, [], ◌∷◌, ◌++◌}
use Rattle.messages_core.specs.Fields.{int16, int32, string, value, counted_items, HasNoZero, IsValue, IsCounted, IsNumber16, IsNumber32}
use Rattle.messages_core.specs.Kinds.{byte_of}
use Rattle.messages_core.specs.Fields.{sized}
use Rattle.messages_core.specs.declared.kinds.Kind.{Kind}
use Rattle.messages_core.specs.declared.kinds.Kind.TheVariants as kinds
use Rattle.messages_core.specs.declared.client.Target.{Target}
use Rattle.messages_core.specs.declared.client.Target.TheVariants as targets
use Rattle.messages_core.specs.declared.client.Parse.{Parse}
use Rattle.messages_core.specs.declared.client.Bind.{Bind}
use Rattle.messages_core.specs.declared.client.ClientMessage.{ClientMessage}
use Rattle.messages_core.specs.declared.client.ClientMessage.TheVariants as clients

-- the type of a message
abbrev pub message_kind : ClientMessage → Kind
message_kind (clients.Bind bind) = kinds.Bind
message_kind (clients.Close target name) = kinds.Close
message_kind (clients.Describe target name) = kinds.Describe
message_kind (clients.Execute portal most) = kinds.Execute
message_kind clients.Flush = kinds.Flush
message_kind (clients.Parse parse) = kinds.Parse
message_kind (clients.Password text) = kinds.Password
message_kind (clients.Query text) = kinds.Query
message_kind clients.Sync = kinds.Sync
message_kind clients.Terminate = kinds.Terminate

-- S for a prepared statement, P for a portal
abbrev pub target_byte : Target → ℕ
target_byte targets.Statement = 83
target_byte targets.Portal = 80

-- Bind: the portal, the statement, the formats of the values, the values, and the formats of the
-- columns of the result
abbrev pub bind_body : Bind → List ℕ
bind_body b = string b.portal ++ (string b.statement ++ (counted_items int16 b.formats
    ++ (counted_items value b.values ++ counted_items int16 b.result_formats)))

-- Parse: the name of the statement, its text, and types of parameters
abbrev pub parse_body : Parse → List ℕ
parse_body p = string p.name ++ (string p.text ++ counted_items int32 p.types)

-- the body of a message
abbrev pub body_of : ClientMessage → List ℕ
body_of (clients.Bind bind) = bind_body bind
body_of (clients.Close target name) = target_byte target ∷ string name
body_of (clients.Describe target name) = target_byte target ∷ string name
body_of (clients.Execute portal most) = string portal ++ int32 most
body_of clients.Flush = []
body_of (clients.Parse parse) = parse_body parse
body_of (clients.Password text) = text
body_of (clients.Query text) = string text
body_of clients.Sync = []
body_of clients.Terminate = []

-- the bytes of a message: the byte of its type, a length, and its body
abbrev pub spelling : ClientMessage → List ℕ
spelling message = byte_of (message_kind message) ∷ sized (body_of message)

-- what each Bind has: texts, and lists that can be counted
pub record IsBind (b : Bind) : Type 0 where
  pub portal : HasNoZero b.portal
  pub statement : HasNoZero b.statement
  pub formats : IsCounted IsNumber16 b.formats
  pub values : IsCounted IsValue b.values
  pub result_formats : IsCounted IsNumber16 b.result_formats

-- what each Parse has
pub record IsParse (p : Parse) : Type 0 where
  pub name : HasNoZero p.name
  pub text : HasNoZero p.text
  pub types : IsCounted IsNumber32 p.types

-- what each message has: no text has a zero byte, and numbers and counts have room in their bytes
abbrev pub IsMessage : ClientMessage → Type 0
IsMessage (clients.Bind bind) = IsBind bind
IsMessage (clients.Close target name) = HasNoZero name
IsMessage (clients.Describe target name) = HasNoZero name
IsMessage (clients.Execute portal most) = HasNoZero portal × IsNumber32 most
IsMessage clients.Flush = Unit {0}
IsMessage (clients.Parse parse) = IsParse parse
IsMessage (clients.Password text) = Unit {0}
IsMessage (clients.Query text) = HasNoZero text
IsMessage clients.Sync = Unit {0}
IsMessage clients.Terminate = Unit {0}
