-- The types of messages that clients send, by their first byte.
use Rattle.std.specs.Prelude.{ℕ, Option, Some, None, ◌==◌, if◌then◌else◌}
use Rattle.messages_core.specs.declared.kinds.Kind.{Kind}
use Rattle.messages_core.specs.declared.kinds.Kind.TheVariants as kinds

-- the byte that each type begins with: B C D E H P p Q S X
abbrev pub byte_of : Kind → ℕ
byte_of kinds.Bind = 66
byte_of kinds.Close = 67
byte_of kinds.Describe = 68
byte_of kinds.Execute = 69
byte_of kinds.Flush = 72
byte_of kinds.Parse = 80
byte_of kinds.Password = 112
byte_of kinds.Query = 81
byte_of kinds.Sync = 83
byte_of kinds.Terminate = 88

-- the type that begins with this byte
abbrev pub kind_at : ℕ → Option Kind
kind_at byte =
    if byte == 66 then Some kinds.Bind
    else if byte == 67 then Some kinds.Close
    else if byte == 68 then Some kinds.Describe
    else if byte == 69 then Some kinds.Execute
    else if byte == 72 then Some kinds.Flush
    else if byte == 80 then Some kinds.Parse
    else if byte == 112 then Some kinds.Password
    else if byte == 81 then Some kinds.Query
    else if byte == 83 then Some kinds.Sync
    else if byte == 88 then Some kinds.Terminate
    else None
