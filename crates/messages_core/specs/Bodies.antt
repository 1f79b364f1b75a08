-- Messages of clients read from whole bodies. None: the body is of no such message.
use Rattle.std.specs.Prelude.{ℕ, List, [], ◌∷◌, length, Option, Some, None, option_map, ◌==◌, if◌then◌else◌}
use Rattle.std.specs.Int.{w16, w32}
use Rattle.messages_core.specs.Reading.{FieldReader, number_at, text_at, value_or_null_at, both_at, counted_at, whole}
use Rattle.messages_core.specs.declared.kinds.Kind.{Kind}
use Rattle.messages_core.specs.declared.kinds.Kind.TheVariants as kinds
use Rattle.messages_core.specs.declared.client.Target.{Target}
use Rattle.messages_core.specs.declared.client.Target.TheVariants as targets
use Rattle.messages_core.specs.declared.client.Parse.{Parse}
use Rattle.messages_core.specs.declared.client.Bind.{Bind}
use Rattle.messages_core.specs.declared.sasl.InitialResponse.{InitialResponse}
use Rattle.messages_core.specs.declared.client.ClientMessage.{ClientMessage}
use Rattle.messages_core.specs.declared.client.ClientMessage.TheVariants as clients

abbrev pub target_at : FieldReader Target
target_at [] = None
target_at (byte ∷ rest) =
    if byte == 83 then Some (targets.Statement, rest)
    else if byte == 80 then Some (targets.Portal, rest)
    else None

abbrev pub int16s_at : FieldReader (List ℕ)
int16s_at = counted_at (number_at w16)

abbrev pub int32s_at : FieldReader (List ℕ)
int32s_at = counted_at (number_at w32)

abbrev pub values_at : FieldReader (List (Option (List ℕ)))
values_at = counted_at value_or_null_at

unfoldable pub bind_in : List ℕ → Option Bind
bind_in body =
    option_map (λ x. record {
      portal = x.0;
      statement = x.1.0;
      formats = x.1.1.0;
      values = x.1.1.1.0;
      result_formats = x.1.1.1.1;
    }) (whole (both_at text_at (both_at text_at (both_at int16s_at (both_at values_at int16s_at))) body))

unfoldable pub parse_in : List ℕ → Option Parse
parse_in body = option_map (λ x. record { name = x.0; text = x.1.0; types = x.1.1 })
    (whole (both_at text_at (both_at text_at int32s_at) body))

unfoldable pub named_in : List ℕ → Option (Target × List ℕ)
named_in body = whole (both_at target_at text_at body)

unfoldable pub execute_in : List ℕ → Option (List ℕ × ℕ)
execute_in body = whole (both_at text_at (number_at w32) body)

unfoldable pub query_in : List ℕ → Option (List ℕ)
query_in body = whole (text_at body)

abbrev pub if_empty : ClientMessage → List ℕ → Option ClientMessage
if_empty message body = if length body == 0 then Some message else None

-- a message of this type with this body
abbrev pub message_in : Kind → List ℕ → Option ClientMessage
message_in kinds.Bind body = option_map (λ b. clients.Bind b) (bind_in body)
message_in kinds.Close body = option_map (λ x. clients.Close x.0 x.1) (named_in body)
message_in kinds.Describe body = option_map (λ x. clients.Describe x.0 x.1) (named_in body)
message_in kinds.Execute body = option_map (λ x. clients.Execute x.0 x.1) (execute_in body)
message_in kinds.Flush body = if_empty clients.Flush body
message_in kinds.Parse body = option_map (λ p. clients.Parse p) (parse_in body)
message_in kinds.Password body = Some (clients.Password body)
message_in kinds.Query body = option_map (λ t. clients.Query t) (query_in body)
message_in kinds.Sync body = if_empty clients.Sync body
message_in kinds.Terminate body = if_empty clients.Terminate body

unfoldable pub initial_response_in : List ℕ → Option InitialResponse
initial_response_in body = option_map (λ x. record { mechanism = x.0; response = x.1 })
    (whole (both_at text_at value_or_null_at body))

-- the fields of CancelRequest
unfoldable pub cancel_in : List ℕ → Option (ℕ × ℕ)
cancel_in fields = whole (both_at (number_at w32) (number_at w32) fields)
