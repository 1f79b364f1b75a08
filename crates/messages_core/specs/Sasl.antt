-- The body with which a client begins a login by SASL (PostgreSQL's protocol 3.0, "Message Formats",
-- SASLInitialResponse).
use Rattle.std.specs.Prelude.{◌≡◌, ◌≢◌, List, ◌++◌, ℕ}
use Rattle.messages_core.specs.Fields.{string, value, HasNoZero, IsValue}
use Rattle.messages_core.specs.declared.sasl.InitialResponse.{InitialResponse}

-- the name of the mechanism, and the first message or -1 in place of its length
abbrev pub initial_response : InitialResponse → List ℕ
initial_response i = string i.mechanism ++ value i.response

-- what each has
abbrev pub IsInitialResponse : InitialResponse → Type 0
IsInitialResponse i = HasNoZero i.mechanism × IsValue i.response

-- the body is that one
abbrev pub SaysInitialResponse : List ℕ → InitialResponse → Type 0
SaysInitialResponse body i = IsInitialResponse i × (body ≡ initial_response i)

-- the body is of no such one
abbrev pub IsNoInitialResponse : List ℕ → Type 0
IsNoInitialResponse body =
    (i : InitialResponse) → IsInitialResponse i → body ≢ initial_response i
