-- What clients send first, without a type, and the one body of each message (PostgreSQL's protocol 3.0,
-- "Message Formats").
use Rattle.std.specs.Prelude.{◌≡◌, ◌≢◌, ◌<◌, ℕ, List, [], ◌∷◌, ◌++◌, length}
use Rattle.std.specs.List.{flat_map, AllByRecursion}
use Rattle.messages_core.specs.Fields.{int32, string, sized, HasNoZero, IsNumber32}
use Rattle.messages_core.specs.declared.start.StartMessage.{StartMessage}
use Rattle.messages_core.specs.declared.start.StartMessage.TheVariants as starts

-- the number that says which message it is; that of StartupMessage is the protocol's version, 3 in the
-- upper two bytes and 0 in the lower
abbrev pub start_code : StartMessage → ℕ
start_code starts.SslRequest = 80877103
start_code starts.GssEncRequest = 80877104
start_code (starts.CancelRequest process secret) = 80877102
start_code (starts.Startup parameters) = 196608

-- a parameter: its name and its value
abbrev pub parameter : List ℕ × List ℕ → List ℕ
parameter p = string p.0 ++ string p.1

-- parameters, and the zero byte that ends them
abbrev pub parameters_body : List (List ℕ × List ℕ) → List ℕ
parameters_body ps = flat_map parameter ps ++ 0 ∷ []

-- what follows the number
abbrev pub fields_of : StartMessage → List ℕ
fields_of starts.SslRequest = []
fields_of starts.GssEncRequest = []
fields_of (starts.CancelRequest process secret) = int32 process ++ int32 secret
fields_of (starts.Startup parameters) = parameters_body parameters

-- the body of a message
abbrev pub start_body : StartMessage → List ℕ
start_body start = int32 (start_code start) ++ fields_of start

-- the bytes of a message: a length, and its body
abbrev pub start_spelling : StartMessage → List ℕ
start_spelling start = sized (start_body start)

-- what each parameter has: a name that is not empty, since an empty one ends the parameters
abbrev pub IsParameter : List ℕ × List ℕ → Type 0
IsParameter p = HasNoZero p.0 × (0 < length p.0) × HasNoZero p.1

-- what each message has
abbrev pub IsStart : StartMessage → Type 0
IsStart starts.SslRequest = Unit {0}
IsStart starts.GssEncRequest = Unit {0}
IsStart (starts.CancelRequest process secret) = IsNumber32 process × IsNumber32 secret
IsStart (starts.Startup parameters) = AllByRecursion IsParameter parameters

-- the bytes are these parameters and the zero byte that ends them
abbrev pub SayParameters : List ℕ → List (List ℕ × List ℕ) → Type 0
SayParameters bytes ps = AllByRecursion IsParameter ps × (bytes ≡ parameters_body ps)

-- the bytes are no parameters
abbrev pub AreNoParameters : List ℕ → Type 0
AreNoParameters bytes =
    (ps : List (List ℕ × List ℕ)) → AllByRecursion IsParameter ps → bytes ≢ parameters_body ps
