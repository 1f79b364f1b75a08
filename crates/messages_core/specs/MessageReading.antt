-- What stands first in bytes that a client sent, as far as they have come.
use Rattle.std.specs.Prelude.{◌≡◌, ◌≢◌, ◌≤◌, ℕ, List, [], ◌∷◌, ◌++◌, length}
use Rattle.messages_core.specs.Fields.{sized}
use Rattle.messages_core.specs.Frames.{IsBodyWithin, WantsMore, HasWrongLength}
use Rattle.messages_core.specs.Kinds.{byte_of}
use Rattle.messages_core.specs.Client.{body_of, spelling, IsMessage}
use Rattle.messages_core.specs.declared.kinds.Kind.{Kind}
use Rattle.messages_core.specs.declared.client.ClientMessage.{ClientMessage}
use Rattle.messages_core.specs.declared.client.MessageFault.{MessageFault}
use Rattle.messages_core.specs.declared.client.MessageFault.TheVariants as faults
use Rattle.messages_core.specs.declared.reading.Reading.{Reading}
use Rattle.messages_core.specs.declared.reading.Reading.TheVariants as readings

-- the message has a body of at most so many bytes
abbrev pub IsMessageWithin : ℕ → ClientMessage → Type 0
IsMessageWithin most message = IsMessage message × (length (body_of message) ≤ most)

-- The bytes are a message and a rest.
pub record HasMessage (most : ℕ) (bytes : List ℕ) (message : ClientMessage) (rest : List ℕ)
    : Type 0 where
  pub said : bytes ≡ spelling message ++ rest
  pub is : IsMessageWithin most message

-- Nothing has come, or the byte of a type behind which more has to come.
pub data IsPartOfMessage (most : ℕ) : List ℕ → Type 0 where
  nothing : IsPartOfMessage most []
  typed : {behind : List ℕ} (kind : Kind) → WantsMore 0 most behind
      → IsPartOfMessage most (byte_of kind ∷ behind)

-- the first byte is that of no type
pub record HasNoType (bytes : List ℕ) (byte : ℕ) : Type 0 where
  pub rest : List ℕ
  pub said : bytes ≡ byte ∷ rest
  pub none : (kind : Kind) → byte ≢ byte_of kind

-- the length is that of no body of at most so many bytes
pub record HasWrongMessageLength (most : ℕ) (bytes : List ℕ) : Type 0 where
  pub kind : Kind
  pub behind : List ℕ
  pub said : bytes ≡ byte_of kind ∷ behind
  pub wrong : HasWrongLength 0 most behind

-- the body is that of no message of its type
pub record HasWrongBody (most : ℕ) (bytes : List ℕ) : Type 0 where
  pub kind : Kind
  pub body : List ℕ
  pub rest : List ℕ
  pub said : bytes ≡ byte_of kind ∷ (sized body ++ rest)
  pub within : IsBodyWithin 0 most body
  pub none : (message : ClientMessage) → IsMessage message
      → spelling message ≢ byte_of kind ∷ sized body

-- what is wrong with the bytes, where a body has at most so many
abbrev pub IsMessageFault : ℕ → List ℕ → MessageFault → Type 0
IsMessageFault most bytes (faults.Type byte) = HasNoType bytes byte
IsMessageFault most bytes faults.Length = HasWrongMessageLength most bytes
IsMessageFault most bytes faults.Body = HasWrongBody most bytes

-- What stands first in the bytes, where a body has at most so many: a whole message and a rest, a part
-- of one, or something else.
abbrev pub IsMessageReading : ℕ → List ℕ → Reading ClientMessage MessageFault → Type 0
IsMessageReading most bytes (readings.Whole message rest) = HasMessage most bytes message rest
IsMessageReading most bytes readings.Part = IsPartOfMessage most bytes
IsMessageReading most bytes (readings.Faulty fault) = IsMessageFault most bytes fault
