-- What a client's first bytes are, as far as they have come.
use Rattle.std.specs.Prelude.{◌≡◌, ◌≢◌, ℕ, List, ◌++◌}
use Rattle.messages_core.specs.Fields.{int32, IsNumber32}
use Rattle.messages_core.specs.Frames.{HasBody, WantsMore, HasWrongLength}
use Rattle.messages_core.specs.Start.{start_code, fields_of, start_body, IsStart}
use Rattle.messages_core.specs.declared.start.StartMessage.{StartMessage}
use Rattle.messages_core.specs.declared.start.StartFault.{StartFault}
use Rattle.messages_core.specs.declared.start.StartFault.TheVariants as faults
use Rattle.messages_core.specs.declared.reading.Reading.{Reading}
use Rattle.messages_core.specs.declared.reading.Reading.TheVariants as readings

-- the number is that of no message
abbrev pub IsNoCode : ℕ → Type 0
IsNoCode code = (start : StartMessage) → code ≢ start_code start

-- the number is that of a message, of which these are not the fields
pub record HasWrongFields (code : ℕ) (fields : List ℕ) : Type 0 where
  pub start : StartMessage
  pub code_is : code ≡ start_code start
  pub none : (start : StartMessage) → IsStart start → code ≡ start_code start → fields ≢ fields_of start

-- what is wrong with a number and the fields behind it
abbrev pub AreWrong : ℕ → List ℕ → StartFault → Type 0
AreWrong code fields faults.Length = ⊥
AreWrong code fields (faults.Code told) = (told ≡ code) × IsNoCode code
AreWrong code fields faults.Body = HasWrongFields code fields

-- what is wrong with a body
pub record IsWrongStart (body : List ℕ) (fault : StartFault) : Type 0 where
  pub code : ℕ
  pub fields : List ℕ
  pub said : body ≡ int32 code ++ fields
  pub number : IsNumber32 code
  pub wrong : AreWrong code fields fault

-- a whole body is wrong
pub record HasWrongStart (most : ℕ) (bytes : List ℕ) (fault : StartFault) : Type 0 where
  pub body : List ℕ
  pub rest : List ℕ
  pub whole : HasBody 4 most bytes body rest
  pub wrong : IsWrongStart body fault

-- what is wrong with the bytes, where a body has at most so many
abbrev pub IsStartFault : ℕ → List ℕ → StartFault → Type 0
IsStartFault most bytes faults.Length = HasWrongLength 4 most bytes
IsStartFault most bytes (faults.Code told) = HasWrongStart most bytes (faults.Code told)
IsStartFault most bytes faults.Body = HasWrongStart most bytes faults.Body

-- What stands first in the bytes, where a body has at most so many: a whole message and a rest, a part
-- of one, or something else.
abbrev pub IsStartReading : ℕ → List ℕ → Reading StartMessage StartFault → Type 0
IsStartReading most bytes (readings.Whole start rest) =
    IsStart start × HasBody 4 most bytes (start_body start) rest
IsStartReading most bytes readings.Part = WantsMore 4 most bytes
IsStartReading most bytes (readings.Faulty fault) = IsStartFault most bytes fault
