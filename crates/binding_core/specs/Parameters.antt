-- What a client sends for the places of a statement.
use Rattle.std.specs.Prelude.{◌≡◌, ◌≢◌, ◌+◌, ℕ, List, [], ◌∷◌, ◌++◌, Option, Some, None, length}
use Rattle.std.specs.List.{AllZip}
use Rattle.base_core.specs.declared.value.ColType.{ColType}
use Rattle.base_core.specs.declared.value.Value.{Value}
use Rattle.messages_core.specs.declared.rows.Format.{Format}
use Rattle.messages_core.specs.Rows.{format_code}
use Rattle.parameters_core.specs.declared.fault.ValueFault.{ValueFault}
use Rattle.parameters_core.specs.declared.fault.ValueFault.TheVariants as value_faults
use Rattle.parameters_core.specs.Values.{AreValue, IsValueFault}
use Rattle.binding_core.specs.declared.fault.BindFault.{BindFault}
use Rattle.binding_core.specs.declared.fault.BindFault.TheVariants as faults
use Rattle.binding_core.specs.Formats.{code_for, is_binary, IsUnknown}

-- the type of a place, the code of the format in which its value is sent, and the value's bytes, or
-- that it is NULL
pub record Parameter : Type 0 where
  pub ty : ColType
  pub code : ℕ
  pub sent : Option (List ℕ)

-- these three
abbrev pub sent_parameter : ColType → ℕ → Option (List ℕ) → Parameter
sent_parameter ty code sent = record { ty = ty; code = code; sent = sent }

-- the parameters from the place at this index on
abbrev pub parameters_from : ℕ → List ColType → List ℕ → List (Option (List ℕ)) → List Parameter
parameters_from k [] codes sent = []
parameters_from k (ty ∷ types) codes [] = []
parameters_from k (ty ∷ types) codes (bytes ∷ sent) =
    sent_parameter ty (code_for codes k) bytes ∷ parameters_from (k + 1) types codes sent

-- the parameters of a statement, by the types of its places and by what is sent
abbrev pub parameters : List ColType → List ℕ → List (Option (List ℕ)) → List Parameter
parameters types codes sent = parameters_from 0 types codes sent

-- the value is the one that is sent
pub record IsBound (p : Parameter) (value : Value) : Type 0 where
  pub bytes : List ℕ
  pub format : Format
  pub sent : p.sent ≡ Some bytes
  pub known : p.code ≡ format_code format
  pub read : AreValue p.ty (is_binary format) bytes value

-- the bytes that are sent are no value
pub record IsNoValue (p : Parameter) (fault : ValueFault) : Type 0 where
  pub bytes : List ℕ
  pub format : Format
  pub sent : p.sent ≡ Some bytes
  pub known : p.code ≡ format_code format
  pub faulty : IsValueFault p.ty (is_binary format) bytes fault
  pub other : fault ≢ value_faults.NoMemory

-- bytes are sent, and the code of their format is of none
pub record HasUnknownFormat (p : Parameter) : Type 0 where
  pub bytes : List ℕ
  pub sent : p.sent ≡ Some bytes
  pub unknown : IsUnknown p.code

-- why no value is sent for the place of this number
abbrev pub IsParameterFault : ℕ → Parameter → BindFault → Type 0
IsParameterFault number p faults.NoMemory = Unit {0}
IsParameterFault number p faults.WrongCount = ⊥
IsParameterFault number p (faults.NullValue n) = (n ≡ number) × (p.sent ≡ None)
IsParameterFault number p (faults.UnknownFormat code) = (code ≡ p.code) × HasUnknownFormat p
IsParameterFault number p (faults.BadValue n fault) = (n ≡ number) × IsNoValue p fault
IsParameterFault number p faults.TooLong = ⊥

-- what is told of bytes that are no value
abbrev pub value_fault : ℕ → ValueFault → BindFault
value_fault number value_faults.NoMemory = faults.NoMemory
value_fault number fault = faults.BadValue number fault

-- the first of the parameters that has no value
pub record IsFirstFault (ps : List Parameter) (fault : BindFault) : Type 0 where
  pub before : List Parameter
  pub values : List Value
  pub here : Parameter
  pub behind : List Parameter
  pub split : ps ≡ before ++ here ∷ behind
  pub bound : AllZip IsBound before values
  pub faulty : IsParameterFault (length before + 1) here fault
