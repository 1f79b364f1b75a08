-- The line of a statement's text with the values that a client sends for its places.
use Rattle.std.specs.Prelude.{◌≡◌, ◌<◌, ℕ, List, Option, length}
use Rattle.std.specs.List.{AllZip}
use Rattle.base_core.specs.declared.value.ColType.{ColType}
use Rattle.base_core.specs.declared.value.Value.{Value}
use Rattle.parameters_core.specs.declared.fault.FillFault.{FillFault}
use Rattle.parameters_core.specs.declared.fault.FillFault.TheVariants as fill_faults
use Rattle.parameters_core.specs.Places.{IsGreatestNumber}
use Rattle.parameters_core.specs.Filling.{IsFilled, IsFillFault}
use Rattle.binding_core.specs.declared.fault.BindFault.{BindFault}
use Rattle.binding_core.specs.declared.fault.BindFault.TheVariants as faults
use Rattle.binding_core.specs.Formats.{AreCodesFor}
use Rattle.binding_core.specs.Parameters.{IsBound, IsFirstFault, parameters}

-- there are so many types and values, and codes for as many
pub record AreCounted (number : ℕ) (types : List ColType) (codes : List ℕ)
    (sent : List (Option (List ℕ))) : Type 0 where
  pub types_are : length types ≡ number
  pub values_are : length sent ≡ number
  pub codes_are : AreCodesFor number codes

-- there are as many as the text has places
pub record Suit (text : List ℕ) (types : List ColType) (codes : List ℕ)
    (sent : List (Option (List ℕ))) : Type 0 where
  pub number : ℕ
  pub greatest : IsGreatestNumber text number
  pub counted : AreCounted number types codes sent

-- there are not
pub record DoNotSuit (text : List ℕ) (types : List ColType) (codes : List ℕ)
    (sent : List (Option (List ℕ))) : Type 0 where
  pub number : ℕ
  pub greatest : IsGreatestNumber text number
  pub not_counted : AreCounted number types codes sent → ⊥

-- the line is the text with the values that are sent in its places
pub record Binds (text : List ℕ) (types : List ColType) (codes : List ℕ)
    (sent : List (Option (List ℕ))) (line : List ℕ) : Type 0 where
  pub suits : Suit text types codes sent
  pub values : List Value
  pub bound : AllZip IsBound (parameters types codes sent) values
  pub is_filled : IsFilled text values line

-- why there is no such line, or it is too long: memory was refused, the numbers of places, types,
-- values and codes do not suit, the line has more than 4,096 bytes, or else a value is none
abbrev pub IsBindFault : List ℕ → List ColType → List ℕ → List (Option (List ℕ)) → BindFault
    → Type 0
IsBindFault text types codes sent faults.NoMemory = Unit {0}
IsBindFault text types codes sent faults.WrongCount = DoNotSuit text types codes sent
IsBindFault text types codes sent faults.TooLong =
    (line : List ℕ) × Binds text types codes sent line × (4096 < length line)
IsBindFault text types codes sent fault =
    Suit text types codes sent × IsFirstFault (parameters types codes sent) fault

-- what is told where a text is not filled
abbrev pub fill_fault : FillFault → BindFault
fill_fault fill_faults.NoMemory = faults.NoMemory
fill_fault fill_faults.TooLong = faults.TooLong
fill_fault (fill_faults.NoValue number) = faults.WrongCount

-- the text is not filled with these values, and this is told
abbrev pub IsNotFilled : List ℕ → List Value → BindFault → Type 0
IsNotFilled text values told =
    (fault : FillFault) × IsFillFault text values fault × (told ≡ fill_fault fault)
