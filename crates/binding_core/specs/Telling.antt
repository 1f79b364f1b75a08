-- The types of places that a client tells, by their numbers in PostgreSQL's catalogue of types.
use Rattle.std.specs.Prelude.{◌≡◌, ◌<◌, ◌≤◌, ℕ, Bool, List, Option, Some, None, ◌==◌, ◌||◌, length, slice_index, slice_index_or, if◌then◌else◌}
use Rattle.base_core.specs.declared.value.ColType.{ColType}
use Rattle.base_core.specs.declared.value.ColType.TheVariants.{Integer, Text}
use Rattle.messages_core.specs.Rows.{type_number}
use Rattle.binding_core.specs.declared.fault.TypeFault.{TypeFault}
use Rattle.binding_core.specs.declared.fault.TypeFault.TheVariants as faults

-- int8, int2 or int4
abbrev pub is_integer : ℕ → Bool
is_integer oid = (oid == 20) || (oid == 21) || (oid == 23)

-- text, unknown or varchar
abbrev pub is_text : ℕ → Bool
is_text oid = (oid == 25) || (oid == 705) || (oid == 1043)

-- the type of a place for which this number was told: 0 leaves it as it is guessed
abbrev pub told_type : ℕ → ColType → Option ColType
told_type oid guess =
    if oid == 0 then Some guess
    else (if is_integer oid then Some Integer
    else (if is_text oid then Some Text else None))

-- the type of the place at this index: 0 is told of those behind the last
abbrev pub type_told : List ℕ → List ColType → ℕ → Option ColType
type_told told guessed k = told_type (slice_index told k) (slice_index_or guessed k Text)

-- these are the types of the first places
abbrev pub AreTold : List ℕ → List ColType → List ColType → Type 0
AreTold told guessed wanted =
    (k : ℕ) → k < length wanted → type_told told guessed k ≡ Some (slice_index_or wanted k Text)

-- these are the types of all places, and no more are told
pub record AreWanted (told : List ℕ) (guessed wanted : List ColType) : Type 0 where
  pub all : length wanted ≡ length guessed
  pub each : AreTold told guessed wanted
  pub no_more : length told ≤ length guessed

-- the number of a place of this type in PostgreSQL's catalogue: as it was told, but for 0 and "unknown"
abbrev pub told_number : ℕ → ColType → ℕ
told_number oid ty = if (oid == 0) || (oid == 705) then type_number ty else oid

-- these are the numbers of the first places
abbrev pub AreNumbered : List ℕ → List ColType → List ℕ → Type 0
AreNumbered told types numbers = (k : ℕ) → k < length numbers
    → slice_index numbers k ≡ told_number (slice_index told k) (slice_index_or types k Text)

-- these are the numbers of all places
pub record AreNumbers (told : List ℕ) (types : List ColType) (numbers : List ℕ) : Type 0 where
  pub all : length numbers ≡ length types
  pub each : AreNumbered told types numbers

-- the first number that is of no type
pub record IsUnknownType (told : List ℕ) (guessed : List ColType) (oid : ℕ) : Type 0 where
  pub before : List ColType
  pub each : AreTold told guessed before
  pub within : length before < length guessed
  pub here : oid ≡ slice_index told (length before)
  pub unknown : type_told told guessed (length before) ≡ None

-- each place has its type, and there are more types than places
pub record AreTooMany (told : List ℕ) (guessed : List ColType) : Type 0 where
  pub wanted : List ColType
  pub all : length wanted ≡ length guessed
  pub each : AreTold told guessed wanted
  pub more : length guessed < length told

-- why the types that were told are not those of the places
abbrev pub IsTypeFault : List ℕ → List ColType → TypeFault → Type 0
IsTypeFault told guessed faults.NoMemory = Unit {0}
IsTypeFault told guessed faults.WrongCount = AreTooMany told guessed
IsTypeFault told guessed (faults.UnknownType oid) = IsUnknownType told guessed oid
