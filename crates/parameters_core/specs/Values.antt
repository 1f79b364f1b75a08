-- Values as a client sends them: in a text format, or in a binary one.
use Rattle.std.specs.Prelude.{◌≡◌, ◌≢◌, ◌<◌, ◌⊎◌, ℕ, ℤ, Bool, true, false, List, length}
use Rattle.std.specs.Int.{w16, w32, w64, cast_signed, from_be_bytes}
use Rattle.std.specs.Str.{encode_utf8_all}
use Rattle.base_core.specs.Texts.{ArePlain, IsText}
use Rattle.base_core.specs.declared.value.ColType.{ColType}
use Rattle.base_core.specs.declared.value.ColType.TheVariants as types
use Rattle.base_core.specs.declared.value.Value.{Value}
use Rattle.base_core.specs.declared.value.Value.TheVariants as values
use Rattle.lexer_core.specs.Lexing.{IsNumber}
use Rattle.parameters_core.specs.declared.fault.ValueFault.{ValueFault}
use Rattle.parameters_core.specs.declared.fault.ValueFault.TheVariants as faults

-- the bytes are 2, 4 or 8, of the number in two's complement, the highest first
abbrev pub IsBinaryNumber : ℤ → List ℕ → Type 0
IsBinaryNumber z bytes =
    ((length bytes ≡ 2) × (z ≡ cast_signed w16 (from_be_bytes w16 bytes)))
    ⊎ (((length bytes ≡ 4) × (z ≡ cast_signed w32 (from_be_bytes w32 bytes)))
    ⊎ ((length bytes ≡ 8) × (z ≡ cast_signed w64 (from_be_bytes w64 bytes))))

-- the bytes are the value, for a column of this type, and whether they are in the binary format
abbrev pub AreValue : ColType → Bool → List ℕ → Value → Type 0
AreValue types.Integer false bytes (values.Int z) = IsNumber z bytes
AreValue types.Integer true bytes (values.Int z) = IsBinaryNumber z bytes
AreValue types.Text is_binary bytes (values.Text t) = (t ≡ bytes) × IsText bytes
AreValue _ is_binary bytes _ = ⊥

-- the bytes are characters in UTF-8, none of them a control character
abbrev pub IsPlainText : List ℕ → Type 0
IsPlainText bytes = (chars : List ℕ) × ArePlain chars × (bytes ≡ encode_utf8_all chars)

-- why they are no value
abbrev pub IsValueFault : ColType → Bool → List ℕ → ValueFault → Type 0
IsValueFault ty is_binary bytes faults.NoMemory = Unit {0}
IsValueFault types.Integer false bytes faults.BadNumber = (z : ℤ) → IsNumber z bytes → ⊥
IsValueFault types.Integer true bytes faults.BadLength =
    (length bytes ≢ 2) × (length bytes ≢ 4) × (length bytes ≢ 8)
IsValueFault types.Text is_binary bytes faults.BadText = IsPlainText bytes → ⊥
IsValueFault types.Text is_binary bytes faults.TooLong =
    IsPlainText bytes × (1024 < length bytes)
IsValueFault _ is_binary bytes _ = ⊥
