-- The formats of values and of the columns of a result, by the codes that a client sends.
use Rattle.std.specs.Prelude.{◌≡◌, ◌≢◌, ◌<◌, ◌≤◌, ◌⊎◌, ℕ, Bool, true, false, List, [], ◌∷◌, length, slice_index, slice_index_or}
use Rattle.messages_core.specs.declared.rows.Format.{Format}
use Rattle.messages_core.specs.declared.rows.Format.TheVariants.{Text, Binary}
use Rattle.messages_core.specs.Rows.{format_code}
use Rattle.reader_core.specs.declared.statement.TheConstants.{MAX_ITEMS}

-- codes may be sent for so many values or columns: none, one for all, or one for each
abbrev pub AreCodesFor : ℕ → List ℕ → Type 0
AreCodesFor count codes = (length codes ≤ 1) ⊎ (length codes ≡ count)

-- the code for the value or the column at this index: 0, which is text, where none is sent
abbrev pub code_for : List ℕ → ℕ → ℕ
code_for [] index = 0
code_for (code ∷ []) index = code
code_for (code ∷ next ∷ codes) index = slice_index (code ∷ next ∷ codes) index

-- the code is of no format
abbrev pub IsUnknown : ℕ → Type 0
IsUnknown code = (format : Format) → code ≢ format_code format

-- whether a format is the binary one
abbrev pub is_binary : Format → Bool
is_binary Text = false
is_binary Binary = true

-- these are the formats of the first columns
abbrev pub AreFormats : List ℕ → List Format → Type 0
AreFormats codes formats =
    (k : ℕ) → k < length formats → code_for codes k ≡ format_code (slice_index_or formats k Text)

-- of the codes for the first columns of a result, as many as a table may have, the first that is of
-- no format
pub record IsUnknownFormat (codes : List ℕ) (code : ℕ) : Type 0 where
  pub before : List Format
  pub each : AreFormats codes before
  pub within : length before < MAX_ITEMS
  pub here : code ≡ code_for codes (length before)
  pub unknown : IsUnknown code
