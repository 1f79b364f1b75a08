-- What a text gives in base64 (RFC 4648, section 4) and in decimal, and how it is cut.
use Rattle.std.specs.Prelude.{◌≡◌, ◌≢◌, ◌<◌, ◌^◌, ℕ, Bool, true, not, ◌==◌, List, ◌∷◌, ◌++◌, length, decimal}
use Rattle.std.specs.List.{list_all}
use Rattle.base64.specs.Engines.{standard}
use Rattle.base64.specs.GeneralPurpose.{encode_of, IsBytes}

-- 32 bytes, as a digest of SHA-256 has
abbrev pub IsDigest : List ℕ → Type 0
IsDigest bytes = IsBytes bytes × (length bytes ≡ 32)

-- the text is the base64 of these bytes, and of no others
abbrev pub GivesBytes : List ℕ → List ℕ → Type 0
GivesBytes text bytes = IsBytes bytes × (text ≡ encode_of standard bytes)
    × ((other : List ℕ) → IsBytes other → text ≡ encode_of standard other → other ≡ bytes)

-- the text is the base64 of no bytes
abbrev pub GivesNoBytes : List ℕ → Type 0
GivesNoBytes text = (bytes : List ℕ) → IsBytes bytes → text ≢ encode_of standard bytes

-- the text is the base64 of no digest
abbrev pub GivesNoDigest : List ℕ → Type 0
GivesNoDigest text = (bytes : List ℕ) → IsDigest bytes → text ≢ encode_of standard bytes

-- the text is no positive number below 2 ^ 32, as it is printed
abbrev pub IsNoCount : List ℕ → Type 0
IsNoCount text = (n : ℕ) → 0 < n → n < 2 ^ 32 → text ≢ decimal n

-- the byte is another
abbrev pub is_other : ℕ → ℕ → Bool
is_other byte b = not (b == byte)

-- no byte of the text is this one
abbrev pub LacksByte : ℕ → List ℕ → Type 0
LacksByte byte text = list_all (is_other byte) text ≡ true

-- the text, cut at the first such byte
pub record Splits (byte : ℕ) (text front behind : List ℕ) : Type 0 where
  pub said : text ≡ front ++ byte ∷ behind
  pub free : LacksByte byte front
