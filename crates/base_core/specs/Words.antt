-- Words, keywords and names.
use Rattle.std.specs.Prelude.{◌≡◌, ℕ, Bool, true, ◌&&◌, ◌||◌, not, ◌==◌, nat_le, List, [], ◌∷◌, length, map, codes, slice_index, Option, Some, None, is_some, if◌then◌else◌}
use Rattle.std.specs.List.{find, list_all}
use Rattle.std.specs.Str.{bytes_eq}
use Rattle.std.specs.Char.{to_ascii_lowercase, is_ascii_alphabetic, is_ascii_alphanumeric}
use Rattle.base_core.specs.declared.keyword.Keyword.{Keyword}
use Rattle.base_core.specs.declared.keyword.Keyword.TheVariants as keywords

-- a keyword in capitals
abbrev pub text_of : Keyword → List ℕ
text_of keywords.And = codes "AND"
text_of keywords.Checkpoint = codes "CHECKPOINT"
text_of keywords.Checkpoints = codes "CHECKPOINTS"
text_of keywords.Create = codes "CREATE"
text_of keywords.Delete = codes "DELETE"
text_of keywords.Export = codes "EXPORT"
text_of keywords.For = codes "FOR"
text_of keywords.From = codes "FROM"
text_of keywords.Grant = codes "GRANT"
text_of keywords.Insert = codes "INSERT"
text_of keywords.Integer = codes "INTEGER"
text_of keywords.Into = codes "INTO"
text_of keywords.On = codes "ON"
text_of keywords.Only = codes "ONLY"
text_of keywords.Option = codes "OPTION"
text_of keywords.Revoke = codes "REVOKE"
text_of keywords.Select = codes "SELECT"
text_of keywords.Set = codes "SET"
text_of keywords.Table = codes "TABLE"
text_of keywords.Text = codes "TEXT"
text_of keywords.To = codes "TO"
text_of keywords.Update = codes "UPDATE"
text_of keywords.Values = codes "VALUES"
text_of keywords.Where = codes "WHERE"
text_of keywords.With = codes "WITH"

-- a word with its letters small
abbrev pub folded : List ℕ → List ℕ
folded word = map to_ascii_lowercase word

-- whether a word spells the keyword, in any case
abbrev pub is_spelled_by : List ℕ → Keyword → Bool
is_spelled_by word k = bytes_eq (folded (text_of k)) (folded word)

-- whether a keyword begins with this small letter and has so many letters
abbrev pub is_alike : ℕ → ℕ → Keyword → Bool
is_alike letter len k =
    (slice_index (folded (text_of k)) 0 == letter) && (length (text_of k) == len)

-- the keywords, in the order of the alphabet
unfoldable pub all_keywords : List Keyword
all_keywords =
    keywords.And ∷ keywords.Checkpoint ∷ keywords.Checkpoints ∷ keywords.Create ∷ keywords.Delete
    ∷ keywords.Export ∷ keywords.For ∷ keywords.From ∷ keywords.Grant ∷ keywords.Insert
    ∷ keywords.Integer ∷ keywords.Into ∷ keywords.On ∷ keywords.Only ∷ keywords.Option
    ∷ keywords.Revoke ∷ keywords.Select ∷ keywords.Set ∷ keywords.Table ∷ keywords.Text
    ∷ keywords.To ∷ keywords.Update ∷ keywords.Values ∷ keywords.Where ∷ keywords.With ∷ []

-- the keyword that a word spells, in any case
unfoldable pub keyword_of : List ℕ → Option Keyword
keyword_of word = find (is_spelled_by word) all_keywords

-- a letter, a digit or `_`
abbrev pub is_word_byte : ℕ → Bool
is_word_byte b = is_ascii_alphanumeric b || (b == 95)

-- a letter, and then letters, digits or `_`
abbrev pub is_word : List ℕ → Bool
is_word word = is_ascii_alphabetic (slice_index word 0) && list_all is_word_byte word

-- a word of at most 30 bytes that is no keyword
abbrev pub is_name : List ℕ → Bool
is_name word = is_word word && nat_le (length word) 30 && not (is_some (keyword_of word))

-- the name that a word spells, in small letters
abbrev pub name_of : List ℕ → Option (List ℕ)
name_of word = if is_name word then Some (folded word) else None

-- the bytes of a name: they spell it, and their letters are small
pub record IsName (bytes : List ℕ) : Type 0 where
  pub named : is_name bytes ≡ true
  pub small : folded bytes ≡ bytes

-- whether two names are the same
abbrev pub same_name : List ℕ → List ℕ → Bool
same_name = bytes_eq
