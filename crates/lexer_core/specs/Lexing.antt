-- What spells a token, how a line is cut into tokens, and which fault stands where.
use Rattle.std.specs.Prelude.{◌≡◌, ◌≢◌, ◌<◌, ◌≤◌, ℕ, ℤ, ◌+◌, ◌-◌, Bool, true, false, ◌&&◌, ◌||◌, ◌==◌, List, [], ◌∷◌, ◌++◌, length, take, drop, slice_index, codes, Some, if◌then◌else◌}
use Rattle.std.specs.List.{list_any, prefix_len}
use Rattle.std.specs.Char.{is_ascii_alphabetic, is_ascii_digit}
use Rattle.std.specs.Str.{encode_utf8_all}
use Rattle.std.specs.Str.Parse.{IsNumeral, without_leading_sign, signed_digits_value}
use mir.Syntax.{w64}
use mir.Val.{SFits as FitsSigned}
use Rattle.base_core.specs.Words.{is_word_byte, is_word, keyword_of, name_of, IsName}
use Rattle.base_core.specs.Texts.{IsText}
use Rattle.base_core.specs.declared.keyword.Keyword.{Keyword}
use Rattle.lexer_core.specs.Text.{BeginsText, BeginsWithNoPlain, written_all}
use Rattle.lexer_core.specs.declared.fault.Code.{Code}
use Rattle.lexer_core.specs.declared.fault.Code.TheVariants as codes_of
use Rattle.lexer_core.specs.declared.fault.ReadFault.{ReadFault}
use Rattle.lexer_core.specs.declared.fault.ReadFault.TheVariants as read_faults
use Rattle.lexer_core.specs.declared.token.TokenKind.{TokenKind}
use Rattle.lexer_core.specs.declared.token.TokenKind.TheVariants as kinds
use Rattle.lexer_core.specs.declared.token.Mark.{Mark}
use Rattle.lexer_core.specs.declared.token.Mark.TheVariants as marks
use Rattle.lexer_core.specs.declared.token.Token as tokens

-- what a token says
pub data Lexeme : Type 0 where
  Key : Keyword → Lexeme
  Named : List ℕ → Lexeme
  Number : ℤ → Lexeme
  Text : List ℕ → Lexeme
  Sign : Mark → Lexeme

-- which kind of token says it
abbrev pub kind_of : Lexeme → TokenKind
kind_of (Key k) = kinds.Keyword k
kind_of (Named n) = kinds.Name n
kind_of (Number z) = kinds.Number z
kind_of (Text t) = kinds.Text
kind_of (Sign m) = kinds.Mark m

-- a name, a number or a text that its type allows
abbrev pub IsProper : Lexeme → Type 0
IsProper (Key k) = Unit {0}
IsProper (Named n) = IsName n
IsProper (Number z) = FitsSigned w64 z
IsProper (Text t) = IsText t
IsProper (Sign m) = Unit {0}

-- how a line writes a mark
abbrev pub mark_text : Mark → List ℕ
mark_text marks.Open = codes "("
mark_text marks.Close = codes ")"
mark_text marks.Comma = codes ","
mark_text marks.Star = codes "*"
mark_text marks.Semicolon = codes ";"
mark_text marks.Equal = codes "="
mark_text marks.NotEqual = codes "<>"
mark_text marks.Less = codes "<"
mark_text marks.LessEqual = codes "<="
mark_text marks.Greater = codes ">"
mark_text marks.GreaterEqual = codes ">="

-- an optional `-` and digits, whose value is z, an i64
pub record IsNumber (z : ℤ) (bytes : List ℕ) : Type 0 where
  pub unsigned : slice_index bytes 0 ≢ 43
  pub digits : IsNumeral 10 (without_leading_sign bytes)
  pub value : z ≡ signed_digits_value 10 bytes
  pub fits : FitsSigned w64 z

-- the number that the bytes spell is no i64
abbrev pub IsTooGreat : List ℕ → Type 0
IsTooGreat bytes = FitsSigned w64 (signed_digits_value 10 bytes) → ⊥

-- the bytes are a text in quotes, whose characters are t in UTF-8
pub record QuotesText (t : List ℕ) (bytes : List ℕ) : Type 0 where
  pub chars : List ℕ
  pub quoted : BeginsText bytes chars (39 ∷ [])
  pub value : t ≡ encode_utf8_all chars
  pub short : length t ≤ 1024

-- the bytes are a text in quotes
abbrev pub IsSomeText : List ℕ → Type 0
IsSomeText bytes = (t : List ℕ) × QuotesText t bytes

-- these bytes spell the token
abbrev pub SpellsLexeme : Lexeme → List ℕ → Type 0
SpellsLexeme (Key k) bytes = (is_word bytes ≡ true) × (keyword_of bytes ≡ Some k)
SpellsLexeme (Named n) bytes = (is_word bytes ≡ true) × (name_of bytes ≡ Some n)
SpellsLexeme (Number z) bytes = IsNumber z bytes
SpellsLexeme (Text t) bytes = QuotesText t bytes
SpellsLexeme (Sign m) bytes = bytes ≡ mark_text m

-- whether a token goes on where this byte follows it
abbrev pub mark_goes_on : Mark → ℕ → Bool
mark_goes_on marks.Less b = (b == 61) || (b == 62)
mark_goes_on marks.Greater b = b == 61
mark_goes_on _ b = false

-- the same of any token
abbrev pub goes_on : Lexeme → ℕ → Bool
goes_on (Key k) b = is_word_byte b
goes_on (Named n) b = is_word_byte b
goes_on (Number z) b = is_word_byte b
goes_on (Text t) b = b == 39
goes_on (Sign m) b = mark_goes_on m b

-- the first n bytes are the token
pub record BeginsLexeme (bytes : List ℕ) (l : Lexeme) (n : ℕ) : Type 0 where
  pub some : 0 < n
  pub within : n ≤ length bytes
  pub spelled : SpellsLexeme l (take n bytes)
  pub ends : goes_on l (slice_index bytes n) ≡ false

-- the same for a token as the code has it
pub record BeginsKind (bytes : List ℕ) (kind : TokenKind) (n : ℕ) : Type 0 where
  pub lexeme : Lexeme
  pub same : kind_of lexeme ≡ kind
  pub begins : BeginsLexeme bytes lexeme n

-- the longest mark that fits stands first
pub record BeginsMark (bytes : List ℕ) (m : Mark) : Type 0 where
  pub spelled : take (length (mark_text m)) bytes ≡ mark_text m
  pub ends : mark_goes_on m (slice_index bytes (length (mark_text m))) ≡ false

-- a digit, or a `-` directly before one
abbrev pub starts_number : List ℕ → Bool
starts_number bytes =
    is_ascii_digit (slice_index bytes 0)
    || ((slice_index bytes 0 == 45) && is_ascii_digit (slice_index bytes 1))

-- a byte that begins a mark
abbrev pub is_mark_byte : ℕ → Bool
is_mark_byte b = list_any (λ m. b == m) (codes "(),*;=<>")

-- a space or a tab
abbrev pub is_blank : ℕ → Bool
is_blank b = (b == 32) || (b == 9)

-- a letter, a number, a quote or a mark
abbrev pub begins_token : List ℕ → Bool
begins_token bytes =
    is_ascii_alphabetic (slice_index bytes 0) || starts_number bytes || (slice_index bytes 0 == 39)
    || is_mark_byte (slice_index bytes 0)

-- the length of the sign at the front
abbrev pub sign_len : List ℕ → ℕ
sign_len bytes = if slice_index bytes 0 == 45 then 1 else 0

-- the length of the sign and the digits at the front
abbrev pub number_len : List ℕ → ℕ
number_len bytes = sign_len bytes + prefix_len is_ascii_digit (drop (sign_len bytes) bytes)

-- the fault that stands at the front
pub data Fails : List ℕ → Code → ℕ → Type 0 where
  long_name : {bytes : List ℕ} → is_ascii_alphabetic (slice_index bytes 0) ≡ true
      → 30 < prefix_len is_word_byte bytes → Fails bytes codes_of.LongName 0
  joined_number : {bytes : List ℕ} → starts_number bytes ≡ true
      → is_word_byte (slice_index bytes (number_len bytes)) ≡ true
      → Fails bytes codes_of.BadNumber 0
  great_number : {bytes : List ℕ} → starts_number bytes ≡ true
      → IsTooGreat (take (number_len bytes) bytes) → Fails bytes codes_of.BadNumber 0
  bad_text : {bytes cs rest : List ℕ} → BeginsText bytes cs rest → 0 < length rest
      → slice_index rest 0 ≢ 39 → BeginsWithNoPlain rest
      → Fails bytes codes_of.BadByte (1 + length (written_all cs))
  open_text : {bytes cs : List ℕ} → BeginsText bytes cs [] → Fails bytes codes_of.OpenText 0
  long_text : {bytes cs rest : List ℕ} → BeginsText bytes cs (39 ∷ rest) → slice_index rest 0 ≢ 39
      → 1024 < length (encode_utf8_all cs) → Fails bytes codes_of.TooLong 0
  stray : {bytes : List ℕ} → begins_token bytes ≡ false → is_blank (slice_index bytes 0) ≡ false
      → 0 < length bytes → Fails bytes codes_of.BadByte 0

-- the first n bytes of a line are blanks and these tokens, which say these things
pub data Lexed (line : List ℕ) : ℕ → List tokens.Token → List Lexeme → Type 0 where
  start : Lexed line 0 [] []
  blank : {n : ℕ} {ts : List tokens.Token} {ls : List Lexeme} → Lexed line n ts ls → n < length line
      → is_blank (slice_index line n) ≡ true → Lexed line (n + 1) ts ls
  token : {n k : ℕ} {ts : List tokens.Token} {ls : List Lexeme} {l : Lexeme} → Lexed line n ts ls
      → BeginsLexeme (drop n line) l k
      → Lexed line (n + k)
      (ts ++ record { kind = kind_of l; start = n; end = n + k } ∷ []) (ls ++ l ∷ [])

-- the line is these tokens
pub record AreTokens (line : List ℕ) (ts : List tokens.Token) : Type 0 where
  pub short : length line ≤ 4096
  pub lexemes : List Lexeme
  pub lexed : Lexed line (length line) ts lexemes

-- this is the leftmost fault of the line
pub data IsLineFault (line : List ℕ) : Code → ℕ → Type 0 where
  long_line : 4096 < length line → IsLineFault line codes_of.TooLong 4096
  behind : {n by : ℕ} {c : Code} {ts : List tokens.Token} {ls : List Lexeme} → length line ≤ 4096
      → Lexed line n ts ls → Fails (drop n line) c by → IsLineFault line c (n + by)

-- where it is a fault, it is the leftmost one
abbrev pub IsFaultOf : List ℕ → ReadFault → Type 0
IsFaultOf line read_faults.NoMemory = Unit {0}
IsFaultOf line (read_faults.At code offset) = IsLineFault line code offset

-- a token of the line says l, and its slice spells it
pub record IsSpelled (line : List ℕ) (t : tokens.Token) (l : Lexeme) : Type 0 where
  pub kind : t.kind ≡ kind_of l
  pub some : t.start < t.end
  pub within : t.end ≤ length line
  pub spelled : SpellsLexeme l (take (t.end - t.start) (drop t.start line))

-- what the inside of a quoted text says: each doubled quote once
unfoldable pub undoubled : Bool → List ℕ → List ℕ
undoubled second [] = []
undoubled true (b ∷ bs) = undoubled false bs
undoubled false (b ∷ bs) = b ∷ undoubled (b == 39) bs

-- what a quoted text says
unfoldable pub unquoted : List ℕ → List ℕ
unquoted quoted = undoubled false (take (length quoted - 2) (drop 1 quoted))

-- what a token of this kind says, of which these are the bytes
abbrev pub lexeme_of : TokenKind → List ℕ → Lexeme
lexeme_of (kinds.Keyword k) bytes = Key k
lexeme_of (kinds.Name n) bytes = Named n
lexeme_of (kinds.Number z) bytes = Number z
lexeme_of kinds.Text bytes = Text (unquoted bytes)
lexeme_of (kinds.Mark m) bytes = Sign m

-- what a token says, and where it stands
pub record LocatedLexeme : Type 0 where
  pub lexeme : Lexeme
  pub start : ℕ

-- a token of a line, by what it says
abbrev pub located : List ℕ → tokens.Token → LocatedLexeme
located line t =
    record {
      lexeme = lexeme_of t.kind (take (t.end - t.start)
          (drop t.start line));
      start = t.start;
    }

-- each token's slice spells what it says
abbrev pub AreSpelled : List ℕ → List tokens.Token → Type 0
AreSpelled line [] = Unit {0}
AreSpelled line (t ∷ ts) = IsSpelled line t (located line t).lexeme × AreSpelled line ts

-- the line says this, from token to token
pub record Says (line : List ℕ) (said : List Lexeme) : Type 0 where
  pub short : length line ≤ 4096
  pub tokens_of : List tokens.Token
  pub lexed : Lexed line (length line) tokens_of said
