-- The texts of a statement: the canonical one and the shortest one, and the lines of a journal.
use Rattle.std.specs.Prelude.{◌≡◌, ◌==◌, ◌||◌, ◌-◌, not, nat_le, ℕ, Bool, true, false, Option, Some, None, List, [], ◌∷◌, ◌++◌, All, if◌then◌else◌, codes, length, slice_index}
use Rattle.std.specs.List.{flat_map}
use Rattle.std.specs.Fmt.{signed_decimal}
use Rattle.base_core.specs.Words.{text_of, is_word_byte}
use Rattle.base_core.specs.declared.name.User.{User}
use Rattle.lexer_core.specs.Lexing.{Lexeme, Key, Named, Number, Text, Sign, mark_text, IsProper}
use Rattle.lexer_core.specs.declared.token.Mark.TheVariants as marks
use Rattle.reader_core.specs.declared.statement.Statement.{Statement}
use Rattle.reader_core.specs.declared.statement.Statement.TheVariants as statements
use Rattle.reader_core.specs.Saying.{statement_says}
use Rattle.printer_core.specs.declared.page.TheConstants.{PAGE_BYTES}
use Rattle.printer_core.specs.declared.spacing.LastToken.{LastToken}
use Rattle.printer_core.specs.declared.spacing.LastToken.TheVariants as lasts
use Rattle.printer_core.specs.declared.spacing.Spacing.{Spacing}
use Rattle.printer_core.specs.declared.spacing.Spacing.TheVariants as spacings

-- each quote twice
abbrev pub doubled : List ℕ → List ℕ
doubled bytes = flat_map (λ b. if b == 39 then 39 ∷ 39 ∷ [] else b ∷ []) bytes

-- keywords in capitals, names as they are, which is in small letters, numbers in plain decimal,
-- texts in quotes
abbrev pub lexeme_text : Lexeme → List ℕ
lexeme_text (Key k) = text_of k
lexeme_text (Named n) = n
lexeme_text (Number z) = signed_decimal z
lexeme_text (Text t) = 39 ∷ (doubled t ++ 39 ∷ [])
lexeme_text (Sign m) = mark_text m

-- a token, as far as what may stand behind it depends on it
abbrev pub as_last : Lexeme → LastToken
as_last (Key k) = lasts.Word
as_last (Named n) = lasts.Word
as_last (Number z) = lasts.Word
as_last (Text t) = lasts.Quoted
as_last (Sign marks.Open) = lasts.Open
as_last (Sign marks.Less) = lasts.Less
as_last (Sign marks.Greater) = lasts.Greater
as_last (Sign _) = lasts.Other

-- whether such a token would go on with the byte
abbrev pub runs_on : LastToken → ℕ → Bool
runs_on lasts.Word b = is_word_byte b
runs_on lasts.Quoted b = b == 39
runs_on lasts.Less b = (b == 61) || (b == 62)
runs_on lasts.Greater b = b == 61
runs_on _ b = false

-- a token that no blank follows in canonical text: "("
abbrev pub is_opening : LastToken → Bool
is_opening lasts.Open = true
is_opening _ = false

-- the first byte of a token that no blank precedes there: ")" or ","
abbrev pub is_trailing : ℕ → Bool
is_trailing b = (b == 41) || (b == 44)

-- whether a blank stands between such a token and one that begins with the byte: in canonical text
-- but behind "(" and before ")" and ",", in minified text only where the first would go on
abbrev pub is_parted : Spacing → LastToken → ℕ → Bool
is_parted spacings.Canonical last b = not (is_opening last || is_trailing b)
is_parted spacings.Minified last b = runs_on last b

-- a blank, or nothing
abbrev pub blank_if : Bool → List ℕ
blank_if b = if b then 32 ∷ [] else []

-- what stands between such a token and the token of this text
abbrev pub gap : Spacing → LastToken → List ℕ → List ℕ
gap spacing last text = blank_if (is_parted spacing last (slice_index text 0))

-- the tokens behind such a one
abbrev pub spaced_text : Spacing → LastToken → List Lexeme → List ℕ
spaced_text spacing last [] = []
spaced_text spacing last (l ∷ ls) =
    gap spacing last (lexeme_text l) ++ (lexeme_text l ++ spaced_text spacing (as_last l) ls)

-- at the front no blank stands, as behind "("
abbrev pub at_front : LastToken
at_front = lasts.Open

-- a statement so spaced
abbrev pub statement_text : Spacing → Statement → List ℕ
statement_text spacing s = spaced_text spacing at_front (statement_says s)

-- how print writes a statement
abbrev pub canonical : Statement → List ℕ
canonical s = statement_text spacings.Canonical s

-- the same with no blank that may be left out: no line that spells the statement is shorter
abbrev pub minified : Statement → List ℕ
minified s = statement_text spacings.Minified s

-- every name, number and text in a statement is one that its type allows
abbrev pub HoldsProper : Statement → Type 0
HoldsProper s = All IsProper (statement_says s)

-- whether statements of its kind say numbers or texts
abbrev pub has_literals : Statement → Bool
has_literals (statements.CreateTable table columns) = false
has_literals (statements.Grant privileges table users option) = false
has_literals (statements.Revoke privileges table users) = false
has_literals (statements.RevokeOption privileges table users) = false
has_literals statements.Checkpoint = false
has_literals statements.Checkpoints = false
has_literals _ = true

-- the colon behind the user's name
abbrev pub colon_text : Spacing → List ℕ
colon_text spacings.Canonical = codes ": "
colon_text spacings.Minified = codes ":"

-- the user and the statement
abbrev pub line_text : Spacing → User → Statement → List ℕ
line_text spacing user s = user.0 ++ (colon_text spacing ++ statement_text spacing s)

-- a line of a journal: canonical where that line has at most 4,096 bytes, and else minified
abbrev pub journal_line : User → Statement → List ℕ
journal_line user s =
    let whole = line_text spacings.Canonical user s in
    if nat_le (length whole) 4096 then whole else line_text spacings.Minified user s

-- the same with its line feed
abbrev pub ended_line : User → Statement → List ℕ
ended_line user s = journal_line user s ++ 10 ∷ []

-- ---- a page that is written on: its text, if all of it has found room
pub record Sheet : Type 0 where
  pub text : Option (List ℕ)
  pub spacing : Spacing
  pub last : LastToken

-- a text and these bytes behind it, if there is room for them
unfoldable pub added : Option (List ℕ) → List ℕ → Option (List ℕ)
added None bytes = None
added (Some text) bytes =
    if nat_le (length bytes) (PAGE_BYTES - length text) then Some (text ++ bytes) else None

-- these bytes were written on an empty page, and no token
pub record IsStarted (bytes : List ℕ) (started : Spacing) (new : Sheet) : Type 0 where
  pub text : new.text ≡ added (Some []) bytes
  pub spacing : new.spacing ≡ started
  pub last : new.last ≡ at_front

-- these bytes were added
pub record Adds (bytes : List ℕ) (old new : Sheet) : Type 0 where
  pub text : new.text ≡ added old.text bytes
  pub spacing : new.spacing ≡ old.spacing
  pub last : new.last ≡ old.last

-- a token that will be the last begins with these bytes
pub record OpensToken (token : LastToken) (bytes : List ℕ) (old new : Sheet) : Type 0 where
  pub text : new.text ≡ added old.text (gap old.spacing old.last bytes ++ bytes)
  pub spacing : new.spacing ≡ old.spacing
  pub last : new.last ≡ token

-- the last of these tokens, behind such a one
abbrev pub last_behind : LastToken → List Lexeme → LastToken
last_behind last [] = last
last_behind last (l ∷ ls) = last_behind (as_last l) ls

-- these tokens were written, and each is proper
pub record Prints (said : List Lexeme) (old new : Sheet) : Type 0 where
  pub text : new.text ≡ added old.text (spaced_text old.spacing old.last said)
  pub spacing : new.spacing ≡ old.spacing
  pub last : new.last ≡ last_behind old.last said
  pub proper : All IsProper said
