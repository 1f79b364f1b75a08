-- Grammars as data.
use Rattle.std.specs.Prelude.{ℕ, Bool, true, false, if◌then◌else◌, ◌||◌, ◌&&◌, List, length, Option, Some, None, nat_eq, nat_le, pos}
use Rattle.std.specs.List.{list_any}
use Rattle.base_core.specs.Words.{same_name}
use Rattle.base_core.specs.declared.keyword.Keyword.{Keyword}
use Rattle.base_core.specs.declared.keyword.Keyword.TheVariants as keywords
use Rattle.lexer_core.specs.declared.token.Mark.{Mark}
use Rattle.lexer_core.specs.declared.token.Mark.TheVariants as marks
use Rattle.lexer_core.specs.declared.token.TokenKind.{TokenKind}
use Rattle.lexer_core.specs.declared.token.TokenKind.TheVariants as kinds
use Rattle.lexer_core.specs.declared.fault.Code.{Code}
use Rattle.lexer_core.specs.declared.fault.Code.TheVariants as codes

-- ---- classes of tokens
pub data Class : Type 0 where
  Key : Keyword → Class
  Sign : Mark → Class
  AnyName : Class
  AnyLiteral : Class
  AnyType : Class
  AnyTest : Class
  AtLeastOne : Class

-- a number for each keyword
abbrev pub keyword_number : Keyword → ℕ
keyword_number keywords.And = 0
keyword_number keywords.Checkpoint = 1
keyword_number keywords.Checkpoints = 2
keyword_number keywords.Create = 3
keyword_number keywords.Delete = 4
keyword_number keywords.Export = 5
keyword_number keywords.For = 6
keyword_number keywords.From = 7
keyword_number keywords.Grant = 8
keyword_number keywords.Insert = 9
keyword_number keywords.Integer = 10
keyword_number keywords.Into = 11
keyword_number keywords.On = 12
keyword_number keywords.Only = 13
keyword_number keywords.Option = 14
keyword_number keywords.Revoke = 15
keyword_number keywords.Select = 16
keyword_number keywords.Set = 17
keyword_number keywords.Table = 18
keyword_number keywords.Text = 19
keyword_number keywords.To = 20
keyword_number keywords.Update = 21
keyword_number keywords.Values = 22
keyword_number keywords.Where = 23
keyword_number keywords.With = 24

-- a number for each mark
abbrev pub mark_number : Mark → ℕ
mark_number marks.Open = 0
mark_number marks.Close = 1
mark_number marks.Comma = 2
mark_number marks.Star = 3
mark_number marks.Semicolon = 4
mark_number marks.Equal = 5
mark_number marks.NotEqual = 6
mark_number marks.Less = 7
mark_number marks.LessEqual = 8
mark_number marks.Greater = 9
mark_number marks.GreaterEqual = 10

-- whether a token is this keyword
abbrev pub is_keyword : Keyword → TokenKind → Bool
is_keyword k (kinds.Keyword j) = nat_eq (keyword_number k) (keyword_number j)
is_keyword k _ = false

-- whether it is some keyword
abbrev pub is_any_keyword : TokenKind → Bool
is_any_keyword (kinds.Keyword k) = true
is_any_keyword _ = false

-- whether it is this mark
abbrev pub is_mark : Mark → TokenKind → Bool
is_mark m (kinds.Mark n) = nat_eq (mark_number m) (mark_number n)
is_mark m _ = false

-- whether it is a name
abbrev pub is_name_token : TokenKind → Bool
is_name_token (kinds.Name n) = true
is_name_token _ = false

-- a number or a text
abbrev pub is_literal : TokenKind → Bool
is_literal (kinds.Number n) = true
is_literal kinds.Text = true
is_literal _ = false

-- a mark that compares
abbrev pub is_test : TokenKind → Bool
is_test t =
    is_mark marks.Equal t || is_mark marks.NotEqual t || is_mark marks.Less t
    || is_mark marks.LessEqual t || is_mark marks.Greater t || is_mark marks.GreaterEqual t

-- a word that names a privilege
abbrev pub is_privilege : TokenKind → Bool
is_privilege t =
    is_keyword keywords.Select t || is_keyword keywords.Insert t || is_keyword keywords.Delete t
    || is_keyword keywords.Update t

-- a number from 1
abbrev pub is_at_least_one : TokenKind → Bool
is_at_least_one (kinds.Number (pos n)) = nat_le 1 n
is_at_least_one _ = false

-- whether a token is of the class
abbrev pub fits : Class → TokenKind → Bool
fits (Key k) t = is_keyword k t
fits (Sign m) t = is_mark m t
fits AnyName t = is_name_token t
fits AnyLiteral t = is_literal t
fits AnyTest t = is_test t
fits AtLeastOne t = is_at_least_one t
fits AnyType t = is_keyword keywords.Integer t || is_keyword keywords.Text t

-- whether two tokens say the same, where items of a list have to differ by their first tokens
abbrev pub same : TokenKind → TokenKind → Bool
same (kinds.Name a) (kinds.Name b) = same_name a b
same (kinds.Keyword a) t = is_keyword a t
same _ _ = false

-- ---- grammars
-- how many items a list has at most, and whether their first tokens differ
pub record Rule : Type 0 where
  pub limit : ℕ
  pub distinct : Bool
  pub separator : Class

-- What a list of tokens may be.
pub data Grammar : Type 0 where
  -- nothing more
  End : Grammar
  -- a token of the class, and then the rest
  One : Class → Grammar → Grammar
  -- where the next token is of the class, that token and then the first grammar; otherwise the
  -- second
  Case : Class → Grammar → Grammar → Grammar
  -- an item, after those that began with the tokens seen; then a separator and a further item, as
  -- often as one comes; then the rest
  Items : Rule → List TokenKind → Grammar → Grammar → Grammar
  -- the same behind an item
  More : Rule → List TokenKind → Grammar → Grammar → Grammar

-- the one, and then the other
abbrev pub followed_by : Grammar → Grammar → Grammar
followed_by End k = k
followed_by (One c g) k = One c (followed_by g k)
followed_by (Case c a b) k = Case c (followed_by a k) (followed_by b k)
followed_by (Items r s i g) k = Items r s i (followed_by g k)
followed_by (More r s i g) k = More r s i (followed_by g k)

-- ---- what is wrong with an item
-- of one that comes after so many, and is repeated or is not
unfoldable pub repeated_or_too_many : Bool → ℕ → ℕ → Option Code
repeated_or_too_many repeated count limit =
    if repeated then Some codes.Duplicate else if nat_le limit count then Some codes.TooMany
    else None

-- the same of an item that begins with this token, after those that began with the tokens seen
abbrev pub item_fault : Rule → List TokenKind → TokenKind → Option Code
item_fault r seen t =
    repeated_or_too_many (r.distinct && list_any (λ x. same x t) seen) (length seen) r.limit

-- a code, and the byte where it stands
abbrev pub Fault : Type 0
Fault = Code × ℕ
