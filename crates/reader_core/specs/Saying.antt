-- What statements say, token by token.
use Rattle.std.specs.Prelude.{◌≡◌, ℕ, pos, Bool, true, false, List, [], ◌∷◌, ◌++◌, ◌⊎◌, Option, Some, None}
use Rattle.std.specs.List.{flat_map}
use Rattle.base_core.specs.declared.keyword.Keyword.TheVariants as keywords
use Rattle.base_core.specs.declared.name.Name.{Name}
use Rattle.base_core.specs.declared.value.Value.{Value}
use Rattle.base_core.specs.declared.value.Value.TheVariants as values
use Rattle.base_core.specs.declared.value.Column.{Column}
use Rattle.base_core.specs.declared.value.ColType.{ColType}
use Rattle.base_core.specs.declared.value.ColType.TheVariants as types
use Rattle.base_core.specs.declared.name.User.{User}
use Rattle.base_core.specs.declared.condition.Condition.{Condition}
use Rattle.base_core.specs.declared.condition.Assignment.{Assignment}
use Rattle.base_core.specs.declared.condition.Comparison.{Comparison}
use Rattle.base_core.specs.declared.condition.Comparison.TheVariants as comparisons
use Rattle.lexer_core.specs.Lexing.{Lexeme}
use Rattle.lexer_core.specs.Lexing as lexemes
use Rattle.lexer_core.specs.declared.token.Mark.{Mark}
use Rattle.lexer_core.specs.declared.token.Mark.TheVariants as marks
use Rattle.reader_core.specs.declared.privilege.Privilege.{Privilege}
use Rattle.reader_core.specs.declared.privilege.Privilege.TheVariants as privileges_of
use Rattle.reader_core.specs.declared.privilege.PrivilegeWord.{PrivilegeWord}
use Rattle.reader_core.specs.declared.separator.Separator.{Separator}
use Rattle.reader_core.specs.declared.separator.Separator.TheVariants as separators
use Rattle.reader_core.specs.declared.statement.Statement.{Statement}
use Rattle.reader_core.specs.declared.statement.Statement.TheVariants as statements
use Rattle.reader_core.specs.Grammar.{Class, Key, Sign}
use Rattle.reader_core.specs.Privileges.{word_of, word_keyword}

abbrev pub comma_lexeme : Lexeme
comma_lexeme = lexemes.Sign marks.Comma

-- the class of a separator
abbrev pub separator_class : Separator → Class
separator_class separators.Comma = Sign marks.Comma
separator_class separators.And = Key keywords.And

-- what a separator says
abbrev pub separator_lexeme : Separator → Lexeme
separator_lexeme separators.Comma = comma_lexeme
separator_lexeme separators.And = lexemes.Key keywords.And

-- the items, with a separator between each two
abbrev pub separated : {A : Type 0} → Lexeme → (A → List Lexeme) → List A → List Lexeme
separated separator says [] = []
separated separator says (x ∷ xs) = says x ++ flat_map (λ y. separator ∷ says y) xs

-- a name
abbrev pub name_says : Name → List Lexeme
name_says n = lexemes.Named n ∷ []

-- INTEGER or TEXT
abbrev pub type_lexeme : ColType → Lexeme
type_lexeme types.Integer = lexemes.Key keywords.Integer
type_lexeme types.Text = lexemes.Key keywords.Text

-- the same as a list
abbrev pub type_says : ColType → List Lexeme
type_says t = type_lexeme t ∷ []

-- its name and its type
abbrev pub column_says : Column → List Lexeme
column_says c = lexemes.Named c.name ∷ type_says c.ty

-- a number or a text
abbrev pub value_lexeme : Value → Lexeme
value_lexeme (values.Int n) = lexemes.Number n
value_lexeme (values.Text t) = lexemes.Text t

-- the same as a list
abbrev pub value_says : Value → List Lexeme
value_says v = value_lexeme v ∷ []

-- names with commas
abbrev pub names_say : List Name → List Lexeme
names_say names = separated comma_lexeme name_says names

-- the user's name
abbrev pub user_says : User → List Lexeme
user_says u = lexemes.Named u.0 ∷ []

-- the mark of a comparison
abbrev pub comparison_mark : Comparison → Mark
comparison_mark comparisons.Equal = marks.Equal
comparison_mark comparisons.NotEqual = marks.NotEqual
comparison_mark comparisons.Less = marks.Less
comparison_mark comparisons.LessEqual = marks.LessEqual
comparison_mark comparisons.Greater = marks.Greater
comparison_mark comparisons.GreaterEqual = marks.GreaterEqual

-- the same as a list
abbrev pub comparison_says : Comparison → List Lexeme
comparison_says c = lexemes.Sign (comparison_mark c) ∷ []

-- column, comparison, literal
abbrev pub condition_says : Condition → List Lexeme
condition_says c =
    lexemes.Named c.column ∷ lexemes.Sign (comparison_mark c.comparison) ∷ value_says c.literal

-- an empty filter is no WHERE
abbrev pub filter_says : List Condition → List Lexeme
filter_says [] = []
filter_says (c ∷ cs) =
    lexemes.Key keywords.Where ∷ separated (lexemes.Key keywords.And) condition_says (c ∷ cs)

-- column = value
abbrev pub set_says : Assignment → List Lexeme
set_says a = lexemes.Named a.column ∷ lexemes.Sign marks.Equal ∷ value_says a.value

-- no list is "*"
abbrev pub selection_says : Option (List Name) → List Lexeme
selection_says None = lexemes.Sign marks.Star ∷ []
selection_says (Some names) = names_say names

-- no list is nothing
abbrev pub columns_say : Option (List Name) → List Lexeme
columns_say None = []
columns_say (Some names) =
    lexemes.Sign marks.Open ∷ (names_say names ++ lexemes.Sign marks.Close ∷ [])

-- the word of a privilege
abbrev pub word_says : PrivilegeWord → List Lexeme
word_says w = lexemes.Key (word_keyword w) ∷ []

-- the columns that SELECT or UPDATE names, if it does
abbrev pub privilege_columns : Privilege → Option (List Name)
privilege_columns (privileges_of.Select columns) = columns
privilege_columns privileges_of.Insert = None
privilege_columns privileges_of.Delete = None
privilege_columns (privileges_of.Update columns) = columns

-- the word, and then the columns
abbrev pub privilege_says : Privilege → List Lexeme
privilege_says p = lexemes.Key (word_keyword (word_of p)) ∷ columns_say (privilege_columns p)

-- WITH GRANT OPTION, or nothing
abbrev pub option_says : Bool → List Lexeme
option_says true =
    lexemes.Key keywords.With ∷ lexemes.Key keywords.Grant ∷ lexemes.Key keywords.Option ∷ []
option_says false = []

-- GRANT OPTION FOR, or nothing
abbrev pub option_for_says : Bool → List Lexeme
option_for_says true =
    lexemes.Key keywords.Grant ∷ lexemes.Key keywords.Option ∷ lexemes.Key keywords.For ∷ []
option_for_says false = []

-- the privileges, ON and the table, FROM and the users
abbrev pub privileges_from_say : List Privilege → Name → List User → List Lexeme
privileges_from_say privileges table users =
    separated comma_lexeme privilege_says privileges
    ++ lexemes.Key keywords.On ∷ lexemes.Named table ∷ lexemes.Key keywords.From
    ∷ separated comma_lexeme user_says users

-- the number of a checkpoint
abbrev pub number_says : ℕ → List Lexeme
number_says n = lexemes.Number (pos n) ∷ []

-- ONLY and the table, or nothing
abbrev pub only_says : Option Name → List Lexeme
only_says None = []
only_says (Some table) = lexemes.Key keywords.Only ∷ lexemes.Named table ∷ []

-- the tokens of a statement, without ";"
abbrev pub statement_says : Statement → List Lexeme
statement_says (statements.CreateTable table columns) =
    lexemes.Key keywords.Create ∷ lexemes.Key keywords.Table ∷ lexemes.Named table
    ∷ lexemes.Sign marks.Open
    ∷ (separated comma_lexeme column_says columns ++ lexemes.Sign marks.Close ∷ [])
statement_says (statements.Insert table values) =
    lexemes.Key keywords.Insert ∷ lexemes.Key keywords.Into ∷ lexemes.Named table
    ∷ lexemes.Key keywords.Values ∷ lexemes.Sign marks.Open
    ∷ (separated comma_lexeme value_says values ++ lexemes.Sign marks.Close ∷ [])
statement_says (statements.Select list table filter) =
    lexemes.Key keywords.Select
    ∷ (selection_says list ++ lexemes.Key keywords.From ∷ lexemes.Named table ∷ filter_says filter)
statement_says (statements.Delete table filter) =
    lexemes.Key keywords.Delete ∷ lexemes.Key keywords.From ∷ lexemes.Named table
    ∷ filter_says filter
statement_says (statements.Update table sets filter) =
    lexemes.Key keywords.Update ∷ lexemes.Named table ∷ lexemes.Key keywords.Set
    ∷ (separated comma_lexeme set_says sets ++ filter_says filter)
statement_says (statements.Grant privileges table users option) =
    lexemes.Key keywords.Grant
    ∷ (separated comma_lexeme privilege_says privileges
    ++ lexemes.Key keywords.On ∷ lexemes.Named table ∷ lexemes.Key keywords.To
    ∷ (separated comma_lexeme user_says users ++ option_says option))
statement_says (statements.Revoke privileges table users) =
    lexemes.Key keywords.Revoke ∷ privileges_from_say privileges table users
statement_says (statements.RevokeOption privileges table users) =
    lexemes.Key keywords.Revoke ∷ lexemes.Key keywords.Grant ∷ lexemes.Key keywords.Option
    ∷ lexemes.Key keywords.For ∷ privileges_from_say privileges table users
statement_says statements.Checkpoint = lexemes.Key keywords.Checkpoint ∷ []
statement_says statements.Checkpoints = lexemes.Key keywords.Checkpoints ∷ []
statement_says (statements.Export number only) =
    lexemes.Key keywords.Export ∷ lexemes.Number (pos number) ∷ only_says only

-- nothing, or a ";"
abbrev pub IsFinished : List Lexeme → Type 0
IsFinished said = (said ≡ []) ⊎ (said ≡ lexemes.Sign marks.Semicolon ∷ [])
