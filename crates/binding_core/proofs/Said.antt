-- The literals in what a statement says are its literals.
use Rattle.std.proofs.Common.{◌≡◌, pos, Bool, true, false, Option, Some, None, List, [], ◌∷◌, ◌++◌, map, refl, ◌∙◌, ap, inl, inr}
use Rattle.std.specs.List.{flat_map}
use Rattle.std.proofs.lemmas.List.{append-nil, map-id}
use Rattle.base_core.specs.declared.name.Name.{Name}
use Rattle.base_core.specs.declared.name.User.{User}
use Rattle.base_core.specs.declared.keyword.Keyword.TheVariants as keywords
use Rattle.base_core.specs.declared.value.Value.{Value}
use Rattle.base_core.specs.declared.value.Value.TheVariants as values_of
use Rattle.base_core.specs.declared.value.Column.{Column}
use Rattle.base_core.specs.declared.value.ColType.{ColType}
use Rattle.base_core.specs.declared.value.ColType.TheVariants as types
use Rattle.base_core.specs.declared.condition.Condition.{Condition}
use Rattle.base_core.specs.declared.condition.Assignment.{Assignment}
use Rattle.lexer_core.specs.Lexing.{Lexeme, Key, Named, Number, Text, Sign}
use Rattle.lexer_core.specs.declared.token.Mark.TheVariants as marks
use Rattle.reader_core.specs.declared.privilege.Privilege.{Privilege}
use Rattle.reader_core.specs.declared.statement.Statement.{Statement}
use Rattle.reader_core.specs.declared.statement.Statement.TheVariants as statements
use Rattle.reader_core.specs.Language.{SaysStatement}
use Rattle.reader_core.specs.Saying.{comma_lexeme, separated, column_says, columns_say, condition_says, filter_says, name_says, names_say, only_says, option_says, privilege_columns, privilege_says, privileges_from_say, selection_says, set_says, statement_says, type_says, user_says, value_lexeme, value_says}
use Rattle.binding_core.specs.Literals.{filter_literals, literals}

-- the literals in what is said
abbrev pub literals_in : List Lexeme → List Value
literals_in [] = []
literals_in (Key k ∷ ls) = literals_in ls
literals_in (Named n ∷ ls) = literals_in ls
literals_in (Number z ∷ ls) = values_of.Int z ∷ literals_in ls
literals_in (Text t ∷ ls) = values_of.Text t ∷ literals_in ls
literals_in (Sign m ∷ ls) = literals_in ls

pub both : (xs ys : List Lexeme) → literals_in (xs ++ ys) ≡ literals_in xs ++ literals_in ys
both [] ys = refl
both (Key k ∷ xs) ys = both xs ys
both (Named n ∷ xs) ys = both xs ys
both (Number z ∷ xs) ys = ap (λ (vs : List Value). values_of.Int z ∷ vs) (both xs ys)
both (Text t ∷ xs) ys = ap (λ (vs : List Value). values_of.Text t ∷ vs) (both xs ys)
both (Sign m ∷ xs) ys = both xs ys

pub one : (v : Value) (ls : List Lexeme) → literals_in (value_lexeme v ∷ ls) ≡ v ∷ literals_in ls
one (values_of.Int z) ls = refl
one (values_of.Text t) ls = refl

-- ---- lists
none_in_front : (xs ys : List Lexeme) → literals_in xs ≡ [] → literals_in (xs ++ ys) ≡ literals_in ys
none_in_front xs ys e = both xs ys ∙ ap (λ (vs : List Value). vs ++ literals_in ys) e

module _ {A : Type 0} (says : A → List Lexeme) where
  abbrev behind : Lexeme → List A → List Lexeme
  behind sep xs = flat_map (λ y. sep ∷ says y) xs

  none_behind : (sep : Lexeme) → ((y : A) → literals_in (sep ∷ says y) ≡ []) → (xs : List A) → literals_in (behind sep xs) ≡ []
  none_behind sep none [] = refl
  none_behind sep none (x ∷ xs) = none_in_front (sep ∷ says x) (behind sep xs) (none x) ∙ none_behind sep none xs

  none_listed : ((y : A) → literals_in (says y) ≡ []) → (xs : List A) → literals_in (separated comma_lexeme says xs) ≡ []
  none_listed none [] = refl
  none_listed none (x ∷ xs) = none_in_front (says x) (behind comma_lexeme xs) (none x) ∙ none_behind comma_lexeme none xs

  module _ (value : A → Value) where
    one_behind : (sep : Lexeme) → ((y : A) → literals_in (sep ∷ says y) ≡ value y ∷ []) → (xs : List A) → literals_in (behind sep xs) ≡ map value xs
    one_behind sep each [] = refl
    one_behind sep each (x ∷ xs) =
        both (sep ∷ says x) (behind sep xs)
        ∙ (ap (λ (vs : List Value). vs ++ literals_in (behind sep xs)) (each x) ∙ ap (λ (vs : List Value). value x ∷ vs) (one_behind sep each xs))

    one_listed : (sep : Lexeme) → ((y : A) → literals_in (says y) ≡ value y ∷ []) → ((y : A) → literals_in (sep ∷ says y) ≡ value y ∷ []) → (xs : List A) → literals_in (separated sep says xs) ≡ map value xs
    one_listed sep first each [] = refl
    one_listed sep first each (x ∷ xs) =
        both (says x) (behind sep xs)
        ∙ (ap (λ (vs : List Value). vs ++ literals_in (behind sep xs)) (first x) ∙ ap (λ (vs : List Value). value x ∷ vs) (one_behind sep each xs))

-- ---- parts without literals
type_none : (t : ColType) → literals_in (type_says t) ≡ []
type_none types.Integer = refl
type_none types.Text = refl

names_none : (names : List Name) → literals_in (names_say names) ≡ []
names_none names = none_listed name_says (λ n. refl) names

users_none : (users : List User) → literals_in (separated comma_lexeme user_says users) ≡ []
users_none users = none_listed user_says (λ u. refl) users

columns_none : (columns : List Column) → literals_in (separated comma_lexeme column_says columns) ≡ []
columns_none columns = none_listed column_says (λ c. type_none c.ty) columns

bracketed_none : (columns : Option (List Name)) → literals_in (columns_say columns) ≡ []
bracketed_none None = refl
bracketed_none (Some names) = none_in_front (names_say names) (Sign marks.Close ∷ []) (names_none names)

privileges_none : (ps : List Privilege) → literals_in (separated comma_lexeme privilege_says ps) ≡ []
privileges_none ps = none_listed privilege_says (λ p. bracketed_none (privilege_columns p)) ps

option_none : (option : Bool) → literals_in (option_says option) ≡ []
option_none true = refl
option_none false = refl

only_none : (only : Option Name) → literals_in (only_says only) ≡ []
only_none None = refl
only_none (Some table) = refl

selection_none : (list : Option (List Name)) → literals_in (selection_says list) ≡ []
selection_none None = refl
selection_none (Some names) = names_none names

from_none : (ps : List Privilege) (table : Name) (users : List User) → literals_in (privileges_from_say ps table users) ≡ []
from_none ps table users =
    none_in_front (separated comma_lexeme privilege_says ps) (Key keywords.On ∷ Named table ∷ Key keywords.From ∷ separated comma_lexeme user_says users) (privileges_none ps)
    ∙ users_none users

-- ---- parts with them
filter_said : (cs : List Condition) → literals_in (filter_says cs) ≡ filter_literals cs
filter_said [] = refl
filter_said (c ∷ cs) = one_listed condition_says (λ (x : Condition). x.literal) (Key keywords.And) (λ x. one x.literal []) (λ x. one x.literal []) (c ∷ cs)

sets_said : (sets : List Assignment) → literals_in (separated comma_lexeme set_says sets) ≡ map (λ (a : Assignment). a.value) sets
sets_said sets = one_listed set_says (λ (a : Assignment). a.value) comma_lexeme (λ a. one a.value []) (λ a. one a.value []) sets

values_said : (vs : List Value) → literals_in (separated comma_lexeme value_says vs) ≡ vs
values_said vs = one_listed value_says (λ (v : Value). v) comma_lexeme (λ v. one v []) (λ v. one v []) vs ∙ map-id vs

-- ---- statements
statement_said : (s : Statement) → literals_in (statement_says s) ≡ literals s
statement_said (statements.CreateTable table columns) = none_in_front (separated comma_lexeme column_says columns) (Sign marks.Close ∷ []) (columns_none columns)
statement_said (statements.Insert table vs) =
    both (separated comma_lexeme value_says vs) (Sign marks.Close ∷ [])
    ∙ (append-nil (literals_in (separated comma_lexeme value_says vs)) ∙ values_said vs)
statement_said (statements.Select list table filter) =
    none_in_front (selection_says list) (Key keywords.From ∷ Named table ∷ filter_says filter) (selection_none list) ∙ filter_said filter
statement_said (statements.Delete table filter) = filter_said filter
statement_said (statements.Update table sets filter) =
    both (separated comma_lexeme set_says sets) (filter_says filter)
    ∙ (ap (λ (vs : List Value). vs ++ literals_in (filter_says filter)) (sets_said sets)
    ∙ ap (λ (vs : List Value). map (λ (a : Assignment). a.value) sets ++ vs) (filter_said filter))
statement_said (statements.Grant ps table users option) =
    none_in_front (separated comma_lexeme privilege_says ps) (Key keywords.On ∷ Named table ∷ Key keywords.To ∷ (separated comma_lexeme user_says users ++ option_says option)) (privileges_none ps)
    ∙ (none_in_front (separated comma_lexeme user_says users) (option_says option) (users_none users) ∙ option_none option)
statement_said (statements.Revoke ps table users) = from_none ps table users
statement_said (statements.RevokeOption ps table users) = from_none ps table users
statement_said statements.Checkpoint = refl
statement_said statements.Checkpoints = refl
statement_said (statements.Export number only) = ap (λ (vs : List Value). values_of.Int (pos number) ∷ vs) (only_none only)

pub said_literals : (said : List Lexeme) (s : Statement) → SaysStatement said s → literals_in said ≡ literals s
said_literals said s (inl e) = ap literals_in e ∙ statement_said s
said_literals said s (inr e) =
    ap literals_in e
    ∙ (both (statement_says s) (Sign marks.Semicolon ∷ []) ∙ (append-nil (literals_in (statement_says s)) ∙ statement_said s))
