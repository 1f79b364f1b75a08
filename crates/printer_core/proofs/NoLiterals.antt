-- Statements without literals have at most 4,096 bytes.
use Rattle.std.proofs.Common.{◌≡◌, ℕ, ◌+◌, ◌*◌, ◌≤◌, Bool, true, false, ◌&&◌, Option, Some, None, List, [], ◌∷◌, ◌++◌, length, All, refl, arith, length-append}
use Rattle.std.specs.Prelude.{not, slice_index}
use Rattle.std.specs.List.{flat_map, list_any}
use Rattle.std.proofs.lemmas.List.Elements.{All-head, All-tail}
use Rattle.base_core.specs.declared.name.Name.{Name}
use Rattle.base_core.specs.declared.name.User.{User}
use Rattle.base_core.specs.declared.keyword.Keyword.TheVariants as keywords
use Rattle.base_core.specs.declared.value.Column.{Column}
use Rattle.base_core.specs.declared.value.ColType.{ColType}
use Rattle.base_core.specs.declared.value.ColType.TheVariants as types
use Rattle.lexer_core.specs.Lexing.{Lexeme, Key, Named, Number, Text, Sign, IsProper}
use Rattle.lexer_core.specs.declared.token.Mark.TheVariants as marks
use Rattle.lexer_core.proofs.Shortness.{name_short}
use Rattle.reader_core.specs.declared.privilege.Privilege.{Privilege}
use Rattle.reader_core.specs.declared.privilege.Privilege.TheVariants as privileges
use Rattle.reader_core.specs.declared.statement.Statement.{Statement}
use Rattle.reader_core.specs.declared.statement.Statement.TheVariants as statements
use Rattle.reader_core.specs.Forming.{ArePrivileges, AreUsers, IsWellFormed, IsWellFormedPrivilege}
use Rattle.reader_core.specs.Privileges.{are_different, same_word}
use Rattle.reader_core.specs.Saying.{comma_lexeme, separated, column_says, name_says, names_say, type_says, user_says, privilege_says, privileges_from_say, option_says, statement_says}
use Rattle.printer_core.specs.declared.spacing.LastToken.{LastToken}
use Rattle.printer_core.specs.declared.spacing.Spacing.TheVariants as spacings
use Rattle.printer_core.specs.Printing.{spaced_text, gap, lexeme_text, is_parted, blank_if, as_last, at_front, minified, has_literals, HoldsProper}
use Rattle.printer_core.proofs.Spelling.{name_spells}

-- ---- tokens
-- the most bytes of a token with a blank before it, whatever its name
abbrev most : Lexeme → ℕ
most (Named n) = 31
most (Key k) = length (lexeme_text (Key k)) + 1
most (Number z) = length (lexeme_text (Number z)) + 1
most (Text t) = length (lexeme_text (Text t)) + 1
most (Sign m) = length (lexeme_text (Sign m)) + 1

token_fits : (l : Lexeme) → IsProper l → length (lexeme_text l) + 1 ≤ most l
token_fits (Named n) p = let h = name_short n n (name_spells n p).1 in omega arith
token_fits (Key k) p = omega arith
token_fits (Number z) p = omega arith
token_fits (Text t) p = omega arith
token_fits (Sign m) p = omega arith

abbrev total : List Lexeme → ℕ
total [] = 0
total (l ∷ ls) = most l + total ls

blank_fits : (b : Bool) → length (blank_if b) ≤ 1
blank_fits true = omega arith
blank_fits false = omega arith

text_fits : (last : LastToken) (ls : List Lexeme) → All IsProper ls → length (spaced_text spacings.Minified last ls) ≤ total ls
text_fits last [] p = omega arith
text_fits last (l ∷ ls) p =
    let space = gap spacings.Minified last (lexeme_text l) in
    let rest = spaced_text spacings.Minified (as_last l) ls in
    let blank : length space ≤ 1 = blank_fits (is_parted spacings.Minified last (slice_index (lexeme_text l) 0)) in
    let here = token_fits l (All-head IsProper l ls p) in
    let behind = text_fits (as_last l) ls (All-tail IsProper l ls p) in
    omega (arith, length-append space (lexeme_text l ++ rest), length-append (lexeme_text l) rest)

total-append : (xs ys : List Lexeme) → total (xs ++ ys) ≡ total xs + total ys
total-append [] ys = omega arith
total-append (x ∷ xs) ys = omega (arith, total-append xs ys)

-- ---- lists
-- all items of a list, each behind a comma
abbrev behind : {A : Type 0} → (A → List Lexeme) → List A → List Lexeme
behind says xs = flat_map (λ y. comma_lexeme ∷ says y) xs

listed_fits : {A : Type 0} (says : A → List Lexeme) (xs : List A) → total (separated comma_lexeme says xs) ≤ total (behind says xs)
listed_fits says [] = omega arith
listed_fits says (x ∷ xs) = omega (arith, total-append (says x) (behind says xs))

behind_names : (names : List Name) → total (behind name_says names) ≤ length names * 34
behind_names [] = omega arith
behind_names (n ∷ names) = omega (arith, behind_names names)

behind_users : (users : List User) → total (behind user_says users) ≤ length users * 34
behind_users [] = omega arith
behind_users (u ∷ users) = omega (arith, behind_users users)

type_fits : (t : ColType) → total (type_says t) ≤ 8
type_fits types.Integer = omega arith
type_fits types.Text = omega arith

behind_columns : (columns : List Column) → total (behind column_says columns) ≤ length columns * 42
behind_columns [] = omega arith
behind_columns (c ∷ columns) = omega (arith, total-append (column_says c) (behind column_says columns), type_fits c.ty, behind_columns columns)

-- ---- privileges
abbrev selects : List Privilege → ℕ
selects [] = 0
selects (privileges.Select columns ∷ ps) = 1 + selects ps
selects (p ∷ ps) = selects ps

abbrev updates : List Privilege → ℕ
updates [] = 0
updates (privileges.Update columns ∷ ps) = 1 + updates ps
updates (p ∷ ps) = updates ps

no_selects : (columns : Option (List Name)) (ps : List Privilege) → list_any (same_word (privileges.Select columns)) ps ≡ false → selects ps ≡ 0
no_selects columns [] e = refl
no_selects columns (privileges.Select other ∷ ps) e = cc
no_selects columns (privileges.Insert ∷ ps) e = no_selects columns ps e
no_selects columns (privileges.Delete ∷ ps) e = no_selects columns ps e
no_selects columns (privileges.Update other ∷ ps) e = no_selects columns ps e

no_updates : (columns : Option (List Name)) (ps : List Privilege) → list_any (same_word (privileges.Update columns)) ps ≡ false → updates ps ≡ 0
no_updates columns [] e = refl
no_updates columns (privileges.Update other ∷ ps) e = cc
no_updates columns (privileges.Insert ∷ ps) e = no_updates columns ps e
no_updates columns (privileges.Delete ∷ ps) e = no_updates columns ps e
no_updates columns (privileges.Select other ∷ ps) e = no_updates columns ps e

both_parts : (a b : Bool) → (not a && b) ≡ true → (a ≡ false) × (b ≡ true)
both_parts false b e = (refl, e)
both_parts true b e = cc

few_selects : (ps : List Privilege) → are_different ps ≡ true → selects ps ≤ 1
few_selects [] e = omega arith
few_selects (privileges.Select columns ∷ ps) e =
    let none = no_selects columns ps (both_parts (list_any (same_word (privileges.Select columns)) ps) (are_different ps) e).0 in
    omega arith
few_selects (privileges.Insert ∷ ps) e = few_selects ps (both_parts (list_any (same_word privileges.Insert) ps) (are_different ps) e).1
few_selects (privileges.Delete ∷ ps) e = few_selects ps (both_parts (list_any (same_word privileges.Delete) ps) (are_different ps) e).1
few_selects (privileges.Update columns ∷ ps) e = few_selects ps (both_parts (list_any (same_word (privileges.Update columns)) ps) (are_different ps) e).1

few_updates : (ps : List Privilege) → are_different ps ≡ true → updates ps ≤ 1
few_updates [] e = omega arith
few_updates (privileges.Update columns ∷ ps) e =
    let none = no_updates columns ps (both_parts (list_any (same_word (privileges.Update columns)) ps) (are_different ps) e).0 in
    omega arith
few_updates (privileges.Insert ∷ ps) e = few_updates ps (both_parts (list_any (same_word privileges.Insert) ps) (are_different ps) e).1
few_updates (privileges.Delete ∷ ps) e = few_updates ps (both_parts (list_any (same_word privileges.Delete) ps) (are_different ps) e).1
few_updates (privileges.Select columns ∷ ps) e = few_updates ps (both_parts (list_any (same_word (privileges.Select columns)) ps) (are_different ps) e).1

abbrev close : List Lexeme
close = Sign marks.Close ∷ []

names_fit : (names : List Name) → length names ≤ 32 → total (names_say names) ≤ 1088
names_fit names few = omega (arith, listed_fits name_says names, behind_names names)

bracketed_fits : (names : List Name) (rest : List Lexeme) → length names ≤ 32 → total ((names_say names ++ close) ++ rest) ≤ 1090 + total rest
bracketed_fits names rest few = omega (arith, names_fit names few, total-append (names_say names ++ close) rest, total-append (names_say names) close)

behind_privileges : (ps : List Privilege) → All IsWellFormedPrivilege ps → total (behind privilege_says ps) ≤ 1102 * (selects ps + updates ps) + 10 * length ps
behind_privileges [] h = omega arith
behind_privileges (privileges.Select None ∷ ps) h = omega (arith, behind_privileges ps (All-tail IsWellFormedPrivilege (privileges.Select None) ps h))
behind_privileges (privileges.Select (Some names) ∷ ps) h =
    let here = All-head IsWellFormedPrivilege (privileges.Select (Some names)) ps h in
    let few : length names ≤ 32 = here.0.1 in
    omega (arith, bracketed_fits names (behind privilege_says ps) few, behind_privileges ps (All-tail IsWellFormedPrivilege (privileges.Select (Some names)) ps h))
behind_privileges (privileges.Insert ∷ ps) h = omega (arith, behind_privileges ps (All-tail IsWellFormedPrivilege privileges.Insert ps h))
behind_privileges (privileges.Delete ∷ ps) h = omega (arith, behind_privileges ps (All-tail IsWellFormedPrivilege privileges.Delete ps h))
behind_privileges (privileges.Update None ∷ ps) h = omega (arith, behind_privileges ps (All-tail IsWellFormedPrivilege (privileges.Update None) ps h))
behind_privileges (privileges.Update (Some names) ∷ ps) h =
    let here = All-head IsWellFormedPrivilege (privileges.Update (Some names)) ps h in
    let few : length names ≤ 32 = here.0.1 in
    omega (arith, bracketed_fits names (behind privilege_says ps) few, behind_privileges ps (All-tail IsWellFormedPrivilege (privileges.Update (Some names)) ps h))

privileges_fit : (ps : List Privilege) → ArePrivileges ps → total (separated comma_lexeme privilege_says ps) ≤ 2244
privileges_fit ps h =
    let few : length ps ≤ 4 = h.0.1 in
    omega (arith, listed_fits privilege_says ps, behind_privileges ps h.2, few_selects ps h.1, few_updates ps h.1)

users_fit : (users : List User) → AreUsers users → total (separated comma_lexeme user_says users) ≤ 544
users_fit users h =
    let few : length users ≤ 16 = h.0.1 in
    omega (arith, listed_fits user_says users, behind_users users)

-- ---- statements
option_fits : (option : Bool) → total (option_says option) ≤ 20
option_fits true = omega arith
option_fits false = omega arith

from_fits : (ps : List Privilege) (table : Name) (users : List User) → ArePrivileges ps → AreUsers users → total (privileges_from_say ps table users) ≤ 2900
from_fits ps table users p u =
    omega (arith, privileges_fit ps p, users_fit users u, total-append (separated comma_lexeme privilege_says ps) (Key keywords.On ∷ Named table ∷ Key keywords.From ∷ separated comma_lexeme user_says users))

says_fit : (s : Statement) → IsWellFormed s → has_literals s ≡ false → total (statement_says s) ≤ 4096
says_fit (statements.CreateTable table columns) h e =
    let few : length columns ≤ 32 = h.0.1 in
    omega (arith, listed_fits column_says columns, behind_columns columns, total-append (separated comma_lexeme column_says columns) close)
says_fit (statements.Grant ps table users option) h e =
    let said = separated comma_lexeme user_says users in
    omega (
      arith,
      privileges_fit ps h.0,
      users_fit users h.1,
      option_fits option,
      total-append (separated comma_lexeme privilege_says ps) (Key keywords.On ∷ Named table ∷ Key keywords.To ∷ (said ++ option_says option)),
      total-append said (option_says option),
    )
says_fit (statements.Revoke ps table users) h e = omega (arith, from_fits ps table users h.0 h.1)
says_fit (statements.RevokeOption ps table users) h e = omega (arith, from_fits ps table users h.0 h.1)
says_fit statements.Checkpoint h e = omega arith
says_fit statements.Checkpoints h e = omega arith
says_fit _ h e = cc

-- **a statement without literals has at most 4,096 bytes**
pub plain_fits : (s : Statement) → IsWellFormed s → HoldsProper s → has_literals s ≡ false → length (minified s) ≤ 4096
plain_fits s h p e = omega (arith, text_fits at_front (statement_says s) p, says_fit s h e)
