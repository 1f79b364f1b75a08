-- The grammar of statements: each rule is a function of what may follow it.
use Rattle.std.specs.Prelude.{ℕ, Bool, true, false, List, [], map}
use Rattle.base_core.specs.declared.keyword.Keyword.{Keyword}
use Rattle.base_core.specs.declared.keyword.Keyword.TheVariants as keywords
use Rattle.base_core.specs.declared.name.Name.{Name}
use Rattle.lexer_core.specs.declared.token.TokenKind.{TokenKind}
use Rattle.lexer_core.specs.declared.token.TokenKind.TheVariants as kinds
use Rattle.lexer_core.specs.declared.token.Mark.TheVariants as marks
use Rattle.reader_core.specs.declared.privilege.PrivilegeWord.{PrivilegeWord}
use Rattle.reader_core.specs.declared.privilege.PrivilegeWord.TheVariants as words
use Rattle.reader_core.specs.Grammar.{Grammar, End, One, Case, Items, Rule, Key, Sign, AnyName, AnyLiteral, AnyType, AnyTest, AtLeastOne}

-- items with commas between them: how many at most, and whether their first tokens differ
abbrev pub comma_separated : ℕ → Bool → Rule
comma_separated n d = record { limit = n; distinct = d; separator = Sign marks.Comma }

-- items that begin with different names
abbrev pub names_rule : ℕ → Rule
names_rule n = comma_separated n true

-- the first tokens of such items
abbrev pub first_names : {A : Type 0} → (A → Name) → List A → List TokenKind
first_names name_of xs = map (λ x. kinds.Name (name_of x)) xs

-- where the next token begins the first, that; otherwise the second
abbrev pub either : Grammar → Grammar → Grammar
either (One c a) b = Case c a b
either _ b = b

-- where the next token begins the first, that, and then what follows in any case
abbrev pub optional : (Grammar → Grammar) → Grammar → Grammar
optional g k = either (g k) k

-- a name in a list
abbrev pub name_item : Grammar
name_item = One AnyName End

-- name { "," name }, with different names
abbrev pub name_list : ℕ → Grammar → Grammar
name_list limit k = Items (names_rule limit) [] name_item k

-- column = name ( INTEGER | TEXT )
abbrev pub column_item : Grammar
column_item = One AnyName (One AnyType End)

-- literal = number | text
abbrev pub literal_item : Grammar
literal_item = One AnyLiteral End

-- create = CREATE TABLE name "(" column { "," column } ")"
abbrev pub create : Grammar → Grammar
create k =
    One (Key keywords.Create) (One (Key keywords.Table) (One AnyName
    (One (Sign marks.Open) (Items (names_rule 32) [] column_item (One (Sign marks.Close) k)))))

-- insert = INSERT INTO name VALUES "(" literal { "," literal } ")"
abbrev pub insert : Grammar → Grammar
insert k =
    One (Key keywords.Insert) (One (Key keywords.Into) (One AnyName (One (Key keywords.Values)
    (One (Sign marks.Open)
    (Items (comma_separated 32 false) [] literal_item (One (Sign marks.Close) k))))))

-- cond = name ( "=" | "<>" | "<" | "<=" | ">" | ">=" ) literal
abbrev pub condition_item : Grammar
condition_item = One AnyName (One AnyTest (One AnyLiteral End))

-- at most 32 conditions, whose columns need not differ
abbrev pub conditions_rule : Rule
conditions_rule = record { limit = 32; distinct = false; separator = Key keywords.And }

-- filter = WHERE cond { AND cond }
abbrev pub filter : Grammar → Grammar
filter k = One (Key keywords.Where) (Items conditions_rule [] condition_item k)

-- "*" | name { "," name }
abbrev pub selection : Grammar → Grammar
selection k = either (One (Sign marks.Star) k) (name_list 32 k)

-- FROM name [ filter ]
abbrev pub from_table : Grammar → Grammar
from_table k = One (Key keywords.From) (One AnyName (optional filter k))

-- select = SELECT ( "*" | name { "," name } ) FROM name [ filter ]
abbrev pub select : Grammar → Grammar
select k = One (Key keywords.Select) (selection (from_table k))

-- delete = DELETE FROM name [ filter ]
abbrev pub delete : Grammar → Grammar
delete k = One (Key keywords.Delete) (from_table k)

-- set = name "=" literal
abbrev pub set_item : Grammar
set_item = One AnyName (One (Sign marks.Equal) (One AnyLiteral End))

-- update = UPDATE name SET set { "," set } [ filter ]
abbrev pub update : Grammar → Grammar
update k =
    One (Key keywords.Update) (One AnyName (One (Key keywords.Set)
    (Items (names_rule 32) [] set_item (optional filter k))))

-- in_brackets = "(" name { "," name } ")"
abbrev pub in_brackets : Grammar → Grammar
in_brackets k = One (Sign marks.Open) (name_list 32 (One (Sign marks.Close) k))

-- a privilege that may be limited to columns
abbrev pub by_column : Keyword → Grammar
by_column word = One (Key word) (optional in_brackets End)

-- priv = SELECT [ in_brackets ] | INSERT | DELETE | UPDATE [ in_brackets ]
abbrev pub privilege_item : Grammar
privilege_item =
    either (by_column keywords.Select)
    (either (One (Key keywords.Insert) End)
    (either (One (Key keywords.Delete) End)
    (by_column keywords.Update)))

-- what may stand behind a privilege's word
abbrev pub behind_word : PrivilegeWord → Grammar → Grammar
behind_word words.Select k = optional in_brackets k
behind_word words.Insert k = k
behind_word words.Delete k = k
behind_word words.Update k = optional in_brackets k

-- no word twice, so that a fifth privilege is never just one too many
abbrev pub privileges_rule : Rule
privileges_rule = comma_separated 4 true

-- privs = priv { "," priv }, and then ON name
abbrev pub privileges_on : Grammar → Grammar
privileges_on k = Items privileges_rule [] privilege_item (One (Key keywords.On) (One AnyName k))

-- WITH GRANT OPTION
abbrev pub grant_option : Grammar → Grammar
grant_option k = One (Key keywords.With) (One (Key keywords.Grant) (One (Key keywords.Option) k))

-- grant = GRANT privs ON name TO users [ WITH GRANT OPTION ], users = name { "," name }
abbrev pub grant : Grammar → Grammar
grant k =
    One (Key keywords.Grant) (privileges_on
    (One (Key keywords.To) (name_list 16 (optional grant_option k))))

-- GRANT OPTION FOR
abbrev pub grant_option_for : Grammar → Grammar
grant_option_for k =
    One (Key keywords.Grant) (One (Key keywords.Option) (One (Key keywords.For) k))

-- privs ON name FROM users
abbrev pub privileges_from : Grammar → Grammar
privileges_from k = privileges_on (One (Key keywords.From) (name_list 16 k))

-- revoke = REVOKE [ GRANT OPTION FOR ] privs ON name FROM users
abbrev pub revoke : Grammar → Grammar
revoke k = One (Key keywords.Revoke) (optional grant_option_for (privileges_from k))

-- checkpoint = CHECKPOINT
abbrev pub checkpoint : Grammar → Grammar
checkpoint k = One (Key keywords.Checkpoint) k

-- list = CHECKPOINTS
abbrev pub checkpoints : Grammar → Grammar
checkpoints k = One (Key keywords.Checkpoints) k

-- ONLY name
abbrev pub only_table : Grammar → Grammar
only_table k = One (Key keywords.Only) (One AnyName k)

-- export = EXPORT number [ ONLY name ], the number being at least 1
abbrev pub export : Grammar → Grammar
export k = One (Key keywords.Export) (One AtLeastOne (optional only_table k))

-- body = create | insert | select | delete | update | grant | revoke | checkpoint | list | export
abbrev pub body : Grammar → Grammar
body k =
    either (create k) (either (insert k) (either (select k) (either (delete k) (either (update k)
    (either (grant k) (either (revoke k)
    (either (checkpoint k) (either (checkpoints k) (export k)))))))))

-- [ ";" ]
abbrev pub finish : Grammar
finish = Case (Sign marks.Semicolon) End End

-- statement = body [ ";" ]
abbrev pub statement : Grammar
statement = body finish
