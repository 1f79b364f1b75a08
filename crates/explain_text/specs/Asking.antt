-- What a question asks, once its words are read.
use Rattle.std.specs.Prelude.{◌≡◌, ℕ, Bool, true, not, is_some, option_map, List, [], ◌∷◌, codes, Option, Some, None}
use Rattle.std.specs.List.{list_all, list_any}
use Rattle.base_core.specs.Words.{name_of}
use Rattle.base_core.specs.declared.name.Name.{Name}
use Rattle.base_core.specs.declared.name.User.{User}
use Rattle.base_core.specs.declared.privilege.Atom.{Atom}
use Rattle.reader_core.specs.Language.{Spells}
use Rattle.reader_core.specs.declared.privilege.Privilege.{Privilege}
use Rattle.reader_core.specs.declared.statement.Statement.TheVariants as statements
use Rattle.tables_core.specs.Contents.{Table, table_of}
use Rattle.grants_core.specs.Owners.{owns}
use Rattle.grants_core.specs.declared.grant.Change.{Change}
use Rattle.grants_core.specs.History.{owners_after}
use Rattle.grants_core.specs.Noted.{may_grant_after}
use Rattle.monitor_core.specs.Atoms.{atoms_of_one}
use Rattle.monitor_core.specs.Verdict.{columns_of}
use Rattle.reply_core.specs.Texts.{joined}
use Rattle.explain_core.specs.Chains.{holds_after}
use Rattle.explain_words.specs.Atoms.{all_atoms}
use Rattle.explain_text.specs.declared.question.Question.{Question}
use Rattle.explain_text.specs.declared.question.Question.TheVariants as questions
use Rattle.explain_text.specs.declared.asked.Asked.{Asked}
use Rattle.explain_text.specs.declared.asked.Asked.TheVariants as asks

-- the sentence that grants what the words say on the table, to a user of its name
abbrev pub granting_sentence : List ℕ → Name → List ℕ
granting_sentence words table =
    joined (codes "GRANT " ∷ words ∷ codes " ON " ∷ table ∷ codes " TO " ∷ table ∷ [])

-- the sentence that grants what the words say is one of a single privilege, and these are its atoms on the table
abbrev pub NameAtoms : List (Name × Table) → Name → List ℕ → List Atom → Type 0
NameAtoms tables table words atoms =
    (privilege : Privilege) × (on : Name) × (users : List User) × (option : Bool)
    × Spells (granting_sentence words table) (statements.Grant (privilege ∷ []) on users option)
    × (atoms ≡ atoms_of_one table (columns_of tables table) privilege)

-- the word names a table that stands
abbrev pub NamesTable : List (Name × Table) → List ℕ → Name → Type 0
NamesTable tables word table =
    (name_of word ≡ Some table) × (is_some (table_of tables table) ≡ true)

-- the words name this user, this table, and these atoms on it
abbrev pub NameHolding : List (Name × Table) → List ℕ → List ℕ → List ℕ → User → Name → List Atom → Type 0
NameHolding tables user_word words table_word user table atoms =
    (name_of user_word ≡ Some user.0)
    × NamesTable tables table_word table × NameAtoms tables table words atoms

-- the atoms that are asked of a table: those that the words name, or all
abbrev pub NameAsked : List (Name × Table) → Name → Option (List ℕ) → List Atom → Type 0
NameAsked tables table (Some words) atoms = NameAtoms tables table words atoms
NameAsked tables table None atoms = atoms ≡ all_atoms table (columns_of tables table)

-- what a question asks at these tables, by its words
abbrev pub IsAsked : List (Name × Table) → Question → Asked → Type 0
IsAsked tables (questions.Why u words t) (asks.Why user table atoms) =
    NameHolding tables u.now words.now t.now user table atoms.items
IsAsked tables (questions.Why u words t) _ = ⊥
IsAsked tables (questions.Who t words) (asks.Who table atoms) =
    NamesTable tables t.now table
    × NameAsked tables table (option_map (λ w. w.now) words) atoms.items
IsAsked tables (questions.Who t words) _ = ⊥
IsAsked tables questions.Rights asked = asked ≡ asks.Rights
IsAsked tables questions.Fell asked = asked ≡ asks.Fell
IsAsked tables questions.Grants asked = asked ≡ asks.Grants
IsAsked tables (questions.If line) asked = asked ≡ asks.If
IsAsked tables (questions.Cut u words t) (asks.Cut user table atoms) =
    NameHolding tables u.now words.now t.now user table atoms.items
IsAsked tables (questions.Cut u words t) _ = ⊥
IsAsked tables (questions.Can u words t) (asks.Can user table atoms) =
    NameHolding tables u.now words.now t.now user table atoms.items
IsAsked tables (questions.Can u words t) _ = ⊥
IsAsked tables (questions.Diff at) asked = asked ≡ asks.Diff (record { 0 = at })

-- whether the answer to what is asked is yes: that he holds all of it; of what would take it, that he does not
-- own it; of whom he could give it to, that he may grant all of it; and any other question has no no
abbrev pub is_yes : List Change → Asked → Bool
is_yes changes (asks.Why user table atoms) = list_all (holds_after changes user) atoms.items
is_yes changes (asks.Who table atoms) = true
is_yes changes asks.Rights = true
is_yes changes asks.Fell = true
is_yes changes asks.Grants = true
is_yes changes asks.If = true
is_yes changes (asks.Diff at) = true
is_yes changes (asks.Can user table atoms) = list_all (may_grant_after changes user) atoms.items
is_yes changes (asks.Cut user table atoms) =
    not (list_any (owns (owners_after changes) user) atoms.items)
