-- No check finds that memory was refused, or that turns are worn.
use Rattle.std.proofs.Common.{◌≡◌, Bool, true, false, List, [], ◌∷◌, map, Ok, Err, Option, Some, None, subst}
use Rattle.std.specs.List.{AllByRecursion, zip}
use Rattle.std.specs.Option.{option_map_or, unwrap_or}
use Rattle.base_core.specs.Values.{has_type}
use Rattle.base_core.specs.declared.name.Name.{Name}
use Rattle.base_core.specs.declared.name.User.{User}
use Rattle.base_core.specs.declared.value.Column.{Column}
use Rattle.base_core.specs.declared.value.Value.{Value}
use Rattle.base_core.specs.declared.condition.Condition.{Condition}
use Rattle.base_core.specs.declared.lack.Lack.{Lack}
use Rattle.base_core.specs.declared.lack.Lack.TheVariants as lacks
use Rattle.reader_core.specs.declared.statement.Statement.{Statement}
use Rattle.reader_core.specs.declared.statement.Statement.TheVariants as statements
use Rattle.tables_core.specs.Contents.{column_of}
use Rattle.base_core.specs.Privileges.{to_select, to_update}
use Rattle.monitor_core.specs.Atoms.{columns_given, columns_listed}
use Rattle.monitor_core.specs.Verdict.{State, Check, require, first_lack, each, takes, column_takes, column_stands, may_filter, columns_of, atoms_at, holds_privilege, holds_grant_option, made_grant, gave_option, room_for_grants, checks, verdict}

-- a check that finds neither
abbrev pub Sound : Check → Type 0
Sound (Ok _) = Unit {0}
Sound (Err lacks.NoMemory) = ⊥
Sound (Err lacks.Worn) = ⊥
Sound (Err _) = Unit {0}

pub sound-require : (b : Bool) (lack : Lack) → Sound (Err lack) → Sound (require b lack)
sound-require true lack h = tt
sound-require false lack h = h

pub sound-first : (all : List Check) → AllByRecursion Sound all → Sound (first_lack all)
sound-first [] h = tt
sound-first (Ok u ∷ more) h = sound-first more h.1
sound-first (Err lack ∷ more) h = h.0

sound-each : {A : Type 0} (xs : List A) (check : A → Check) → ((x : A) → Sound (check x)) → Sound (each xs check)
sound-each {A = A} xs check h = sound-first (map check xs) (all xs)
  where
    all : (xs : List A) → AllByRecursion Sound (map check xs)
    all [] = tt
    all (x ∷ xs) = (h x, all xs)

sound-takes : (column : Column) (value : Value) → Sound (takes column value)
sound-takes column value = sound-require (has_type value column.ty) (lacks.WrongType column.name column.ty) tt

sound-column_takes : (s : State) (table name : Name) (value : Value) → Sound (column_takes s table name value)
sound-column_takes s table name value = by_column (column_of s.tables table name)
  where
    by_column : (found : Option Column) → Sound (option_map_or (λ column. takes column value) found (Ok tt))
    by_column None = tt
    by_column (Some column) = sound-takes column value

sound-may_filter : (s : State) (user : User) (table : Name) (filter : List Condition) → Sound (may_filter s user table filter)
sound-may_filter s user table filter = sound-each filter (λ c. holds_privilege s user (to_select table c.column)) (λ c. sound-require _ _ tt)

sound-listed : (s : State) (table : Name) (names : List Name) → Sound (each names (column_stands s table))
sound-listed s table names = sound-each names (column_stands s table) (λ name. sound-require _ _ tt)

pub sound : (s : State) (user : User) (asked : Statement) → AllByRecursion Sound (checks s user asked)
sound s user (statements.CreateTable table columns) = (sound-require _ _ tt, (sound-require _ _ tt, (sound-require _ _ tt, tt)))
sound s user (statements.Insert table values) =
    (sound-require _ _ tt, (sound-require _ _ tt, (sound-require _ _ tt, (sound-each (zip (columns_of s.tables table) values) (λ pair. takes pair.0 pair.1) (λ pair. sound-takes pair.0 pair.1), (sound-require _ _ tt, tt)))))
sound s user (statements.Select list table filter) =
    (sound-require _ _ tt, (sound-listed s table (unwrap_or list []), (sound-each filter (λ c. column_stands s table c.column) (λ c. sound-require _ _ tt), (sound-each (columns_given (columns_of s.tables table) list) (λ column. holds_privilege s user (to_select table column)) (λ column. sound-require _ _ tt), (sound-may_filter s user table filter, (sound-each filter (λ c. column_takes s table c.column c.literal) (λ c. sound-column_takes s table c.column c.literal), tt))))))
sound s user (statements.Delete table filter) =
    (sound-require _ _ tt, (sound-each filter (λ c. column_stands s table c.column) (λ c. sound-require _ _ tt), (sound-require _ _ tt, (sound-may_filter s user table filter, (sound-each filter (λ c. column_takes s table c.column c.literal) (λ c. sound-column_takes s table c.column c.literal), (sound-require _ _ tt, tt))))))
sound s user (statements.Update table sets filter) =
    (sound-require _ _ tt, (sound-each sets (λ a. column_stands s table a.column) (λ a. sound-require _ _ tt), (sound-each filter (λ c. column_stands s table c.column) (λ c. sound-require _ _ tt), (sound-each sets (λ a. holds_privilege s user (to_update table a.column)) (λ a. sound-require _ _ tt), (sound-may_filter s user table filter, (sound-each sets (λ a. column_takes s table a.column a.value) (λ a. sound-column_takes s table a.column a.value), (sound-each filter (λ c. column_takes s table c.column c.literal) (λ c. sound-column_takes s table c.column c.literal), (sound-require _ _ tt, tt))))))))
sound s user (statements.Grant privileges table users option) =
    (sound-require _ _ tt, (sound-each privileges (λ p. each (columns_listed p) (column_stands s table)) (λ p. sound-listed s table (columns_listed p)), (sound-each (atoms_at s.tables table privileges) (holds_grant_option s user) (λ atom. sound-require _ _ tt), (sound-require _ _ tt, (sound-each (atoms_at s.tables table privileges) (room_for_grants s users) (λ atom. sound-require _ _ tt), tt)))))
sound s user (statements.Revoke privileges table users) =
    (sound-require _ _ tt, (sound-each privileges (λ p. each (columns_listed p) (column_stands s table)) (λ p. sound-listed s table (columns_listed p)), (sound-each (atoms_at s.tables table privileges) (λ atom. each users (made_grant s user atom)) (λ atom. sound-each users (made_grant s user atom) (λ to. sound-require _ _ tt)), (sound-require _ _ tt, tt))))
sound s user (statements.RevokeOption privileges table users) =
    (sound-require _ _ tt, (sound-each privileges (λ p. each (columns_listed p) (column_stands s table)) (λ p. sound-listed s table (columns_listed p)), (sound-each (atoms_at s.tables table privileges) (λ atom. each users (gave_option s user atom)) (λ atom. sound-each users (gave_option s user atom) (λ to. sound-require _ _ tt)), (sound-require _ _ tt, tt))))
sound s user statements.Checkpoint = tt
sound s user statements.Checkpoints = tt
sound s user (statements.Export number None) = tt
sound s user (statements.Export number (Some table)) = (sound-require _ _ tt, tt)

-- **no verdict is that memory was refused**
pub verdict-not_NoMemory : (s : State) (user : User) (asked : Statement) → verdict s user asked ≡ Err lacks.NoMemory → ⊥
verdict-not_NoMemory s user asked e = subst Sound e (sound-first (checks s user asked) (sound s user asked))
