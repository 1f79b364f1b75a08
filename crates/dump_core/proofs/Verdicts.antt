-- The verdict where what it asks for is the same.
use Rattle.std.proofs.Common.{◌≡◌, ◌+◌, true, not, ltb, leb, List, [], ◌∷◌, map, length, Some, None, Ok, Err, refl, sym, ap, ◌∙◌}
use Rattle.std.specs.Prelude.{◌==◌, slice_get, option_and_then, is_some}
use Rattle.std.specs.Option.{option_map_or, unwrap_or}
use Rattle.std.specs.List.{zip}
use Rattle.base_core.specs.Filter.{column_index}
use Rattle.base_core.specs.Privileges.{of_table, to_select, to_update}
use Rattle.base_core.specs.declared.name.Name.{Name}
use Rattle.base_core.specs.declared.name.User.{User}
use Rattle.base_core.specs.declared.value.Column.{Column}
use Rattle.base_core.specs.declared.value.Value.{Value}
use Rattle.base_core.specs.declared.condition.Condition.{Condition}
use Rattle.base_core.specs.declared.privilege.Kind.TheVariants as kinds
use Rattle.base_core.specs.declared.privilege.Atom.{Atom}
use Rattle.base_core.specs.declared.lack.Lack.TheVariants as lacks
use Rattle.base_core.specs.declared.lack.What.TheVariants as whats
use Rattle.base_core.specs.declared.limits.Limits.{Limits}
use Rattle.reader_core.specs.declared.privilege.Privilege.{Privilege}
use Rattle.reader_core.specs.declared.statement.Statement.{Statement}
use Rattle.reader_core.specs.declared.statement.Statement.TheVariants as statements
use Rattle.tables_core.specs.Contents.{column_of}
use Rattle.grants_core.specs.Content as rights
use Rattle.monitor_core.specs.Atoms.{atoms_of, columns_given, columns_listed}
use Rattle.monitor_core.specs.Verdict.{State, Check, require, first_lack, each, is_table, columns_of, atoms_at, table_stands, holds_privilege, may_filter, holds_grant_option, made_grant, gave_option, column_stands, takes, column_takes, room_for_change, room_for_grants, has_room, listed_columns_stand, checks, verdict, is_change}
use Rattle.monitor_core.proofs.Columns.{column_of_columns}

-- two states of which a verdict asks the same, but for the room for changes
pub record AskAlike (s t : State) : Type 0 where
  pub limits : s.limits ≡ t.limits
  pub tables : (name : Name) → is_table s.tables name ≡ is_table t.tables name
  pub columns : (name : Name) → columns_of s.tables name ≡ columns_of t.tables name
  pub many : length s.tables ≡ length t.tables
  pub holds : (user : User) (atom : Atom) → rights.holds s.rights.owners s.rights.in_force user atom ≡ rights.holds t.rights.owners t.rights.in_force user atom
  pub may_grant : (user : User) (atom : Atom) → rights.may_grant s.rights.owners s.rights.in_force user atom ≡ rights.may_grant t.rights.owners t.rights.in_force user atom
  pub has_made : (by user : User) (atom : Atom) → rights.has_made s.rights.in_force by user atom ≡ rights.has_made t.rights.in_force by user atom
  pub has_optioned : (by user : User) (atom : Atom) → rights.has_optioned s.rights.in_force by user atom ≡ rights.has_optioned t.rights.in_force by user atom
  pub count_of : (atom : Atom) → rights.count_of s.rights.in_force atom ≡ rights.count_of t.rights.in_force atom

-- ---- lists of checks
-- the same checks, one by one
abbrev Same : List Check → List Check → Type 0
Same [] [] = Unit {0}
Same (x ∷ xs) (y ∷ ys) = (x ≡ y) × Same xs ys
Same [] (y ∷ ys) = ⊥
Same (x ∷ xs) [] = ⊥

same_first : (xs ys : List Check) → Same xs ys → first_lack xs ≡ first_lack ys
same_first [] [] h = refl
same_first (x ∷ xs) (Ok u ∷ ys) h = ap (λ c. first_lack (c ∷ xs)) h.0 ∙ same_first xs ys h.1
same_first (x ∷ xs) (Err lack ∷ ys) h = ap (λ c. first_lack (c ∷ xs)) h.0
same_first [] (y ∷ ys) h = absurd h
same_first (x ∷ xs) [] h = absurd h

same_each : {A : Type 0} (f g : A → Check) (xs : List A) → ((x : A) → f x ≡ g x) → each xs f ≡ each xs g
same_each {A = A} f g xs h = ap first_lack (maps xs)
  where
    maps : (xs : List A) → map f xs ≡ map g xs
    maps [] = refl
    maps (x ∷ xs) = ap (λ k. k ∷ map f xs) (h x) ∙ ap (λ k. g x ∷ k) (maps xs)

-- ---- the single checks
module _ (s t : State) (h : AskAlike s t) where
  stands : (table : Name) → table_stands s table ≡ table_stands t table
  stands table = ap (λ b. require b (lacks.NoTable table)) (h.tables table)

  column : (table name : Name) → column_of s.tables table name ≡ column_of t.tables table name
  column table name =
      column_of_columns s.tables table name
      ∙ ap (λ (columns : List Column). option_and_then (slice_get columns) (column_index columns name)) (h.columns table)
      ∙ sym (column_of_columns t.tables table name)

  column_there : (table name : Name) → column_stands s table name ≡ column_stands t table name
  column_there table name = ap (λ o. require (is_some o) (lacks.NoColumn table name)) (column table name)

  column_fits : (table name : Name) (value : Value) → column_takes s table name value ≡ column_takes t table name value
  column_fits table name value = ap (λ o. option_map_or (λ c. takes c value) o (Ok tt)) (column table name)

  privilege : (user : User) (atom : Atom) → holds_privilege s user atom ≡ holds_privilege t user atom
  privilege user atom = ap (λ b. require b (lacks.NoPrivilege user atom)) (h.holds user atom)

  filters : (user : User) (table : Name) (filter : List Condition) → may_filter s user table filter ≡ may_filter t user table filter
  filters user table filter = same_each (λ c. holds_privilege s user (to_select table c.column)) (λ c. holds_privilege t user (to_select table c.column)) filter (λ c. privilege user (to_select table c.column))

  -- a check of each atom
  each_atom : (table : Name) (asked : List Privilege) (f g : Atom → Check) → ((a : Atom) → f a ≡ g a) → each (atoms_at s.tables table asked) f ≡ each (atoms_at t.tables table asked) g
  each_atom table asked f g k =
      ap (λ (columns : List Column). each (atoms_of table columns asked) f) (h.columns table)
      ∙ same_each f g (atoms_at t.tables table asked) k

  columns_there : (table : Name) (asked : List Privilege) → listed_columns_stand s table asked ≡ listed_columns_stand t table asked
  columns_there table asked = same_each (λ p. each (columns_listed p) (column_stands s table)) (λ p. each (columns_listed p) (column_stands t table)) asked (λ p. same_each (column_stands s table) (column_stands t table) (columns_listed p) (column_there table))

  grants_fit : (users : List User) (atom : Atom) → room_for_grants s users atom ≡ room_for_grants t users atom
  unfolding has_room
  grants_fit users atom =
      ap (λ n. require (leb (n + length users) s.limits.grants) (lacks.Full whats.Grants)) (h.count_of atom)
      ∙ ap (λ (l : Limits). require (leb (rights.count_of t.rights.in_force atom + length users) l.grants) (lacks.Full whats.Grants)) h.limits

  -- with room for changes alike, where the statement is a change
  same_checks : (user : User) (asked : Statement) → (is_change asked ≡ true → room_for_change s ≡ room_for_change t) → Same (checks s user asked) (checks t user asked)
  same_checks user (statements.CreateTable table columns) room = (
    ap (λ b. require (not b) (lacks.TableExists table)) (h.tables table),
    (
      room refl,
      (
        ap (λ n. require (ltb n s.limits.tables) (lacks.Full whats.Tables)) h.many ∙ ap (λ (l : Limits). require (ltb (length t.tables) l.tables) (lacks.Full whats.Tables)) h.limits,
        tt,
      ),
    ),
  )
  same_checks user (statements.Insert table values) room = (
    stands table,
    (
      privilege user (of_table table kinds.Insert),
      (
        ap (λ (columns : List Column). require (length values == length columns) (lacks.WrongCount (length values) (length columns))) (h.columns table),
        (
          ap (λ (columns : List Column). each (zip columns values) (λ pair. takes pair.0 pair.1)) (h.columns table),
          (
            room refl,
            tt,
          ),
        ),
      ),
    ),
  )
  same_checks user (statements.Select list table filter) room = (
    stands table,
    (
      same_each (column_stands s table) (column_stands t table) (unwrap_or list []) (column_there table),
      (
        same_each (λ c. column_stands s table c.column) (λ c. column_stands t table c.column) filter (λ c. column_there table c.column),
        (
          ap (λ (columns : List Column). each (columns_given columns list) (λ name. holds_privilege s user (to_select table name))) (h.columns table)
              ∙ same_each (λ name. holds_privilege s user (to_select table name)) (λ name. holds_privilege t user (to_select table name)) (columns_given (columns_of t.tables table) list) (λ name. privilege user (to_select table name)),
          (
            filters user table filter,
            (
              same_each (λ c. column_takes s table c.column c.literal) (λ c. column_takes t table c.column c.literal) filter (λ c. column_fits table c.column c.literal),
              tt,
            ),
          ),
        ),
      ),
    ),
  )
  same_checks user (statements.Delete table filter) room = (
    stands table,
    (
      same_each (λ c. column_stands s table c.column) (λ c. column_stands t table c.column) filter (λ c. column_there table c.column),
      (
        privilege user (of_table table kinds.Delete),
        (
          filters user table filter,
          (
            same_each (λ c. column_takes s table c.column c.literal) (λ c. column_takes t table c.column c.literal) filter (λ c. column_fits table c.column c.literal),
            (
              room refl,
              tt,
            ),
          ),
        ),
      ),
    ),
  )
  same_checks user (statements.Update table sets filter) room = (
    stands table,
    (
      same_each (λ a. column_stands s table a.column) (λ a. column_stands t table a.column) sets (λ a. column_there table a.column),
      (
        same_each (λ c. column_stands s table c.column) (λ c. column_stands t table c.column) filter (λ c. column_there table c.column),
        (
          same_each (λ a. holds_privilege s user (to_update table a.column)) (λ a. holds_privilege t user (to_update table a.column)) sets (λ a. privilege user (to_update table a.column)),
          (
            filters user table filter,
            (
              same_each (λ a. column_takes s table a.column a.value) (λ a. column_takes t table a.column a.value) sets (λ a. column_fits table a.column a.value),
              (
                same_each (λ c. column_takes s table c.column c.literal) (λ c. column_takes t table c.column c.literal) filter (λ c. column_fits table c.column c.literal),
                (
                  room refl,
                  tt,
                ),
              ),
            ),
          ),
        ),
      ),
    ),
  )
  same_checks user (statements.Grant asked table users option) room = (
    stands table,
    (
      columns_there table asked,
      (
        each_atom table asked (holds_grant_option s user) (holds_grant_option t user) (λ a. ap (λ b. require b (lacks.NoGrantOption user a)) (h.may_grant user a)),
        (
          room refl,
          (
            each_atom table asked (room_for_grants s users) (room_for_grants t users) (grants_fit users),
            tt,
          ),
        ),
      ),
    ),
  )
  same_checks user (statements.Revoke asked table users) room = (
    stands table,
    (
      columns_there table asked,
      (
        each_atom table asked (λ a. each users (made_grant s user a)) (λ a. each users (made_grant t user a))
            (λ a. same_each (made_grant s user a) (made_grant t user a) users (λ u. ap (λ b. require b (lacks.NoGrant user u a)) (h.has_made user u a))),
        (
          room refl,
          tt,
        ),
      ),
    ),
  )
  same_checks user (statements.RevokeOption asked table users) room = (
    stands table,
    (
      columns_there table asked,
      (
        each_atom table asked (λ a. each users (gave_option s user a)) (λ a. each users (gave_option t user a))
            (λ a. same_each (gave_option s user a) (gave_option t user a) users (λ u. ap (λ b. require b (lacks.NoOptionGiven user u a)) (h.has_optioned user u a))),
        (
          room refl,
          tt,
        ),
      ),
    ),
  )
  same_checks user statements.Checkpoint room = tt
  same_checks user statements.Checkpoints room = tt
  same_checks user (statements.Export number None) room = tt
  same_checks user (statements.Export number (Some table)) room = (stands table, tt)

  -- **the verdicts are the same**
  pub verdict-alike : (user : User) (asked : Statement) → (is_change asked ≡ true → room_for_change s ≡ room_for_change t) → verdict s user asked ≡ verdict t user asked
  verdict-alike user asked room = same_first (checks s user asked) (checks t user asked) (same_checks user asked room)
