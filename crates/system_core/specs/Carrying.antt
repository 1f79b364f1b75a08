-- What a change needs of the tables and of the rights, and what it makes of the rights.
use Rattle.std.specs.Prelude.{ℕ, ◌≡◌, ◌⊎◌, ◌+◌, ◌<◌, ◌≤◌, ◌^◌, true, false, List, length, All, None, IsSome, IsSomeAnd}
use Rattle.base_core.specs.declared.name.Name.{Name}
use Rattle.base_core.specs.declared.name.User.{User}
use Rattle.base_core.specs.declared.privilege.Atom.{Atom}
use Rattle.reader_core.specs.declared.statement.Statement.{Statement}
use Rattle.reader_core.specs.declared.statement.Statement.TheVariants as statements
use Rattle.tables_core.specs.Contents.{Table, table_of}
use Rattle.tables_core.specs.Fitting.{ValuesFit, AssignmentsFit}
use Rattle.grants_core.specs.declared.grant.Change.{Change}
use Rattle.grants_core.specs.declared.grant.Change.TheVariants as change
use Rattle.grants_core.specs.Owners.{was_granted}
use Rattle.grants_core.specs.Content.{Rights, may_grant, after_create, after_grant, after_revoke, after_revoke_option}
use Rattle.monitor_core.specs.Verdict.{atoms_at, columns_of}

-- the rights after a change, of which the moment before it is given
abbrev pub rights_after : Rights → ℕ → Change → Rights
rights_after rights moment (change.Create table owner) = after_create rights table owner
rights_after rights moment (change.Grant by atoms whom option) =
    after_grant rights by atoms whom option (record { 0 = moment + 1 })
rights_after rights moment (change.Revoke by atoms whom) = after_revoke rights by atoms whom
rights_after rights moment (change.RevokeOption by atoms whom) =
    after_revoke_option rights by atoms whom
rights_after rights moment change.Other = rights

-- the most columns of a table
abbrev pub most_columns : ℕ
most_columns = 32

-- the most single grants of one statement: 4 privileges of 32 columns each, to 16 users
abbrev pub most_grants : ℕ
most_grants = 2048

-- these atoms may be granted after this moment: by one who may, later than what is in force, with numbers
-- left for them
pub record CanGrant (rights : Rights) (moment : ℕ) (user : User) (atoms : List Atom) : Type 0 where
  pub may : All (λ atom. may_grant rights.owners rights.in_force user atom ≡ true) atoms
  pub later : All (λ g. g.moment.0 < moment + 1) rights.in_force
  pub numbers : rights.made + most_grants ≤ 2 ^ 63

-- what a change needs
abbrev pub CanCarry : List (Name × Table) → Rights → ℕ → User → Statement → Type 0
CanCarry tables rights moment user (statements.CreateTable table columns) =
    (table_of tables table ≡ None) × (was_granted rights.owners table ≡ false)
CanCarry tables rights moment user (statements.Insert table values) =
    IsSomeAnd (table_of tables table) (λ t. t.inserted < 2 ^ 63)
    × IsSomeAnd (table_of tables table) (λ t. ValuesFit t.columns values)
CanCarry tables rights moment user (statements.Delete table filter) = IsSome (table_of tables table)
CanCarry tables rights moment user (statements.Update table sets filter) =
    IsSomeAnd (table_of tables table) (λ t. AssignmentsFit t.columns sets)
CanCarry tables rights moment user (statements.Grant privileges table users option) =
    CanGrant rights moment user (atoms_at tables table privileges)
    × (length (columns_of tables table) ≤ most_columns)
CanCarry tables rights moment user (statements.Revoke privileges table users) =
    length (columns_of tables table) ≤ most_columns
CanCarry tables rights moment user (statements.RevokeOption privileges table users) =
    length (columns_of tables table) ≤ most_columns
CanCarry tables rights moment user (statements.Select list table filter) = ⊥
CanCarry tables rights moment user statements.Checkpoint = ⊥
CanCarry tables rights moment user statements.Checkpoints = ⊥
CanCarry tables rights moment user (statements.Export number only) = ⊥

-- what a change that found no memory may leave of the rights: a creation may leave an owner of the name
abbrev pub MayLeave : Rights → Change → Rights → Type 0
MayLeave rights (change.Create table owner) new =
    (new ≡ rights) ⊎ (new ≡ after_create rights table owner)
MayLeave rights (change.Grant by atoms whom option) new = new ≡ rights
MayLeave rights (change.Revoke by atoms whom) new = new ≡ rights
MayLeave rights (change.RevokeOption by atoms whom) new = new ≡ rights
MayLeave rights change.Other new = new ≡ rights

-- a new table has few columns
abbrev pub HasFewColumns : Statement → Type 0
HasFewColumns (statements.CreateTable table columns) = length columns ≤ most_columns
HasFewColumns _ = Unit {0}
