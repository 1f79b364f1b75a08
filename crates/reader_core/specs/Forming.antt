-- What a statement may be: how many items its lists have, and that they are different.
use Rattle.std.specs.Prelude.{◌≡◌, ◌<◌, ◌≤◌, ◌^◌, ℕ, true, List, length, map, All, Option, Some, None}
use Rattle.base_core.specs.Distinct.{are_distinct}
use Rattle.base_core.specs.declared.name.Name.{Name}
use Rattle.base_core.specs.declared.name.User.{User}
use Rattle.reader_core.specs.declared.privilege.Privilege.{Privilege}
use Rattle.reader_core.specs.declared.statement.Statement.{Statement}
use Rattle.reader_core.specs.declared.statement.Statement.TheVariants as statements
use Rattle.reader_core.specs.Privileges.{are_different}
use Rattle.reader_core.specs.Saying.{privilege_columns}

abbrev pub IsShort : {A : Type 0} → ℕ → List A → Type 0
IsShort limit xs = (0 < length xs) × (length xs ≤ limit)

-- so many, and with different names
abbrev pub AreNamed : {A : Type 0} → ℕ → (A → List ℕ) → List A → Type 0
AreNamed limit name_of xs = IsShort limit xs × (are_distinct (map name_of xs) ≡ true)

-- all columns, or 1 to 32 different ones
abbrev pub IsSelection : Option (List Name) → Type 0
IsSelection None = Unit {0}
IsSelection (Some names) = AreNamed 32 (λ n. n) names

-- a privilege whose columns may be listed
abbrev pub IsWellFormedPrivilege : Privilege → Type 0
IsWellFormedPrivilege p = IsSelection (privilege_columns p)

-- with different words, and each with columns as they may be
abbrev pub ArePrivileges : List Privilege → Type 0
ArePrivileges ps = IsShort 4 ps × (are_different ps ≡ true) × All IsWellFormedPrivilege ps

-- 1 to 16 different users
abbrev pub AreUsers : List User → Type 0
AreUsers users = AreNamed 16 (λ u. u.0) users

-- what a statement may be
abbrev pub IsWellFormed : Statement → Type 0
IsWellFormed (statements.CreateTable table columns) = AreNamed 32 (λ c. c.name) columns
IsWellFormed (statements.Insert table values) = IsShort 32 values
IsWellFormed (statements.Select list table filter) = IsSelection list × (length filter ≤ 32)
IsWellFormed (statements.Delete table filter) = length filter ≤ 32
IsWellFormed (statements.Update table sets filter) =
    AreNamed 32 (λ a. a.column) sets × (length filter ≤ 32)
IsWellFormed (statements.Grant privileges table users option) =
    ArePrivileges privileges × AreUsers users
IsWellFormed (statements.Revoke privileges table users) = ArePrivileges privileges × AreUsers users
IsWellFormed (statements.RevokeOption privileges table users) =
    ArePrivileges privileges × AreUsers users
IsWellFormed statements.Checkpoint = Unit {0}
IsWellFormed statements.Checkpoints = Unit {0}
IsWellFormed (statements.Export number only) = (1 ≤ number) × (number < 2 ^ 63)
