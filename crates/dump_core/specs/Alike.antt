-- When two journals leave the same, but for the numbers of rows and grants, and moments of grants.
use Rattle.std.specs.Prelude.{◌≡◌, List, map}
use Rattle.base_core.specs.declared.name.Name.{Name}
use Rattle.tables_core.specs.Contents.{Table}
use Rattle.grants_core.specs.declared.grant.Grant.{Grant}
use Rattle.system_core.specs.declared.machine.event.Entry.{Entry}
use Rattle.system_core.specs.Journal.{tables_at, rights_at}

-- a table without the numbers of its rows: its owner, its columns, and its rows in order
abbrev pub unnumbered : Table → Table
unnumbered t = record t { inserted = 0; rows = map (λ numbered. (0, numbered.1)) t.rows }

-- the tables, each under its name, without the numbers of their rows
abbrev pub plain_tables : List (Name × Table) → List (Name × Table)
plain_tables tables = map (λ t. (t.0, unnumbered t.1)) tables

-- a grant without its number and its moment: atom, grantor, grantee and option
abbrev pub undated : Grant → Grant
undated g = record g { number = 0; moment = record { 0 = 0 } }

-- the grants, in order, without their numbers and moments
abbrev pub plain_grants : List Grant → List Grant
plain_grants grants = map undated grants

-- two journals leave the same tables in the same order, with the same rows in the same order, and
-- the same grants in force in the same order
pub record AreAlike (a b : List Entry) : Type 0 where
  pub tables : plain_tables (tables_at a) ≡ plain_tables (tables_at b)
  pub grants : plain_grants (rights_at a).in_force ≡ plain_grants (rights_at b).in_force
