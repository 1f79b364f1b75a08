-- How the writing of a dump ends.
use Rattle.std.specs.Prelude.{◌≡◌, ◌<◌, ◌+◌, ℕ, Bool, true, false, List, [], ◌∷◌, ◌++◌, map, length, Option, Result, Ok, Err}
use Rattle.std.specs.List.{AllByRecursion, flat_map}
use Rattle.std.specs.Io.KnownBytes.{Appends}
use Rattle.base_core.specs.Streams.{WritesFront}
use Rattle.base_core.specs.Words.{IsName}
use Rattle.base_core.specs.declared.name.Name.{Name}
use Rattle.base_core.specs.declared.name.User.{User}
use Rattle.base_core.specs.declared.value.Row.{Row}
use Rattle.tables_core.specs.Contents.{Table}
use Rattle.reader_core.specs.Language.{Spells}
use Rattle.printer_core.specs.Printing.{minified}
use Rattle.system_core.specs.declared.machine.event.Entry.{Entry}
use Rattle.system_core.specs.Journal.{tables_at}
use Rattle.journal_core.specs.Text.{journal_text}
use Rattle.dump_core.specs.declared.fault.DumpFault.{DumpFault}
use Rattle.dump_core.specs.declared.fault.DumpFault.TheVariants as faults
use Rattle.dump_core.specs.Dump.{creation, insertion, insertions, dump}

-- ---- lines
-- a line can say the entry: its user has a name, and its statement is spelled by its minified text
pub record HasLine (e : Entry) : Type 0 where
  pub name : IsName e.user.0
  pub spelled : Spells (minified e.statement) e.statement

-- each of the entries has a line, and these were written
pub record WritesLines (entries : List Entry) (taken taken' : Option (List ℕ)) : Type 0 where
  pub each : AllByRecursion HasLine entries
  pub wrote : Appends taken taken' (journal_text entries)

-- ---- a row without a line
-- this entry, the INSERT of that row, has no line, and none stands before it
pub record IsLongItself (table : Name) (row : ℕ) (e : Entry)
    (name : Name) (number : ℕ) (before : List Entry) : Type 0 where
  pub name_is : name ≡ table
  pub number_is : number ≡ row
  pub long : 4096 < length (minified e.statement)
  pub before_are : before ≡ []

-- the row of this number, counted from 1, among the rows of the table has an INSERT without a line;
-- the INSERTs of the rows before it are these entries
pub record IsLongAmong (table : Name) (owner : User) (rows : List (ℕ × Row))
    (name : Name) (number : ℕ) (before : List Entry) : Type 0 where
  pub name_is : name ≡ table
  pub rows_before : List (ℕ × Row)
  pub row : ℕ × Row
  pub rows_behind : List (ℕ × Row)
  pub rows_are : rows ≡ rows_before ++ row ∷ rows_behind
  pub number_is : number ≡ length rows_before + 1
  pub long : 4096 < length (minified (insertion table owner row).statement)
  pub before_are : before ≡ map (insertion table owner) rows_before

-- the row of this number in the table of this name is such a one; the INSERTs before it, of all
-- tables before and of its own, are these entries
pub record IsLongIn (tables : List (Name × Table)) (name : Name) (number : ℕ)
    (before : List Entry) : Type 0 where
  pub tables_before : List (Name × Table)
  pub table : Table
  pub tables_behind : List (Name × Table)
  pub tables_are : tables ≡ tables_before ++ (name, table) ∷ tables_behind
  pub inserted : List Entry
  pub among : IsLongAmong name table.owner table.rows name number inserted
  pub before_are : before ≡ flat_map insertions tables_before ++ inserted

-- the same, and these entries are all that stands before its INSERT in a dump of the tables
pub record IsLongRow (tables : List (Name × Table)) (name : Name) (number : ℕ)
    (before : List Entry) : Type 0 where
  pub inserted : List Entry
  pub row : IsLongIn tables name number inserted
  pub before_are : before ≡ map creation tables ++ inserted

-- ---- the endings
-- whether the writer failed
abbrev pub is_write_fault : {T : Type 0} → Result T DumpFault → Bool
is_write_fault (Err faults.Write) = true
is_write_fault _ = false

-- How the writing of entries ends: each was written as its line; or those before a row without a
-- line; or a front of all the text.
abbrev pub EndsLines : {T : Type 0} → (Name → ℕ → List Entry → Type 0) → List Entry
    → Result T DumpFault → Option (List ℕ) → Option (List ℕ) → Type 0
EndsLines IsLong entries (Ok x) taken taken' = WritesLines entries taken taken'
EndsLines IsLong entries (Err (faults.LongRow table row)) taken taken' =
    (before : List Entry) × IsLong table row before × WritesLines before taken taken'
EndsLines IsLong entries (Err faults.Write) taken taken' =
    WritesFront taken taken' (journal_text entries)
EndsLines IsLong entries (Err faults.NoMemory) taken taken' =
    WritesFront taken taken' (journal_text entries)

-- no row is without a line
abbrev pub IsNowhere : Name → ℕ → List Entry → Type 0
IsNowhere table row before = ⊥

-- how the writing of the dump of a journal ends
abbrev pub EndsDump : List Entry
    → Result (Unit {0}) DumpFault → Option (List ℕ) → Option (List ℕ) → Type 0
EndsDump journal = EndsLines (IsLongRow (tables_at journal)) (dump journal)
