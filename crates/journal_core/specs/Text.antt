-- A journal as a script.
use Rattle.std.specs.Prelude.{ℕ, List, [], ◌∷◌, ◌++◌, map}
use Rattle.std.specs.List.{flat_map}
use Rattle.base_core.specs.Words.{IsName}
use Rattle.reader_core.specs.Language.{Spells}
use Rattle.printer_core.specs.Printing.{journal_line, ended_line}
use Rattle.system_core.specs.declared.machine.event.Entry.{Entry}

-- an entry that a line can say: some line spells its statement, and its user's name is one
pub record WasRead (e : Entry) : Type 0 where
  pub line : List ℕ
  pub spelled : Spells line e.statement
  pub name : IsName e.user.0

-- the line of an entry with its line feed
abbrev pub entry_text : Entry → List ℕ
entry_text e = ended_line e.user e.statement

-- the lines of a journal
abbrev pub journal_lines : List Entry → List (List ℕ)
journal_lines journal = map (λ e. journal_line e.user e.statement) journal

-- its text: each line with a line feed behind it
abbrev pub journal_text : List Entry → List ℕ
journal_text journal = flat_map (λ line. line ++ 10 ∷ []) (journal_lines journal)
