-- The texts of replies, lacks and faults.
use Rattle.std.specs.Prelude.{ℕ, List, [], ◌∷◌, ◌++◌, codes, decimal, length}
use Rattle.std.specs.List.{flat_map}
use Rattle.base_core.specs.declared.name.User.{User}
use Rattle.base_core.specs.declared.privilege.Kind.{Kind}
use Rattle.base_core.specs.declared.privilege.Kind.TheVariants as kinds
use Rattle.base_core.specs.declared.privilege.Atom.{Atom}
use Rattle.base_core.specs.declared.value.ColType.{ColType}
use Rattle.base_core.specs.declared.value.ColType.TheVariants as types
use Rattle.base_core.specs.declared.lack.Lack.{Lack}
use Rattle.base_core.specs.declared.lack.Lack.TheVariants as lacks
use Rattle.base_core.specs.declared.lack.What.{What}
use Rattle.base_core.specs.declared.lack.What.TheVariants as whats
use Rattle.lexer_core.specs.Codes.{code_number, code_text}
use Rattle.lexer_core.specs.declared.fault.Code.{Code}
use Rattle.base_core.specs.declared.value.Value.{Value}
use Rattle.export_core.specs.Record.{comma, field_text, record_line, row_lines, value_field}
use Rattle.export_core.specs.Ticket.{header_line}
use Rattle.system_core.specs.declared.machine.event.Checkpoint.{Checkpoint}
use Rattle.system_core.specs.declared.machine.event.Checkpoint.TheVariants as checkpoints
use Rattle.system_core.specs.declared.machine.event.Reply.{Reply}
use Rattle.system_core.specs.declared.machine.event.Reply.TheVariants as replies

-- the parts one after another
abbrev pub joined : List (List ℕ) → List ℕ
joined parts = flat_map (λ part. part) parts

abbrev pub kind_text : Kind → List ℕ
kind_text (kinds.Select column) = joined (codes "SELECT(" ∷ column ∷ codes ")" ∷ [])
kind_text kinds.Insert = codes "INSERT"
kind_text kinds.Delete = codes "DELETE"
kind_text (kinds.Update column) = joined (codes "UPDATE(" ∷ column ∷ codes ")" ∷ [])

abbrev pub type_text : ColType → List ℕ
type_text types.Integer = codes "INTEGER"
type_text types.Text = codes "TEXT"

abbrev pub what_text : What → List ℕ
what_text whats.Changes = codes "changes"
what_text whats.Tables = codes "tables"
what_text whats.Grants = codes "grants"
what_text whats.Checkpoints = codes "checkpoints"

-- a user, what is said of him, a privilege, and its table
abbrev pub about_atom : User → List ℕ → Atom → List ℕ
about_atom user said atom =
    joined (user.0 ∷ said ∷ kind_text atom.kind ∷ codes " on " ∷ atom.table ∷ [])

-- the same, and another user
abbrev pub not_given : User → List ℕ → User → Atom → List ℕ
not_given by said to atom = joined (about_atom by said atom ∷ codes " to " ∷ to.0 ∷ [])

-- what is missing, without the moment
abbrev pub lack_text : Lack → List ℕ
lack_text (lacks.NoTable table) = joined (codes "no table " ∷ table ∷ [])
lack_text (lacks.TableExists table) = joined (codes "table " ∷ table ∷ codes " exists" ∷ [])
lack_text (lacks.NoColumn table column) =
    joined (codes "no column " ∷ column ∷ codes " in " ∷ table ∷ [])
lack_text (lacks.NoPrivilege user atom) = about_atom user (codes " lacks ") atom
lack_text (lacks.NoGrantOption user atom) = about_atom user (codes " may not grant ") atom
lack_text (lacks.NoGrant by to atom) = not_given by (codes " granted no ") to atom
lack_text (lacks.NoCheckpoint number) = joined (codes "no checkpoint " ∷ decimal number ∷ [])
lack_text (lacks.NoTableThen table number) =
    joined (codes "no table " ∷ table ∷ codes " at checkpoint " ∷ decimal number ∷ [])
lack_text (lacks.NoSelectThen user table) =
    joined (user.0 ∷ codes " lacked" ∷ codes " SELECT on " ∷ table ∷ [])
lack_text (lacks.NoSelectNow user table) =
    joined (user.0 ∷ codes " now lacks" ∷ codes " SELECT on " ∷ table ∷ [])
lack_text (lacks.WrongCount given wanted) =
    joined (decimal given ∷ codes " values for " ∷ decimal wanted ∷ codes " columns" ∷ [])
lack_text (lacks.WrongType column wanted) =
    joined (codes "column " ∷ column ∷ codes " takes " ∷ type_text wanted ∷ [])
lack_text (lacks.Full what) = joined (codes "full: " ∷ what_text what ∷ [])
lack_text lacks.Busy = codes "busy"
lack_text lacks.NoMemory = codes "no memory"
lack_text lacks.Worn = codes "worn"
lack_text (lacks.NoOptionGiven by to atom) =
    not_given by (codes " granted no option for ") to atom

-- a word, a moment, and what is missing
abbrev pub stamped : List ℕ → ℕ → Lack → List ℕ
stamped word at lack = joined (word ∷ decimal at ∷ codes ": " ∷ lack_text lack ∷ codes "\n" ∷ [])

-- a refusal, of which the one by a worn turnstile has no moment
abbrev pub refusal_text : ℕ → Lack → List ℕ
refusal_text at lacks.Worn = codes "refused: worn\n"
refusal_text at lack = stamped (codes "refused @") at lack

-- a checkpoint, as it is listed
abbrev pub checkpoint_line : Checkpoint → List ℕ
checkpoint_line (checkpoints.Kept number point) =
    record_line (codes "finished" ∷ decimal number ∷ decimal point.0 ∷ [])
checkpoint_line (checkpoints.Active number point left) =
    record_line (codes "active" ∷ decimal number ∷ decimal point.0 ∷ decimal left ∷ [])

-- the first line of a list: a word, how many records come, and the moment
abbrev pub list_line : List ℕ → ℕ → ℕ → List ℕ
list_line word count at =
    joined (word ∷ decimal count ∷ codes " @" ∷ decimal at ∷ codes "\n" ∷ [])

-- a value in the line of its row
abbrev pub value_text : Value → List ℕ
value_text value = comma ∷ field_text (value_field value)

-- what is written of a reply, and of an export before its records; nothing of a description, for which
-- no line asks
abbrev pub reply_text : Reply → List ℕ
reply_text (replies.Done at) = joined (codes "done @" ∷ decimal at.0 ∷ codes "\n" ∷ [])
reply_text (replies.Rows at rows) =
    list_line (codes "rows ") (length rows) at.0 ++ row_lines rows
reply_text (replies.Denied at lack) = stamped (codes "denied @") at.0 lack
reply_text (replies.Refused at lack) = refusal_text at.0 lack
reply_text (replies.Listed at entries) =
    list_line (codes "checkpoints ") (length entries) at.0 ++ flat_map checkpoint_line entries
reply_text (replies.Begun number at) =
    joined (codes "checkpoint " ∷ decimal number ∷ codes " begun @" ∷ decimal at.0 ∷ codes "\n"
    ∷ [])
reply_text (replies.Export ticket) = header_line ticket
reply_text (replies.Described at columns) = []
reply_text (replies.Abandoned number) =
    joined (codes "checkpoint " ∷ decimal number ∷ codes " abandoned\n" ∷ [])
reply_text replies.Idle = []
reply_text (replies.Stepped number left) = []
reply_text (replies.Finished number) = []

-- of a list its first line, and of any other reply what is written of it
abbrev pub head_text : Reply → List ℕ
head_text (replies.Rows at rows) = list_line (codes "rows ") (length rows) at.0
head_text (replies.Listed at entries) = list_line (codes "checkpoints ") (length entries) at.0
head_text reply = reply_text reply

-- the records of a list, and of any other reply nothing
abbrev pub list_text : Reply → List ℕ
list_text (replies.Rows at rows) = row_lines rows
list_text (replies.Listed at entries) = flat_map checkpoint_line entries
list_text reply = []

-- what is written of a line that is not read, with the byte of the line
abbrev pub fault_text : Code → ℕ → List ℕ
fault_text code offset =
    joined (codes "error " ∷ decimal (code_number code) ∷ codes " at " ∷ decimal offset ∷ codes ": "
    ∷ code_text code ∷ codes "\n" ∷ [])

-- what is written of a line that could not be read: out of memory
abbrev pub unread_text : List ℕ
unread_text = codes "refused: no memory\n"

-- what is written in place of the rest of an export, where its next record found no memory
abbrev pub cut_text : List ℕ
cut_text = codes "export cut: no memory\n"
