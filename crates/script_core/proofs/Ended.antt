-- Each text that is written of a line is one of whole lines.
use Rattle.std.proofs.Common.{◌≡◌, ℕ, Bool, true, false, List, [], ◌∷◌, ◌++◌, map, take, Option, Some, None, IsSomeAnd, Ok, Err, zero, suc, refl, sym, ap, ◌∙◌, subst, inl, inr, append_assoc, append-nil}
use Rattle.std.specs.Prelude.{codes, decimal, if◌then◌else◌}
use Rattle.std.specs.List.{AllByRecursion, concat, flat_map}
use Rattle.base_core.specs.Lacks.{is_denial}
use Rattle.base_core.specs.declared.name.Name.{Name}
use Rattle.base_core.specs.declared.name.User.{User}
use Rattle.base_core.specs.declared.value.Moment.{Moment}
use Rattle.base_core.specs.declared.value.Column.{Column}
use Rattle.base_core.specs.declared.value.Row.{Row}
use Rattle.base_core.specs.declared.value.Value.{Value}
use Rattle.base_core.specs.declared.lack.Lack.{Lack}
use Rattle.base_core.specs.declared.lack.Lack.TheVariants as lacks
use Rattle.lexer_core.specs.Codes.{code_number, code_text}
use Rattle.lexer_core.specs.declared.fault.Code.{Code}
use Rattle.reader_core.specs.declared.statement.Statement.{Statement}
use Rattle.reader_core.specs.declared.statement.Statement.TheVariants as statements
use Rattle.lines_core.specs.Lines.{IsWhole}
use Rattle.tables_core.specs.Contents.{Table}
use Rattle.monitor_core.specs.Verdict.{Check}
use Rattle.export_core.specs.Export.{is_any, cut, withheld_line, end_line}
use Rattle.export_core.specs.Record.{value_field, fields_text, record_line, row_line, row_lines}
use Rattle.export_core.specs.Ticket.{TicketState, header_line}
use Rattle.system_core.specs.declared.machine.event.Checkpoint.{Checkpoint}
use Rattle.system_core.specs.declared.machine.event.Checkpoint.TheVariants as checkpoints
use Rattle.system_core.specs.declared.machine.event.Entry.{Entry}
use Rattle.system_core.specs.declared.machine.event.Event.TheVariants as events
use Rattle.system_core.specs.declared.machine.event.Reply.{Reply}
use Rattle.system_core.specs.declared.machine.event.Reply.TheVariants as replies
use Rattle.system_core.specs.Exports.{shown, could_select, table_lines, table_told, tables_told, export_lines, export_of, journal_at}
use Rattle.system_core.specs.Journal.{tables_at}
use Rattle.system_core.specs.Judging.{point_of, verdict_of, judged_at}
use Rattle.system_core.specs.Step.{IsExport, CarriesOut, Responds, Step}
use Rattle.system_core.specs.World.{World, entry}
use Rattle.reply_core.specs.Texts.{joined, lack_text, stamped, refusal_text, checkpoint_line, list_line, reply_text, fault_text}
use Rattle.script_core.specs.InFull.{records_of, AnswersLineInFull, faulty, said}

-- ---- texts with a line feed at the end
abbrev Ended : List ℕ → Type 0
Ended text = (front : List ℕ) × (text ≡ front ++ 10 ∷ [])

behind : (front text : List ℕ) → Ended text → Ended (front ++ text)
behind front text (inner, is) = (front ++ inner, ap (λ t. front ++ t) is ∙ sym (append_assoc front inner (10 ∷ [])))

pub both_whole : (first second : List ℕ) → IsWhole first → IsWhole second → IsWhole (first ++ second)
both_whole first second whole (inl none) = subst IsWhole (sym (ap (λ t. first ++ t) none ∙ append-nil first)) whole
both_whole first second whole (inr ended) = inr (behind first second ended)

newline : Ended (joined (codes "\n" ∷ []))
newline = ([], refl)

-- ---- lists of lines
abbrev pub AllWhole : List (List ℕ) → Type 0
AllWhole texts = AllByRecursion IsWhole texts

all_both : (xs ys : List (List ℕ)) → AllWhole xs → AllWhole ys → AllWhole (xs ++ ys)
all_both [] ys p q = q
all_both (x ∷ xs) ys p q = (p.0, all_both xs ys p.1 q)

pub concat_whole : (texts : List (List ℕ)) → AllWhole texts → IsWhole (concat texts)
concat_whole [] all = inl refl
concat_whole (text ∷ texts) all = both_whole text (concat texts) all.0 (concat_whole texts all.1)

pub take_whole : (n : ℕ) (texts : List (List ℕ)) → AllWhole texts → AllWhole (take n texts)
take_whole zero texts all = tt
take_whole (suc n) [] all = tt
take_whole (suc n) (text ∷ texts) all = (all.0, take_whole n texts all.1)

record_whole : (fields : List (List ℕ)) → IsWhole (record_line fields)
record_whole fields = inr (fields_text fields, refl)

row_whole : (values : List Value) → IsWhole (row_line values)
row_whole values = record_whole (codes "row" ∷ map value_field values)

rows_whole : (rows : List Row) → IsWhole (row_lines rows)
rows_whole [] = inl refl
rows_whole (row ∷ rows) = both_whole (row_line row.values) (row_lines rows) (row_whole row.values) (rows_whole rows)

checkpoint_whole : (c : Checkpoint) → IsWhole (checkpoint_line c)
checkpoint_whole (checkpoints.Kept number point) = record_whole (codes "finished" ∷ decimal number ∷ decimal point.0 ∷ [])
checkpoint_whole (checkpoints.Active number point left) = record_whole (codes "active" ∷ decimal number ∷ decimal point.0 ∷ decimal left ∷ [])

checkpoints_whole : (cs : List Checkpoint) → IsWhole (flat_map checkpoint_line cs)
checkpoints_whole [] = inl refl
checkpoints_whole (c ∷ cs) = both_whole (checkpoint_line c) (flat_map checkpoint_line cs) (checkpoint_whole c) (checkpoints_whole cs)

-- ---- what is told of a reply, but for records
list_line_ended : (word : List ℕ) (count at : ℕ) → Ended (list_line word count at)
list_line_ended word count at = behind word _ (behind (decimal count) _ (behind (codes " @") _ (behind (decimal at) _ newline)))

stamped_ended : (word : List ℕ) (at : ℕ) (lack : Lack) → Ended (stamped word at lack)
stamped_ended word at lack = behind word _ (behind (decimal at) _ (behind (codes ": ") _ (behind (lack_text lack) _ newline)))

refusal_ended : (at : ℕ) (lack : Lack) → Ended (refusal_text at lack)
refusal_ended at lacks.Worn = (codes "refused: worn", refl)
refusal_ended at lack = stamped_ended (codes "refused @") at lack

header_ended : (ticket : TicketState) → Ended (header_line ticket)
header_ended ticket =
    (codes "export " ++ decimal ticket.number ++ codes " point " ++ decimal ticket.point.0 ++ codes " @" ++ decimal ticket.at.0, refl)

pub reply_whole : (reply : Reply) → IsWhole (reply_text reply)
reply_whole (replies.Done at) = inr (behind (codes "done @") _ (behind (decimal at.0) _ newline))
reply_whole (replies.Rows at rows) = both_whole _ (row_lines rows) (inr (list_line_ended (codes "rows ") _ at.0)) (rows_whole rows)
reply_whole (replies.Denied at lack) = inr (stamped_ended (codes "denied @") at.0 lack)
reply_whole (replies.Refused at lack) = inr (refusal_ended at.0 lack)
reply_whole (replies.Listed at entries) = both_whole _ (flat_map checkpoint_line entries) (inr (list_line_ended (codes "checkpoints ") _ at.0)) (checkpoints_whole entries)
reply_whole (replies.Begun number at) = inr (behind (codes "checkpoint ") _ (behind (decimal number) _ (behind (codes " begun @") _ (behind (decimal at.0) _ newline))))
reply_whole (replies.Export ticket) = inr (header_ended ticket)
reply_whole (replies.Abandoned number) = inr (behind (codes "checkpoint ") _ (behind (decimal number) _ (codes " abandoned", refl)))
reply_whole (replies.Described at columns) = inl refl
reply_whole replies.Idle = inl refl
reply_whole (replies.Stepped number left) = inl refl
reply_whole (replies.Finished number) = inl refl

-- ---- the records of an export
rows_lines_whole : (marks : List Bool) (rows : List (ℕ × Row)) → AllWhole (map (λ numbered. row_line (cut marks numbered.1.values)) rows)
rows_lines_whole marks [] = tt
rows_lines_whole marks (row ∷ rows) = (row_whole (cut marks row.1.values), rows_lines_whole marks rows)

told_by : (some : Bool) (marks : List Bool) (t : Name × Table) (why : List ℕ) → AllWhole (if some then table_lines marks t else withheld_line t.0 why ∷ [])
told_by true marks t why = (record_whole (codes "table" ∷ t.0 ∷ cut marks (map (λ (c : Column). c.name) t.1.columns)), rows_lines_whole marks t.1.rows)
told_by false marks t why = (record_whole (codes "withheld" ∷ t.0 ∷ why ∷ []), tt)

tables_whole : (past now : List Entry) (user : User) (tables : List (Name × Table)) → AllWhole (flat_map (table_told past now user) tables)
tables_whole past now user [] = tt
tables_whole past now user (t ∷ tables) =
    let marks = shown past now user t.0 t.1.columns in
    let why = if is_any (could_select past user t.0 t.1.columns) then codes "now" else codes "point" in
    all_both (table_told past now user t) (flat_map (table_told past now user) tables) (told_by (is_any marks) marks t why) (tables_whole past now user tables)

end_whole : (number : ℕ) → IsWhole (end_line number)
end_whole number = inr (codes "end " ++ decimal number, refl)

lines_whole : (past now : List Entry) (number : ℕ) (user : User) (only : Option Name) → AllWhole (export_lines past now number user only)
lines_whole past now number user only =
    all_both (flat_map (table_told past now user) (tables_told (tables_at past) only)) (end_line number ∷ []) (tables_whole past now user (tables_told (tables_at past) only)) (end_whole number, tt)

-- the records that are to come behind the text of a reply
abbrev pub to_come : Reply → List (List ℕ)
to_come (replies.Export ticket) = ticket.to_come
to_come reply = []

by_point : (journal : List Entry) (number : ℕ) (user : User) (only : Option Name) (ticket : TicketState) (o : Option Moment) → IsSomeAnd o (λ point. ticket ≡ export_of journal number point user only) → AllWhole ticket.to_come
by_point journal number user only ticket None is = absurd is
by_point journal number user only ticket (Some point) is =
    subst (λ (t : TicketState). AllWhole t.to_come) (sym is) (lines_whole (journal_at journal point) journal number user only)

export_whole : (w : World) (user : User) (asked : Statement) (ticket : TicketState) → IsExport w user asked ticket → AllWhole ticket.to_come
export_whole w user (statements.Export number only) ticket is = by_point w.journal number user only ticket (point_of w number) is
export_whole w user asked ticket is = absurd is

carried_whole : (old new : World) (e : Entry) (reply : Reply) → CarriesOut old e reply new → AllWhole (to_come reply)
carried_whole old new e (replies.Export ticket) h = export_whole old e.user e.statement ticket h.0
carried_whole old new e reply h = tt

lack_none : (denial : Bool) (at : Moment) (lack : Lack) → AllWhole (to_come (if denial then replies.Denied at lack else replies.Refused at lack))
lack_none true at lack = tt
lack_none false at lack = tt

responded_whole : (old new : World) (e : Entry) (check : Check) (reply : Reply) → Responds old e check reply new → AllWhole (to_come reply)
responded_whole old new e (Err lack) reply h = subst (λ (r : Reply). AllWhole (to_come r)) (sym h.0) (lack_none (is_denial lack) (judged_at old e.statement lack) lack)
responded_whole old new e (Ok u) reply h = carried_whole old new e reply h

-- **the records of the reply to what a line asks are whole lines**
pub stepped_whole : (old new : World) (user : User) (asked : Statement) (reply : Reply) → Step old (events.Say 0 user asked) reply new → AllWhole (to_come reply)
stepped_whole old new user asked reply step = responded_whole old new (entry 0 user asked) (verdict_of old user asked) reply step

records_whole : (reply : Reply) → AllWhole (to_come reply) → IsWhole (records_of reply)
records_whole (replies.Export ticket) all = concat_whole ticket.to_come all
records_whole reply all = inl refl

fault_whole : (code : Code) (offset : ℕ) → IsWhole (fault_text code offset)
fault_whole code offset =
    inr (behind (codes "error ") _ (behind (decimal (code_number code)) _ (behind (codes " at ") _ (behind (decimal offset) _ (behind (codes ": ") _ (behind (code_text code) _ newline))))))

-- **what answers a line in full is whole lines**
pub full_whole : (old new : World) (line text : List ℕ) → AnswersLineInFull old line text new → IsWhole text
full_whole old new line text (faulty code offset h is n) = subst IsWhole (sym is) (fault_whole code offset)
full_whole old new line text (said user asked reply a step w is) =
    subst IsWhole (sym is) (both_whole (reply_text reply) (records_of reply) (reply_whole reply) (records_whole reply (stepped_whole old new user asked reply step)))
