-- Without want of memory there is one output.
use Rattle.std.proofs.Common.{◌≡◌, ◌⊎◌, ◌≤◌, ◌<◌, ◌-◌, ◌+◌, ℕ, true, false, List, [], ◌∷◌, ◌++◌, Option, Some, None, option_map, IsSomeAnd, Ok, Err, refl, sym, ap, ◌∙◌, subst, inl, inr, arith, append-nil}
use Rattle.base_core.specs.declared.value.Moment.{Moment}
use Rattle.base_core.specs.declared.value.Row.{Row}
use Rattle.reader_core.specs.declared.statement.Statement.{Statement}
use Rattle.reader_core.specs.declared.statement.Statement.TheVariants as statements
use Rattle.lines_core.specs.Serving.{AnswersAll}
use Rattle.tables_core.specs.Contents.{selected_rows, table_of}
use Rattle.monitor_core.specs.Verdict.{Check, columns_of, is_change}
use Rattle.export_core.specs.Ticket.{TicketState}
use Rattle.system_core.specs.declared.machine.event.Entry.{Entry}
use Rattle.system_core.specs.declared.machine.event.Event.TheVariants as events
use Rattle.system_core.specs.declared.machine.event.Reply.{Reply}
use Rattle.system_core.specs.declared.machine.event.Reply.TheVariants as replies
use Rattle.system_core.specs.Journal.{tables_at}
use Rattle.system_core.specs.Exports.{export_of}
use Rattle.system_core.specs.World.{World, ActiveCheckpoint, entry, moment_of, next_moment, with_entry}
use Rattle.system_core.specs.Judging.{point_of, verdict_of}
use Rattle.monitor_core.specs.Atoms.{columns_given}
use Rattle.system_core.specs.Step.{listed_checkpoints, with_begun, with_left, with_finished, IsAnswer, IsExport, CarriesOut, Responds, Advances, Step}
use Rattle.reply_core.specs.Texts.{reply_text, fault_text}
use Rattle.reply_core.specs.Telling.{TellsRecords}
use Rattle.lexer_core.specs.declared.lexer.TheConstants.{MAX_LINE}
use Rattle.script_core.specs.Script.{AnswersLine, Answers}
use Rattle.script_core.proofs.Addressed.{parts, one_faulty, asked_or_faulty, asked_once}
use Rattle.system_core.specs.Replies.{is_refused}
use Rattle.script_core.specs.Script as script
use Rattle.script_core.specs.InFull.{tells_want, records_of, AnswersLineInFull, faulty, said, AnswersInFull}

-- ---- pairs
some_once : {A : Type 0} (p q : A) (e : Option A) → e ≡ Some p → e ≡ Some q → p ≡ q
some_once p q e h k = cc

some_pair : {A B : Type 0} (a c : A) (b d : B) (e : Option (A × B)) → e ≡ Some (a, b) → e ≡ Some (c, d) → (a ≡ c) × (b ≡ d)
some_pair {A} {B} a c b d e h k = parts {A = A} {B = B} (a, b) (c, d) (some_once {A = A × B} (a, b) (c, d) e h k)

-- ---- what comes of an allowed statement
-- the reply and the next world, where memory suffices
abbrev outcome : World → Entry → Statement → Option (Reply × World)
outcome old e (statements.Select list table filter) =
    option_map (λ (rows : List Row). (replies.Rows (moment_of old) rows, old))
    (option_map (selected_rows (columns_given (columns_of (tables_at old.journal) table) list) filter) (table_of (tables_at old.journal) table))
outcome old e statements.Checkpoint = Some (replies.Begun (old.begun + 1) (moment_of old), with_begun old)
outcome old e statements.Checkpoints = Some (replies.Listed (moment_of old) (listed_checkpoints old), old)
outcome old e (statements.Export number only) =
    option_map (λ (point : Moment). (replies.Export (export_of old.journal number point e.user only), old)) (point_of old number)
outcome old e asked = Some (replies.Done (next_moment old), with_entry old e)

done-outcome : (old : World) (e : Entry) (asked : Statement) → is_change asked ≡ true → outcome old e asked ≡ Some (replies.Done (next_moment old), with_entry old e)
done-outcome old e (statements.Select list table filter) h = cc
done-outcome old e statements.Checkpoint h = cc
done-outcome old e statements.Checkpoints h = cc
done-outcome old e (statements.Export number only) h = cc
done-outcome old e _ h = refl

rows-outcome : (old : World) (e : Entry) (asked : Statement) (rows : List Row) → IsAnswer old.journal asked rows → outcome old e asked ≡ Some (replies.Rows (moment_of old) rows, old)
rows-outcome old e (statements.Select list table filter) rows h = ap (option_map (λ (r : List Row). (replies.Rows (moment_of old) r, old))) h
rows-outcome old e _ rows h = absurd h

by_point : (old : World) (o : Option Moment) (f : Moment → TicketState) (ticket : TicketState) → IsSomeAnd o (λ point. ticket ≡ f point) → option_map {U = Reply × World} (λ (point : Moment). (replies.Export (f point), old)) o ≡ Some (replies.Export ticket, old)
by_point old None f ticket h = absurd h
by_point old (Some point) f ticket h = ap (λ (t : TicketState). Some (replies.Export t, old)) (sym h)

export-outcome : (old : World) (e : Entry) (asked : Statement) (ticket : TicketState) → IsExport old e.user asked ticket → outcome old e asked ≡ Some (replies.Export ticket, old)
export-outcome old e (statements.Export number only) ticket h = by_point old (point_of old number) (λ point. export_of old.journal number point e.user only) ticket h
export-outcome old e _ ticket h = absurd h

carried : (old new : World) (e : Entry) (reply : Reply) → CarriesOut old e reply new → tells_want reply ≡ false → outcome old e e.statement ≡ Some (reply, new)
carried old new e (replies.Done at) h w = let d = done-outcome old e e.statement h.0 in let a = h.1 in let n = h.2 in cc
carried old new e (replies.Rows at rows) h w = let d = rows-outcome old e e.statement rows h.0 in let a = h.1 in let n = h.2 in cc
carried old new e (replies.Listed at entries) h w =
    let d = ap (outcome old e) h.0 in let l = h.1 in let a = h.2 in let n = h.3 in cc
carried old new e (replies.Begun number at) h w =
    let d = ap (outcome old e) h.0 in let l = h.1 in let a = h.2 in let n = h.3 in cc
carried old new e (replies.Export ticket) h w = let d = export-outcome old e e.statement ticket h.0 in let n = h.1 in cc
carried old new e (replies.Refused at lack) h w =
    let told : tells_want (replies.Refused at lack) ≡ true = ap (λ l. tells_want (replies.Refused at l)) h.1 in cc
carried old new e (replies.Denied at lack) h w = absurd h
carried old new e (replies.Described at columns) h w = absurd h
carried old new e replies.Idle h w = absurd h
carried old new e (replies.Stepped number left) h w = absurd h
carried old new e (replies.Finished number) h w = absurd h
carried old new e (replies.Abandoned number) h w = absurd h

responded : (old new last : World) (e : Entry) (check : Check) (reply other : Reply)
    → Responds old e check reply new → Responds old e check other last → tells_want reply ≡ false → tells_want other ≡ false
    → (reply ≡ other) × (new ≡ last)
responded old new last e (Err lack) reply other h k w v = (h.0 ∙ sym k.0, h.1 ∙ sym k.1)
responded old new last e (Ok u) reply other h k w v =
    some_pair reply other new last (outcome old e e.statement) (carried old new e reply h w) (carried old last e other k v)

-- ---- what comes of a step of the checkpointer
advanced : (old new : World) (a : ActiveCheckpoint) (reply : Reply) → Advances old (Some a) reply new → is_refused reply ≡ false
    → ((old.chunk < a.left) × (new ≡ with_left old a (a.left - old.chunk))) ⊎ ((a.left ≤ old.chunk) × (new ≡ with_finished old a))
advanced old new a (replies.Stepped number left) h w = inl (h.0, h.3 ∙ ap (with_left old a) h.2)
advanced old new a (replies.Finished number) h w = inr (h.0, h.2)
advanced old new a (replies.Refused at lack) h w = cc
advanced old new a (replies.Done at) h w = absurd h
advanced old new a (replies.Rows at rows) h w = absurd h
advanced old new a (replies.Listed at entries) h w = absurd h
advanced old new a (replies.Begun number at) h w = absurd h
advanced old new a (replies.Export ticket) h w = absurd h
advanced old new a (replies.Denied at lack) h w = absurd h
advanced old new a (replies.Described at columns) h w = absurd h
advanced old new a replies.Idle h w = absurd h
advanced old new a (replies.Abandoned number) h w = absurd h

one_of_two : {X : Type 0} (n m : ℕ) (x y new last : X) → ((n < m) × (new ≡ x)) ⊎ ((m ≤ n) × (new ≡ y)) → ((n < m) × (last ≡ x)) ⊎ ((m ≤ n) × (last ≡ y)) → new ≡ last
one_of_two n m x y new last (inl h) (inl k) = h.1 ∙ sym k.1
one_of_two n m x y new last (inr h) (inr k) = h.1 ∙ sym k.1
one_of_two n m x y new last (inl h) (inr k) = absurd (omega (arith, h.0, k.0))
one_of_two n m x y new last (inr h) (inl k) = absurd (omega (arith, h.0, k.0))

one_advance : (old new last : World) (active : Option ActiveCheckpoint) (reply other : Reply)
    → Advances old active reply new → Advances old active other last → is_refused reply ≡ false → is_refused other ≡ false → new ≡ last
one_advance old new last None reply other h k w v = h.1 ∙ sym k.1
one_advance old new last (Some a) reply other h k w v =
    one_of_two old.chunk a.left (with_left old a (a.left - old.chunk)) (with_finished old a) new last (advanced old new a reply h w) (advanced old last a other k v)

-- ---- one answer
one_line : (old new last : World) (line text other : List ℕ) → AnswersLineInFull old line text new → AnswersLineInFull old line other last → (text ≡ other) × (new ≡ last)
one_line old new last line text other (faulty code offset h e n) (faulty code' offset' k f m) =
    let one = one_faulty MAX_LINE line code code' offset offset' h k in
    (e ∙ ap (λ c. fault_text c offset) one.0 ∙ ap (λ o. fault_text code' o) one.1 ∙ sym f, n ∙ sym m)
one_line old new last line text other (faulty code offset h e n) (said user asked reply a step w f) = absurd (asked_or_faulty MAX_LINE line user asked code offset a h)
one_line old new last line text other (said user asked reply a step w e) (faulty code offset h f n) = absurd (asked_or_faulty MAX_LINE line user asked code offset a h)
one_line old new last line text other (said user asked reply a step w e) (said user' asked' reply' b next v f) =
    let one = asked_once MAX_LINE line user user' asked asked' a b in
    let second : Step old (events.Say 0 user asked) reply' last =
    subst (λ u. Step old (events.Say 0 u asked) reply' last) (sym one.0) (subst (λ q. Step old (events.Say 0 user' q) reply' last) (sym one.1) next) in
    let both = responded old new last (entry 0 user asked) (verdict_of old user asked) reply reply' step second w v in
    (e ∙ ap (λ r. reply_text r ++ records_of r) both.0 ∙ sym f, both.1)

-- **a line is answered in full in one way**
pub one_answer : (old new last : World) (line text other : List ℕ) → AnswersInFull old line text new → AnswersInFull old line other last → (text ≡ other) × (new ≡ last)
one_answer old new last line text other a b =
    let one = one_line old a.mid b.mid line text other a.answered b.answered in
    let second = subst (λ w. Step w events.Step b.reply last) (sym one.1) b.stepped in
    (one.0, one_advance a.mid new last a.mid.active a.reply b.reply a.stepped second a.silent b.silent)

-- **and so are lines, one after another**
pub one_output : (old new last : World) (lines : List (List ℕ)) (text other : List ℕ) → AnswersAll AnswersInFull old lines text new → AnswersAll AnswersInFull old lines other last → (text ≡ other) × (new ≡ last)
one_output old new last [] text other h k = (h.0 ∙ sym k.0, h.1 ∙ sym k.1)
one_output old new last (line ∷ lines) text other (first, mid, more, answer, rest, is) (first', mid', more', answer', rest', is') =
    let one = one_answer old mid mid' line first first' answer answer' in
    let others = one_output mid new last lines more more' rest (subst (λ w. AnswersAll AnswersInFull w lines more' last) (sym one.1) rest') in
    (is ∙ ap (λ t. t ++ more) one.0 ∙ ap (λ t. first' ++ t) others.0 ∙ sym is', others.1)

-- ---- answers in full are answers
all_records : (reply : Reply) → TellsRecords reply (records_of reply)
all_records (replies.Export ticket) = inl refl
all_records (replies.Done at) = refl
all_records (replies.Rows at rows) = refl
all_records (replies.Listed at entries) = refl
all_records (replies.Begun number at) = refl
all_records (replies.Denied at lack) = refl
all_records (replies.Refused at lack) = refl
all_records (replies.Described at columns) = refl
all_records replies.Idle = refl
all_records (replies.Stepped number left) = refl
all_records (replies.Finished number) = refl
all_records (replies.Abandoned number) = refl

line_answered : (old new : World) (line text : List ℕ) → AnswersLineInFull old line text new → AnswersLine old line text new
line_answered old new line text (faulty code offset h e n) =
    subst (λ w. AnswersLine old line text w) (sym n) (subst (λ t. AnswersLine old line t old) (sym e) (script.faulty h))
line_answered old new line text (said user asked reply a step w e) = script.said user asked reply a step (records_of reply, all_records reply, e)

-- **what is answered in full is answered**
pub full_is_answer : (old new : World) (line text : List ℕ) → AnswersInFull old line text new → Answers old line text new
full_is_answer old new line text a = record {
  first = text;
  mid = a.mid;
  second = [];
  answered = line_answered old a.mid line text a.answered;
  followed = script.stepped a.reply a.stepped a.silent;
  text_is = sym (append-nil text);
}
