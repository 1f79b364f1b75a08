-- The lines of a journal that was written load it.
use Rattle.std.proofs.Common.{◌≡◌, ℕ, ◌+◌, ◌≤◌, Bool, true, false, Ok, List, [], ◌∷◌, ◌++◌, length, map, refl, ap, subst, ◌∙◌, append_assoc, append-nil, arith}
use Rattle.std.specs.Prelude.{nat_le}
use Rattle.std.specs.List.{AllByRecursion, fold}
use Rattle.std.proofs.lemmas.List.{map-append, length-map}
use Rattle.base_core.specs.declared.name.Name.{Name}
use Rattle.base_core.specs.declared.name.User.{User}
use Rattle.base_core.specs.declared.limits.Limits.{Limits}
use Rattle.reader_core.specs.declared.statement.Statement.{Statement}
use Rattle.tables_core.specs.Contents.{Table}
use Rattle.grants_core.specs.declared.grant.Change.{Change}
use Rattle.grants_core.specs.History.{content_after}
use Rattle.monitor_core.specs.Verdict.{State, verdict}
use Rattle.printer_core.specs.Printing.{canonical, minified, journal_line}
use Rattle.printer_core.proofs.JournalLine.{whole, line_by, at_most, spelled_behind}
use Rattle.printer_core.proofs.Shortest.{no_shorter}
use Rattle.lines_core.specs.declared.line.TheConstants.{LONGEST_LINE}
use Rattle.system_core.specs.Journal.{tables_with, tables_at, changes, changes_from, change_of, verdict_at, IsLawfulFrom}
use Rattle.system_core.specs.declared.machine.event.Entry.{Entry}
use Rattle.script_core.specs.Addressed.{addressed_up_to}
use Rattle.journal_core.specs.Text.{journal_lines, WasRead}
use Rattle.load_core.specs.Loading.{SaysEntry, Loads, unmarked, lines_unmarked, without_pass}
use Rattle.load_core.proofs.Addressing.{few, addressed_is, unmarked_is}

-- ---- a line
module _ (user : User) (s : Statement) (read : WasRead (record { pass = 0; user = user; statement = s })) where
  abbrev Said : List ℕ → Type 0
  Said line = (unmarked line ≡ line) × (length line ≤ LONGEST_LINE → addressed_up_to LONGEST_LINE line ≡ Ok (user, length user.0 + 1))

  said_by : (fits : Bool) → Said (line_by user s fits)
  said_by true = (unmarked_is user.0 (32 ∷ canonical s) read.name, λ h. addressed_is user.0 (32 ∷ canonical s) read.name LONGEST_LINE h)
  said_by false = (unmarked_is user.0 (minified s) read.name, λ h. addressed_is user.0 (minified s) read.name LONGEST_LINE h)

  pub says_it : SaysEntry LONGEST_LINE (journal_line user s) (record { pass = 0; user = user; statement = s })
  says_it =
      let long : length (minified s) ≤ 4096 = omega (arith, no_shorter read.line s read.spelled, read.spelled.says.short) in
      record {
        asks = record {
          start = length user.0 + 1;
          speaker = (said_by (nat_le (length (whole user s)) 4096)).1 (at_most user s (nat_le (length (whole user s)) 4096) refl (few user.0 [] read.name) long);
          spelled = spelled_behind user s read.line read.spelled (nat_le (length (whole user s)) 4096) refl;
        };
        pass = refl;
      }

  pub no_mark : unmarked (journal_line user s) ≡ journal_line user s
  no_mark = (said_by (nat_le (length (whole user s)) 4096)).0

-- the first of the lines has no mark
pub lines_unmarked_is : (journal : List Entry) → AllByRecursion WasRead journal → lines_unmarked (journal_lines journal) ≡ journal_lines journal
lines_unmarked_is [] read = refl
lines_unmarked_is (e ∷ es) read = ap (λ (line : List ℕ). line ∷ journal_lines es) (no_mark e.user e.statement (record { line = read.0.line; spelled = read.0.spelled; name = read.0.name }))

-- ---- no verdict asks passes
pub same_tables : (tables : List (Name × Table)) (journal : List Entry) → fold tables_with tables (map without_pass journal) ≡ fold tables_with tables journal
same_tables tables [] = refl
same_tables tables (e ∷ es) = same_tables (tables_with tables e) es

pub same_changes : (tables : List (Name × Table)) (journal : List Entry) → changes_from tables (map without_pass journal) ≡ changes_from tables journal
same_changes tables [] = refl
same_changes tables (e ∷ es) = ap (λ (cs : List Change). change_of tables e.user e.statement ∷ cs) (same_changes (tables_with tables e) es)

pub same_verdict : (limits : Limits) (journal : List Entry) (user : User) (s : Statement) → verdict_at limits (map without_pass journal) user s ≡ verdict_at limits journal user s
same_verdict limits journal user s =
    let state : List (Name × Table) → List Change → ℕ → State = λ (tables : List (Name × Table)) (made : List Change) (moment : ℕ). record { tables = tables; rights = content_after made; limits = limits; moment = moment } in
    let bare = map without_pass journal in
    ap (λ (at : State). verdict at user s)
    (ap (λ (tables : List (Name × Table)). state tables (changes bare) (length bare)) (same_tables [] journal)
    ∙ ap (λ (made : List Change). state (tables_at journal) made (length bare)) (same_changes [] journal)
    ∙ ap (state (tables_at journal) (changes journal)) (length-map journal without_pass))

-- ---- lines
pub loads : (limits : Limits) (before es : List Entry) → IsLawfulFrom limits before es → AllByRecursion WasRead es → Loads limits (map without_pass before) (journal_lines es) (map without_pass (before ++ es))
loads limits before [] lawful read = ap (map without_pass) (append-nil before)
loads limits before (e ∷ es) lawful read =
    let more : Loads limits (map without_pass (before ++ e ∷ [])) (journal_lines es) (map without_pass ((before ++ e ∷ []) ++ es)) = loads limits (before ++ e ∷ []) es lawful.2 read.1 in
    let split : map without_pass (before ++ e ∷ []) ≡ map without_pass before ++ without_pass e ∷ [] = map-append without_pass before (e ∷ []) in
    let behind : Loads limits (map without_pass before ++ without_pass e ∷ []) (journal_lines es) (map without_pass (before ++ e ∷ es)) =
    subst (λ (j : List Entry). Loads limits j (journal_lines es) (map without_pass (before ++ e ∷ es))) split
    (subst (λ (j : List Entry). Loads limits (map without_pass (before ++ e ∷ [])) (journal_lines es) (map without_pass j)) (append_assoc before (e ∷ []) es) more) in (
      without_pass e,
      record {
        says = says_it e.user e.statement (record { line = read.0.line; spelled = read.0.spelled; name = read.0.name });
        change = lawful.0;
        allowed = same_verdict limits before e.user e.statement ∙ lawful.1;
      },
      behind,
    )
