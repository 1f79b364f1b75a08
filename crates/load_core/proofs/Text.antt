-- The lines of a journal's text.
use Rattle.std.proofs.Common.{◌≡◌, ℕ, ◌-◌, ◌≤◌, Bool, false, List, [], ◌∷◌, length, map, take, refl, ap, sym, ◌∙◌, append-nil, arith, All, get_or}
use Rattle.std.specs.Prelude.{◌==◌, if◌then◌else◌, nat_le, slice_index}
use Rattle.std.specs.List.{AllByRecursion}
use Rattle.std.specs.Str.Lines.{lines, strip_carriage_return}
use Rattle.std.proofs.lemmas.Bool.Decides.{nat_tests}
use Rattle.std.proofs.lemmas.List.Elements.{All-get_or, All-head, All-tail}
use Rattle.printer_core.specs.Printing.{journal_line}
use Rattle.printer_core.proofs.JournalLine.{whole, high_by}
use Rattle.printer_core.proofs.Plain.{IsHigh}
use Rattle.lines_core.specs.Lines.{Cut, NoFeed}
use Rattle.lines_core.proofs.LineLemmas.{lines-Cut}
use Rattle.system_core.specs.declared.machine.event.Entry.{Entry}
use Rattle.journal_core.specs.Text.{journal_lines, journal_text, WasRead}

no_feed : (bytes : List ℕ) → All IsHigh bytes → NoFeed bytes
no_feed [] h = tt
no_feed (b ∷ bs) h =
    let high : 32 ≤ b = All-head IsHigh b bs h in
    ((λ (e : b ≡ 10). absurd (omega arith)), no_feed bs (All-tail IsHigh b bs h))

last_is_none : (bytes : List ℕ) → All IsHigh bytes → (slice_index bytes (length bytes - 1) == 13) ≡ false
last_is_none [] h = refl
last_is_none (b ∷ bs) h =
    let high : 32 ≤ get_or (b ∷ bs) (length (b ∷ bs) - 1) 0 = All-get_or IsHigh (b ∷ bs) (length (b ∷ bs) - 1) 0 (omega arith) h in
    grind (arith, nat_tests)

whole_line : (bytes : List ℕ) → All IsHigh bytes → strip_carriage_return bytes ≡ bytes
whole_line bytes h = ap (λ (t : Bool). if t then take (length bytes - 1) bytes else bytes) (last_is_none bytes h)

line_high : (e : Entry) (read : WasRead e) → All IsHigh (journal_line e.user e.statement)
line_high e read = high_by e.user e.statement read.line read.spelled read.name (nat_le (length (whole e.user e.statement)) 4096)

-- a line of it has no line feed
pub line_open : (e : Entry) → WasRead e → NoFeed (journal_line e.user e.statement)
line_open e read = no_feed (journal_line e.user e.statement) (line_high e read)

each_open : (journal : List Entry) → AllByRecursion WasRead journal → AllByRecursion NoFeed (journal_lines journal)
each_open [] read = tt
each_open (e ∷ es) read = (line_open e read.0, each_open es read.1)

pub each_whole : (journal : List Entry) → AllByRecursion WasRead journal → map strip_carriage_return (journal_lines journal) ≡ journal_lines journal
each_whole [] read = refl
each_whole (e ∷ es) read =
    ap (λ (line : List ℕ). line ∷ map strip_carriage_return (journal_lines es)) (whole_line (journal_line e.user e.statement) (line_high e read.0))
    ∙ ap (λ (ls : List (List ℕ)). journal_line e.user e.statement ∷ ls) (each_whole es read.1)

-- they are those that were written
pub lines_are : (journal : List Entry) → AllByRecursion WasRead journal → lines (journal_text journal) ≡ journal_lines journal
lines_are journal read =
    let cut : Cut (journal_text journal) (journal_lines journal) [] = record { whole = sym (append-nil (journal_text journal)); each = each_open journal read; open_rest = tt } in
    lines-Cut (journal_text journal) (journal_lines journal) [] cut ∙ append-nil (map strip_carriage_return (journal_lines journal)) ∙ each_whole journal read
