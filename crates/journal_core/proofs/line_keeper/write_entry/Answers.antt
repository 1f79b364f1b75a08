use Rattle.std.proofs.Common.{ℕ, List, Some, length, length-append, ◌∷◌, [], take, drop, sym, ap, subst, ◌∙◌, arith}
use Rattle.std.specs.Io.KnownBytes.{Appends}
use Rattle.std.proofs.lemmas.List.{take-append-drop, take_rest}
use Rattle.lexer_core.proofs.Shortness.{name_short}
use Rattle.printer_core.specs.Printing.{journal_line}
use Rattle.printer_core.proofs.Shortest.{no_shorter}
use Rattle.printer_core.proofs.Spelling.{name_spells}
use Rattle.journal_core.specs.Text.{WasRead}
use Rattle.journal_core.proofs.line_keeper.write_entry.Goals as goal

pub line-line-requires : goal.line-line-requires
line-line-requires g c = let p = c.requires.spelled in omega (arith, no_shorter p.0 c.args.entry.now.statement p.1, p.1.says.short)

pub set-requires : goal.set-requires
set-requires g c =
    let e = c.args.entry.now in
    let p = c.requires.spelled in
    let name = c.as_bytes.ensures.name in
    let few = name_short e.user.0 e.user.0 (name_spells e.user.0 name).1 in
    let short = c.journal_line_is_short.ensures p.0 e.user e.statement p.1 few in
    let line = ap length c.line-line.ensures in
    let rest = ap length (take_rest c.line-line.result.now c.in-Err.count) in
    omega (arith, short, line, rest, length-append (journal_line e.user e.statement) (10 ∷ []))

pub returns-in-Ok-clause-ok : goal.returns-in-Ok-clause-ok
returns-in-Ok-clause-ok g c =
    let taken = g.W.Sink.taken in
    let read : WasRead c.args.entry.now = record { line = c.requires.spelled.0; spelled = c.requires.spelled.1; name = c.as_bytes.ensures.name } in
    let wrote = subst (λ (t : List ℕ). Appends (taken c.args.sink.now) (taken c.write_through.new.sink) t) c.line-line.ensures c.in-Ok.ensures.ok in
    record { read = read; before = c.requires.settled; line = wrote; handed_on_all = c.in-Ok.ensures.handed_on; after = c.requires.settled }

pub returns-in-Err-clause-err : goal.returns-in-Err-clause-err
returns-in-Err-clause-err g c =
    let line = c.line-line.result.now in
    let count = c.in-Err.count in
    let read : WasRead c.args.entry.now = record { line = c.requires.spelled.0; spelled = c.requires.spelled.1; name = c.as_bytes.ensures.name } in
    record {
      part = take count line;
      rest = drop count line;
      read = read;
      before = c.requires.settled;
      line = sym c.line-line.ensures ∙ sym (take-append-drop count line);
      wrote = c.in-Err.ensures.err;
      after = c.set.ensures ∙ ap Some (take_rest line count);
    }
