use Rattle.std.proofs.Common.{List, ℕ, length, sym, subst, ◌∙◌}
use Rattle.std.specs.Str.{IsUtf8}
use Rattle.reader_core.specs.Saying.{statement_says}
use Rattle.reader_core.specs.Language.{Spells}
use Rattle.printer_core.specs.declared.spacing.Spacing.TheVariants as spacings
use Rattle.printer_core.specs.Printing.{at_front, canonical}
use Rattle.printer_core.proofs.Back.{spells_back}
use Rattle.printer_core.proofs.Room.{beyond}
use Rattle.printer_core.proofs.Utf8.{spaced_utf8}
use Rattle.printer_core.proofs.Writing.{test_on, whole_on}
use Rattle.printer_core.proofs.printing.print.Goals as goal

pub returns-then-not-fits-clause-too_long : goal.returns-then-not-fits-clause-too_long
returns-then-not-fits-clause-too_long c = λ is.
    let test = test_on c.fits.result c.in_ok-page.ensures c.statement.ensures.written c.fits.ensures in
    beyond (length (canonical c.args.statement.now)) 4096 (sym test ∙ c.if-not-fits.true)

pub copied-requires : goal.copied-requires
copied-requires c =
    let whole = whole_on c.fits.result c.as_slice.result.now c.in_ok-page.ensures c.statement.ensures.written c.fits.ensures c.if-not-fits.false c.as_slice.ensures in
    subst IsUtf8 (sym whole.0) (spaced_utf8 spacings.Canonical at_front (statement_says c.args.statement.now) c.statement.ensures.written.proper)

pub returns-clause-text : goal.returns-clause-text
returns-clause-text c =
    let whole = whole_on c.fits.result c.as_slice.result.now c.in_ok-page.ensures c.statement.ensures.written c.fits.ensures c.if-not-fits.false c.as_slice.ensures in
    c.in_ok-copied.ensures ∙ whole.0

pub returns-clause-short : goal.returns-clause-short
returns-clause-short c =
    let whole = whole_on c.fits.result c.as_slice.result.now c.in_ok-page.ensures c.statement.ensures.written c.fits.ensures c.if-not-fits.false c.as_slice.ensures in
    whole.1

pub returns-clause-spelled : goal.returns-clause-spelled
returns-clause-spelled c =
    let whole = whole_on c.fits.result c.as_slice.result.now c.in_ok-page.ensures c.statement.ensures.written c.fits.ensures c.if-not-fits.false c.as_slice.ensures in
    subst (λ (text : List ℕ). Spells text c.args.statement.now) (sym (c.in_ok-copied.ensures ∙ whole.0))
    (spells_back spacings.Canonical c.args.statement.now c.statement.ensures.well_formed c.statement.ensures.written.proper whole.1)
