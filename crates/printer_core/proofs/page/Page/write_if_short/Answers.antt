use Rattle.std.proofs.Common.{◌≡◌, ◌+◌, ℕ, true, [], ◌∷◌, ◌++◌, length, ap, sym, ◌∙◌, arith}
use Rattle.std.specs.Prelude.{nat_le}
use Rattle.lexer_core.proofs.Shortness.{name_short}
use Rattle.printer_core.specs.Printing.{minified}
use Rattle.printer_core.specs.declared.spacing.Spacing.TheVariants as spacings
use Rattle.printer_core.proofs.Back.{spells_back}
use Rattle.printer_core.proofs.JournalLine.{short, as_canonical, canonical_fits, feed_counts, as_minified, behind_fits, fits_minified}
use Rattle.printer_core.proofs.Room.{fits_is, is_within, within}
use Rattle.printer_core.proofs.Spelling.{name_spells}
use Rattle.printer_core.proofs.NoLiterals.{plain_fits}
use Rattle.printer_core.proofs.page.Page.write_if_short.Goals as goal

pub returns-then-fits-clause-short : goal.returns-then-fits-clause-short
returns-then-fits-clause-short c =
    let user = c.args.user.now in
    let s = c.args.statement.now in
    let test = canonical_fits user s c.write_line.new.self.text c.fits.result c.write_line.ensures.text c.fits.ensures in
    sym (fits_minified user s c.write_line.ensures.well_formed c.write_line.ensures.proper (sym test ∙ c.if-fits.true))

pub returns-then-fits-clause-text : goal.returns-then-fits-clause-text
returns-then-fits-clause-text c = λ is.
    let user = c.args.user.now in
    let s = c.args.statement.now in
    let test = canonical_fits user s c.write_line.new.self.text c.fits.result c.write_line.ensures.text c.fits.ensures in
    c.write_line.ensures.text ∙ as_canonical user s (sym test ∙ c.if-fits.true)

pub returns-clause-short : goal.returns-clause-short
returns-clause-short c =
    let user = c.args.user.now in
    let s = c.args.statement.now in
    let name = c.as_bytes.result.now in
    let few = name_short user.0 user.0 (name_spells user.0 c.as_bytes.ensures.name).1 in
    let same : length name ≡ length user.0 = ap length c.as_bytes.ensures.value in
    let most = length name + 1 + 4096 in
    let test : c.fits-2.result ≡ nat_le (length (short user s ++ 10 ∷ [])) (most + 1) = fits_is (short user s ++ 10 ∷ []) c.write_line-2.new.self.text (most + 1) c.fits-2.result c.write_line-2.ensures.text (omega arith) c.fits-2.ensures in
    test ∙ feed_counts (short user s) most ∙ ap (λ (n : ℕ). nat_le (length (short user s)) (n + 1 + 4096)) same ∙ behind_fits user s

pub returns-clause-text : goal.returns-clause-text
returns-clause-text c = λ is.
    let user = c.args.user.now in
    let s = c.args.statement.now in
    let few = name_short user.0 user.0 (name_spells user.0 c.as_bytes.ensures.name).1 in
    let test = canonical_fits user s c.write_line.new.self.text c.fits.result c.write_line.ensures.text c.fits.ensures in
    let e : nat_le (length (minified s)) 4096 ≡ true = sym (returns-clause-short c) ∙ is in
    c.write_line-2.ensures.text ∙ as_minified user s (sym test ∙ c.if-fits.false) few (within (length (minified s)) 4096 e)

pub returns-clause-plain : goal.returns-clause-plain
returns-clause-plain c = λ plain.
    let s = c.args.statement.now in
    returns-clause-short c ∙ is_within (length (minified s)) 4096 (plain_fits s c.write_line.ensures.well_formed c.write_line.ensures.proper plain)

pub returns-then-fits-clause-spelled : goal.returns-then-fits-clause-spelled
returns-then-fits-clause-spelled c = λ is.
    let s = c.args.statement.now in
    spells_back spacings.Minified s c.write_line.ensures.well_formed c.write_line.ensures.proper (within (length (minified s)) 4096 (sym (returns-then-fits-clause-short c)))

pub returns-clause-spelled : goal.returns-clause-spelled
returns-clause-spelled c = λ is.
    let s = c.args.statement.now in
    spells_back spacings.Minified s c.write_line.ensures.well_formed c.write_line.ensures.proper (within (length (minified s)) 4096 (sym (returns-clause-short c) ∙ is))
