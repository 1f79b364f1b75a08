use Rattle.std.proofs.Common.{◌≡◌, length, sym, ◌∙◌}
use Rattle.std.proofs.lemmas.Bool.{eqb-true}
use Rattle.tables_core.proofs.FittingLemmas.{ValuesFit-length, types-of, ValuesFit-from}
use Rattle.tables_core.proofs.rows.fits.Goals as goal

pub returns-then-columns-values : goal.returns-then-columns-values
returns-then-columns-values c =
    let long : length c.args.columns.now ≡ length c.args.values.now = c.if-columns-values.true in
    (λ yes. ValuesFit-from _ _ long (sym c.have_types.ensures ∙ yes), λ h. c.have_types.ensures ∙ types-of _ _ h)

pub returns-else-columns-values : goal.returns-else-columns-values
returns-else-columns-values c =
    (λ yes. absurd (c.if-columns-values.false (eqb-true _ _ yes)), λ h. absurd (c.if-columns-values.false (ValuesFit-length _ _ h)))
