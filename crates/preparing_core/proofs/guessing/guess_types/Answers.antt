use Rattle.std.proofs.Common.{List, Result, Ok, refl, sym, subst, ◌∙◌}
use Rattle.base_core.specs.declared.value.ColType.{ColType}
use Rattle.base_core.specs.declared.value.Column.{Column}
use Rattle.preparing_core.specs.declared.fault.PrepareFault.{PrepareFault}
use Rattle.preparing_core.specs.Guessing.{AreGuessed, AreUnguessed, Guesses, commanded, exhausted, guessed, silent, undescribed, unfilled, unguessed}
use Rattle.preparing_core.proofs.Described.{statement_described}
use Rattle.preparing_core.proofs.Results.{either, exits}
use Rattle.preparing_core.proofs.guessing.guess_types.Goals as goal

pub returns-then-is_empty_statement-clause-guesses : goal.returns-then-is_empty_statement-clause-guesses
returns-then-is_empty_statement-clause-guesses g c =
    subst (λ (guess : List ColType). Guesses c.args.desk.now c.args.user c.args.statement.now c.args.pass.now (Ok guess) c.args.pass.now) (sym c.new.ensures)
    (silent (sym c.is_empty_statement.ensures ∙ c.if-is_empty_statement.true))

pub returns-in_err-fill_with_ones-clause-guesses : goal.returns-in_err-fill_with_ones-clause-guesses
returns-in_err-fill_with_ones-clause-guesses g c =
    exits (λ (r : Result (List ColType) PrepareFault). Guesses c.args.desk.now c.args.user c.args.statement.now c.args.pass.now r c.args.pass.now)
    c.from_residual.result _ c.from_residual.ensures.1
    (unfilled c.in_err-fill_with_ones.field-0.0 (sym c.is_empty_statement.ensures ∙ c.if-is_empty_statement.false) c.in_err-fill_with_ones.ensures.faulty)

pub returns-in_err-found-clause-guesses : goal.returns-in_err-found-clause-guesses
returns-in_err-found-clause-guesses g c =
    exits (λ (r : Result (List ColType) PrepareFault). Guesses c.args.desk.now c.args.user c.args.statement.now c.args.pass.now r c.describe-told.new.pass)
    c.from_residual-in_err-found.result _ c.from_residual-in_err-found.ensures.1
    (undescribed
    (statement_described c.args.desk.now c.args.user c.args.statement.now c.fill_with_ones.new.line.items c.as_slice.result.now c.is_empty_statement.result c.args.pass.now c.describe-told.new.pass c.describe-told.result c.describe-told.result
    c.is_empty_statement.ensures c.if-is_empty_statement.false c.in_ok-fill_with_ones.ensures.filled c.as_slice.ensures.value c.describe-told.ensures.describes refl)
    c.in_err-found.ensures.faulty)

pub returns-in_err-text_types-in-Command-clause-guesses : goal.returns-in_err-text_types-in-Command-clause-guesses
returns-in_err-text_types-in-Command-clause-guesses g c =
    exits (λ (r : Result (List ColType) PrepareFault). Guesses c.args.desk.now c.args.user c.args.statement.now c.args.pass.now r c.describe-told.new.pass)
    c.from_residual-in_err-text_types-in-Command.result _ c.from_residual-in_err-text_types-in-Command.ensures.1 (exhausted c.describe-told.ensures.watched)

pub returns-in-Command-clause-guesses : goal.returns-in-Command-clause-guesses
returns-in-Command-clause-guesses g c =
    let found = rw c.in-Command.is at c.in_ok-found.ensures.found in
    subst (λ (guess : List ColType). Guesses c.args.desk.now c.args.user c.args.statement.now c.args.pass.now (Ok guess) c.describe-told.new.pass) (sym c.in_ok-text_types-in-Command.ensures)
    (commanded
    (statement_described c.args.desk.now c.args.user c.args.statement.now c.fill_with_ones.new.line.items c.as_slice.result.now c.is_empty_statement.result c.args.pass.now c.describe-told.new.pass c.describe-told.result _
    c.is_empty_statement.ensures c.if-is_empty_statement.false c.in_ok-fill_with_ones.ensures.filled c.as_slice.ensures.value c.describe-told.ensures.describes found)
    c.greatest_place-count.ensures)

pub returns-clause-guesses : goal.returns-clause-guesses
returns-clause-guesses g c =
    let desk = c.args.desk.now in
    let user = c.args.user in
    let statement = c.args.statement.now in
    let old = c.args.pass.now in
    let new = c.describe-told.new.pass in
    let found = rw c.in-Columns.is at c.in_ok-found.ensures.found in
    let told = statement_described desk user statement c.fill_with_ones.new.line.items c.as_slice.result.now c.is_empty_statement.result old new c.describe-told.result _
    c.is_empty_statement.ensures c.if-is_empty_statement.false c.in_ok-fill_with_ones.ensures.filled c.as_slice.ensures.value c.describe-told.ensures.describes found.1 in
    either (λ (r : Result (List ColType) PrepareFault). Guesses desk user statement old r new)
    (AreGuessed statement c.as_slice-in-Columns.result.now c.greatest_place-count.result) (AreUnguessed statement c.greatest_place-count.result)
    c.guess_by_columns.result c.guess_by_columns.ensures.guessed c.guess_by_columns.ensures.faulty
    (λ guess are. guessed told c.greatest_place-count.ensures
    (subst (λ (columns : List Column). AreGuessed statement columns c.greatest_place-count.result guess) c.as_slice-in-Columns.ensures are))
    (λ fault are_not. unguessed told c.greatest_place-count.ensures are_not)
