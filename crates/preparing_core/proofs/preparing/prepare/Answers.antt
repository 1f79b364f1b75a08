use Rattle.std.proofs.Common.{◌≡◌, ℕ, List, Result, Ok, sym, subst, ◌∙◌}
use Rattle.base_core.specs.declared.value.ColType.{ColType}
use Rattle.binding_core.specs.Telling.{AreNumbers, AreWanted, IsTypeFault}
use Rattle.preparing_core.specs.declared.fault.PrepareFault.{PrepareFault}
use Rattle.preparing_core.specs.declared.prepared.Prepared.{Prepared}
use Rattle.preparing_core.specs.Preparing.{Prepares, exhausted, hindered, mistyped, prepared, several}
use Rattle.preparing_core.proofs.Results.{exits}
use Rattle.preparing_core.proofs.preparing.prepare.Goals as goal

pub returns-in_default-clause-prepares : goal.returns-in_default-clause-prepares
returns-in_default-clause-prepares g c = several c.in_default.ensures

pub returns-in_err-guess-clause-prepares : goal.returns-in_err-guess-clause-prepares
returns-in_err-guess-clause-prepares g c =
    exits (λ (r : Result Prepared PrepareFault). Prepares c.args.desk.now c.args.user c.args.text.now c.args.told.now c.args.pass.now r c.guess_types.new.pass)
    c.from_residual.result _ c.from_residual.ensures.1 (hindered c.in-Some.ensures c.in_err-guess.ensures.guesses)

pub returns-in_err-types-clause-prepares : goal.returns-in_err-types-clause-prepares
returns-in_err-types-clause-prepares g c =
    let fault = c.in_err-types.field-0.0 in
    exits (λ (r : Result Prepared PrepareFault). Prepares c.args.desk.now c.args.user c.args.text.now c.args.told.now c.args.pass.now r c.guess_types.new.pass)
    c.from_residual-in_err-types.result _ c.from_residual-in_err-types.ensures.1
    (mistyped fault c.in-Some.ensures c.in_ok-guess.ensures.guesses
    (subst (λ (guess : List ColType). IsTypeFault c.args.told.now guess fault) c.as_slice.ensures c.in_err-types.ensures.faulty))

pub returns-in_err-numbers-clause-prepares : goal.returns-in_err-numbers-clause-prepares
returns-in_err-numbers-clause-prepares g c =
    exits (λ (r : Result Prepared PrepareFault). Prepares c.args.desk.now c.args.user c.args.text.now c.args.told.now c.args.pass.now r c.guess_types.new.pass)
    c.from_residual-in_err-numbers.result _ c.from_residual-in_err-numbers.ensures.1 (exhausted c.in_ok-guess.ensures.watched)

pub returns-in_err-text-clause-prepares : goal.returns-in_err-text-clause-prepares
returns-in_err-text-clause-prepares g c =
    exits (λ (r : Result Prepared PrepareFault). Prepares c.args.desk.now c.args.user c.args.text.now c.args.told.now c.args.pass.now r c.guess_types.new.pass)
    c.from_residual-in_err-text.result _ c.from_residual-in_err-text.ensures.1 (exhausted c.in_ok-guess.ensures.watched)

pub returns-clause-prepares : goal.returns-clause-prepares
returns-clause-prepares g c =
    let desk = c.args.desk.now in
    let user = c.args.user in
    let told = c.args.told.now in
    let old = c.args.pass.now in
    let new = c.guess_types.new.pass in
    let kept : c.from_vec.result ≡ c.in-Some.statement.now = c.from_vec.ensures ∙ c.in_ok-text.ensures.items_if_clones_equal (λ x y same. same) in
    let are = subst (λ (guess : List ColType). AreWanted told guess c.in_ok-types.types.items) c.as_slice.ensures c.in_ok-types.ensures.types in
    let numbered = subst (λ (types : List ColType). AreNumbers told types c.in_ok-numbers.numbers.items) c.as_slice-2.ensures.value c.in_ok-numbers.ensures.numbers in
    subst (λ (text : List ℕ). Prepares desk user c.args.text.now told old (Ok (record { text = text; types = c.from_vec-2.result; numbers = c.from_vec-3.result })) new) (sym kept)
    (subst (λ (types : List ColType). Prepares desk user c.args.text.now told old (Ok (record { text = c.in-Some.statement.now; types = types; numbers = c.from_vec-3.result })) new) (sym c.from_vec-2.ensures)
    (subst (λ (numbers : List ℕ). Prepares desk user c.args.text.now told old (Ok (record { text = c.in-Some.statement.now; types = c.in_ok-types.types.items; numbers = numbers })) new) (sym c.from_vec-3.ensures)
    (prepared c.in-Some.ensures c.in_ok-guess.ensures.guesses are numbered)))
