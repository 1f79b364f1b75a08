use Rattle.std.proofs.Common.{◌≡◌, ◌++◌, ◌∷◌, [], List, ◌∙◌, ap, length, refl, rules, subst, sym}
use Rattle.std.proofs.lemmas.Result.{on_ok_weaker}
use Rattle.export_core.specs.Record.{text_in}
use Rattle.explain_core.specs.declared.life.Life.{Life}
use Rattle.explain_records.specs.Telling.{lines}
use Rattle.explain_records.specs.Steps.{TellLosses, never_given}
use Rattle.explain_records.proofs.Reasons.{none-in}
use Rattle.explain_records.proofs.steps.Told.put_lacks.Goals as goal

pub returns-then-is_empty-clause-text : goal.returns-then-is_empty-clause-text
returns-then-is_empty-clause-text c =
    let told = c.args.self.now in
    let never = never_given told.user told.atom in
    let zero_long : length c.args.given.now ≡ 0 = search rules in
    let none = none-in c.args.given.now zero_long in
    let Lost : List Life → Type 0 = λ given. TellLosses told.past.history.now told.past.numbers.now told.user told.atom given (never ∷ []) in
    on_ok_weaker c.put.result
    (λ written. (never ∷ [], subst Lost (sym none) refl, written ∙ ap (λ fields. text_in c.args.writer.now ++ lines (fields ∷ [])) c.never_of.ensures))
    c.put.ensures.text
