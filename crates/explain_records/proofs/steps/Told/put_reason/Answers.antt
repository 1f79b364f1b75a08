use Rattle.std.proofs.Common.{◌≡◌, ◌++◌, ◌∷◌, [], Some, ◌∙◌, ap, refl, subst, sym}
use Rattle.std.specs.List.{All, slice_get}
use Rattle.std.proofs.lemmas.Result.{on_ok_weaker}
use Rattle.export_core.specs.Record.{text_in}
use Rattle.explain_core.specs.Chains.{IsWhy}
use Rattle.explain_core.specs.Lives.{lives_of}
use Rattle.explain_core.specs.declared.life.Life.{Life}
use Rattle.explain_core.specs.declared.why.Why.TheVariants as why
use Rattle.explain_core.proofs.LifeLemmas.{given-at}
use Rattle.explain_records.specs.Telling.{lines}
use Rattle.explain_records.specs.Steps.{owner_step}
use Rattle.explain_records.proofs.steps.Told.put_reason.Goals as goal

pub put_lacks-requires-clause-known : goal.put_lacks-requires-clause-known
put_lacks-requires-clause-known c =
    let told = c.args.self.now in
    let changes = told.past.history.now in
    let (lacks, given_is, fallen) = subst (IsWhy changes told.user told.atom) c.in-Lacks.is c.in_ok-since.ensures in
    subst (All (λ (life : Life). slice_get (lives_of changes) life.grant.number ≡ Some life)) (sym (c.deref-in-Lacks.ensures.value ∙ given_is)) (given-at changes told.user told.atom)

pub returns-in-Owns-clause-text : goal.returns-in-Owns-clause-text
returns-in-Owns-clause-text c =
    let told = c.args.self.now in
    let since = c.in-Owns.since in
    let step = owner_step told.past.numbers.now told.user told.atom since in
    let is = subst (IsWhy told.past.history.now told.user told.atom) c.in-Owns.is c.in_ok-since.ensures in
    on_ok_weaker c.put.result
    (λ written. (step ∷ [], (why.Owns since, is, refl), written ∙ ap (λ fields. text_in c.args.writer.now ++ lines (fields ∷ [])) c.owner_of.ensures))
    c.put.ensures.text
