use Rattle.std.proofs.Common.{◌++◌, ◌∙◌, [], append-nil, ap, sym}
use Rattle.std.specs.Option.{option_map_or}
use Rattle.explain_core.specs.Alternatives.{alternatives, alternatives_to}
use Rattle.explain_core.proofs.AlternativeLemmas.{alternatives-step}
use Rattle.explain_core.proofs.alternative.alternatives.Goals as goal

pub loop-support-preserved-in_ok-push_alternatives :
    goal.loop-support-preserved-in_ok-push_alternatives
loop-support-preserved-in_ok-push_alternatives c =
    let at = c.args.at in
    let lives = c.args.lives.now in
    let support = c.in-Some.support.now in
    let behind = c.in-Some.behind.now in
    let found = c.loop-support.found.items in
    alternatives-step at lives c.loop-support.rest.now behind support found c.push_alternatives.new.found.items (alternatives at lives c.args.descent.now)
    c.in-Some.ensures.cases.0
    (c.in_ok-push_alternatives.ensures ∙ ap (λ o. found ++ option_map_or (alternatives_to at lives support) o []) c.in-Some-first.ensures.value)
    c.loop-support.invariant

pub loop-support-preserved : goal.loop-support-preserved
loop-support-preserved c =
    let at = c.args.at in
    let lives = c.args.lives.now in
    let support = c.in-Some.support.now in
    let behind = c.in-Some.behind.now in
    let found = c.loop-support.found.items in
    alternatives-step at lives c.loop-support.rest.now behind support found found (alternatives at lives c.args.descent.now)
    c.in-Some.ensures.cases.0
    (sym (append-nil found) ∙ ap (λ o. found ++ option_map_or (alternatives_to at lives support) o []) c.in_default-first.ensures.value)
    c.loop-support.invariant
