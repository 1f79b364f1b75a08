use Rattle.std.proofs.Common.{List, ℕ, refl, sym, ◌∙◌, subst, arith}
use Rattle.std.proofs.lemmas.List.{take_rest}
use Rattle.parameters_core.specs.Places.{BeginsNoPlace}
use Rattle.parameters_core.specs.Finding.{IsFrontPlace}
use Rattle.parameters_core.proofs.AlongText.{first_found, none_found, one_byte}
use Rattle.parameters_core.proofs.places.first_place.Goals as goal

pub loop-at-init : goal.loop-at-init
loop-at-init c = (refl, λ k h e. absurd (omega (arith, h)))

pub returns-in-Some : goal.returns-in-Some
returns-in-Some c =
    let text = c.args.text.now in
    let found = subst (λ (x : List ℕ). IsFrontPlace x c.in-Some.len c.in-Some.number) (take_rest text c.loop-at.at) c.in-Some.ensures.1 in
    first_found text c.loop-at.at c.in-Some.len c.in-Some.number c.loop-at.invariant.1 c.loop-at-test.true (sym c.loop-at.invariant.0 ∙ c.in-Some.ensures.0) found

pub loop-at-preserved : goal.loop-at-preserved
loop-at-preserved c =
    let text = c.args.text.now in
    one_byte text c.loop-at.at c.loop-at.is_inside c.inside_behind-is_inside.result c.loop-at.invariant.0 c.loop-at.invariant.1 c.loop-at-test.true
    (λ e. subst BeginsNoPlace (take_rest text c.loop-at.at) (c.in_default.ensures e)) c.inside_behind-is_inside.ensures

pub returns : goal.returns
returns c = none_found c.args.text.now c.loop-at.at c.loop-at.invariant.1 c.loop-at-test.false
