use Rattle.std.proofs.Common.{List, ℕ, drop, sym, subst}
use Rattle.std.proofs.lemmas.List.{take_rest}
use Rattle.parameters_core.specs.Finding.{part_between}
use Rattle.parameters_core.proofs.AlongText.{GreatestSoFar, none_yet, greater, greatest_all}
use Rattle.parameters_core.proofs.places.greatest_place.Goals as goal

pub loop-place-init : goal.loop-place-init
loop-place-init c = none_yet c.args.text.now

pub loop-place-preserved : goal.loop-place-preserved
loop-place-preserved c =
    let rest = c.loop-place.rest.now in
    let place = c.in-Some.place in
    let found = c.in-Some.ensures in
    subst (λ (x : List ℕ). GreatestSoFar c.args.text.now x c.max-greatest.result) (sym (take_rest rest place.end))
    (greater c.args.text.now rest (drop place.end rest) c.loop-place.greatest place.number c.max-greatest.result (part_between rest place.start place.end) c.loop-place.invariant found.begins found.number_is c.max-greatest.ensures)

pub returns : goal.returns
returns c = greatest_all c.args.text.now c.loop-place.rest.now c.loop-place.greatest c.loop-place.invariant c.in_default.ensures
