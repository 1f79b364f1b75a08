use Rattle.std.proofs.Common.{◌+◌, ◌-◌, List, ℕ, drop, refl, sym, ap, subst, arith}
use Rattle.std.proofs.lemmas.List.{take_rest}
use Rattle.parameters_core.proofs.AlongText.{OriginSoFar, gone, in_segment, in_place, past_place, origin_all}
use Rattle.parameters_core.proofs.positions.position.Goals as goal

pub returns-then-left-place-clause-origin : goal.returns-then-left-place-clause-origin
returns-then-left-place-clause-origin c =
    let rest = c.loop-place.rest.now in
    let place = c.in-Some.place in
    let found = c.in-Some.ensures in
    in_segment c.args.text.now rest c.args.offset c.loop-place.left c.loop-place.invariant place.start place.end (drop place.end rest) found.begins (omega (arith, found.within, found.some)) _ c.if-left-place.true refl

pub returns-then-left-lt-PLACE_BYTES-clause-origin : goal.returns-then-left-lt-PLACE_BYTES-clause-origin
returns-then-left-lt-PLACE_BYTES-clause-origin c =
    let rest = c.loop-place.rest.now in
    let place = c.in-Some.place in
    let found = c.in-Some.ensures in
    in_place c.args.text.now rest c.args.offset c.loop-place.left c.loop-place.invariant place.start place.end (drop place.end rest) found.begins (omega (arith, found.within, found.some)) _ c.if-left-place.false c.if-left-lt-PLACE_BYTES.true refl

pub loop-place-preserved : goal.loop-place-preserved
loop-place-preserved c =
    let rest = c.loop-place.rest.now in
    let place = c.in-Some.place in
    let found = c.in-Some.ensures in
    subst (λ (x : List ℕ). OriginSoFar c.args.text.now x c.args.offset (c.loop-place.left - place.start - 3)) (sym (take_rest rest place.end))
    (past_place c.args.text.now rest c.args.offset c.loop-place.left c.loop-place.invariant place.start place.end (drop place.end rest) found.begins (omega (arith, found.within, found.some)) _ c.if-left-place.false c.if-left-lt-PLACE_BYTES.false refl)

pub returns-clause-origin : goal.returns-clause-origin
returns-clause-origin c =
    origin_all c.args.text.now c.loop-place.rest.now c.args.offset c.loop-place.left c.loop-place.invariant _ c.in_default.ensures
    (ap (λ (n : ℕ). gone c.args.text.now c.loop-place.rest.now + n) c.min.ensures)
