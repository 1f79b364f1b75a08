use Rattle.std.proofs.Common.{◌+◌, List, ℕ, length, drop, subst, sym}
use Rattle.std.specs.Option.{option_copied}
use Rattle.std.proofs.lemmas.List.{take_rest}
use Rattle.std.proofs.lemmas.Result.{on_ok_weaker, IfErr-weaker}
use Rattle.parameters_core.specs.Filling.{as_line}
use Rattle.parameters_core.specs.Finding.{part_between}
use Rattle.parameters_core.specs.Putting.{IsPut, IsPutFault, IsFilledByFault, HasValue, says_by, parted}
use Rattle.parameters_core.proofs.Puts.{exit}
use Rattle.parameters_core.proofs.Fills.{SoFar, nothing_yet, has_value, one_more, filled_all, fault_at_end, fault_in_segment, fault_in_place}
use Rattle.parameters_core.proofs.filling.fill_by.Goals as goal

pub loop-place-init : goal.loop-place-init
loop-place-init c = subst (λ (x : List ℕ). SoFar (option_copied c.args.values) c.args.text.now c.args.text.now x) (sym c.clear.ensures.items) (nothing_yet (option_copied c.args.values) c.args.text.now)

pub returns-in_err-put_segment-clause-faulty : goal.returns-in_err-put_segment-clause-faulty
returns-in_err-put_segment-clause-faulty c =
    let vs = option_copied c.args.values in
    let text = c.args.text.now in
    let rest = c.loop-place.rest.now in
    let place = c.in-Some.place in
    exit (IsFilledByFault text vs) _ _ c.from_residual.ensures.1
    (fault_in_segment vs text rest c.loop-place.line.items c.loop-place.invariant (part_between rest place.start place.end) (drop place.end rest) c.in-Some.ensures.begins _ c.in_err-put_segment.ensures.faulty)

pub put_place-requires-clause-value : goal.put_place-requires-clause-value
put_place-requires-clause-value c =
    let vs = option_copied c.args.values in
    let rest = c.loop-place.rest.now in
    let place = c.in-Some.place in
    let found = c.in-Some.ensures in
    let low = found.begins.is_place.some in
    subst (HasValue vs) (sym found.number_is)
    (has_value vs c.args.text.now rest c.loop-place.line.items c.loop-place.invariant (part_between rest place.start place.end) (drop place.end rest) found.begins c.requires low)

pub returns-in_err-put_place-clause-faulty : goal.returns-in_err-put_place-clause-faulty
returns-in_err-put_place-clause-faulty c =
    let vs = option_copied c.args.values in
    let text = c.args.text.now in
    let rest = c.loop-place.rest.now in
    let place = c.in-Some.place in
    let found = c.in-Some.ensures in
    let mid = c.put_segment.new.line.items in
    exit (IsFilledByFault text vs) _ _ c.from_residual-in_err-put_place.ensures.1
    (fault_in_place vs text rest c.loop-place.line.items c.loop-place.invariant (part_between rest place.start place.end) (drop place.end rest) found.begins mid _ c.in_ok-put_segment.ensures.put
    (subst (λ (n : ℕ). IsPutFault (length mid + length (parted (says_by vs n))) c.in_err-put_place.field-0.0) found.number_is c.in_err-put_place.ensures.faulty))

pub loop-place-preserved : goal.loop-place-preserved
loop-place-preserved c =
    let vs = option_copied c.args.values in
    let text = c.args.text.now in
    let rest = c.loop-place.rest.now in
    let place = c.in-Some.place in
    let found = c.in-Some.ensures in
    let mid = c.put_segment.new.line.items in
    let new = c.put_place.new.line.items in
    subst (λ (x : List ℕ). SoFar vs text x new) (sym (take_rest rest place.end))
    (one_more vs text rest c.loop-place.line.items c.loop-place.invariant (part_between rest place.start place.end) (drop place.end rest) found.begins mid new c.in_ok-put_segment.ensures.put
    (subst (λ (n : ℕ). IsPut (parted (says_by vs n)) mid new) found.number_is c.in_ok-put_place.ensures.put))

pub returns-clause-filled : goal.returns-clause-filled
returns-clause-filled c =
    on_ok_weaker c.put_segment-2.result
    (λ p. filled_all (option_copied c.args.values) c.args.text.now c.loop-place.rest.now c.loop-place.line.items c.loop-place.invariant c.put_segment-2.new.line.items c.in_default.ensures p)
    c.put_segment-2.ensures.put

pub returns-clause-faulty : goal.returns-clause-faulty
returns-clause-faulty c =
    IfErr-weaker c.put_segment-2.result (IsPutFault (length c.loop-place.line.items + length (as_line c.loop-place.rest.now))) (IsFilledByFault c.args.text.now (option_copied c.args.values))
    (λ e f. fault_at_end (option_copied c.args.values) c.args.text.now c.loop-place.rest.now c.loop-place.line.items c.loop-place.invariant e c.in_default.ensures f)
    c.put_segment-2.ensures.faulty
