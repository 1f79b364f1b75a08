use Rattle.std.proofs.Common.{◌≤◌, length, take, ap, sym, ◌∙◌, arith}
use Rattle.std.proofs.lemmas.List.{length-take-le, take_all}
use Rattle.reply_core.specs.declared.pending.TheConstants.{LINES_AT_ONCE}
use Rattle.reply_core.proofs.pending.part_from.Goals as goal

pub returns-then-rest-le-LINES_AT_ONCE-clause-part : goal.returns-then-rest-le-LINES_AT_ONCE-clause-part
returns-then-rest-le-LINES_AT_ONCE-clause-part g c =
    let rest = c.rest_from-rest.result.now in
    sym (take_all LINES_AT_ONCE rest c.if-rest-le-LINES_AT_ONCE.true) ∙ ap (take LINES_AT_ONCE) c.rest_from-rest.ensures

pub slice_bounds-result-end : goal.slice_bounds-result-end
slice_bounds-result-end g c =
    let rest = c.rest_from-rest.result.now in
    let above : LINES_AT_ONCE ≤ length rest = omega arith in
    sym (length-take-le LINES_AT_ONCE rest above)
