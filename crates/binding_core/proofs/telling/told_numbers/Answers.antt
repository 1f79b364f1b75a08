use Rattle.std.proofs.Common.{◌≡◌, ◌∙◌, get_or, length, sym, subst, arith}
use Rattle.std.proofs.lemmas.List.{get_or_default}
use Rattle.base_core.specs.declared.value.ColType.TheVariants as types_of
use Rattle.binding_core.proofs.Told.{NumberedSoFar, one_more_number}
use Rattle.binding_core.proofs.telling.told_numbers.Goals as goal

pub loop-ty-preserved : goal.loop-ty-preserved
loop-ty-preserved c =
    let k = c.loop-ty.ty-index in
    let types = c.args.types.now in
    let ty = get_or types k types_of.Integer in
    rw c.in_ok-push.ensures.items
    (rw c.told_number.ensures
    (rw c.unwrap_or-oid.ensures
    (one_more_number c.args.told.now c.loop-ty.left c.next.new.self types k c.loop-ty.numbers.items c.loop-ty.invariant c.next.result c.next.ensures.steps
    ty (get_or_default types k types_of.Integer types_of.Text c.loop-ty-test.true))))

pub returns : goal.returns
returns c = record {
  numbers = record {
    all = c.loop-ty.invariant.many ∙ omega (arith, c.loop-ty-test.false, c.loop-ty.invariant.many);
    each = c.loop-ty.invariant.each;
  };
}
