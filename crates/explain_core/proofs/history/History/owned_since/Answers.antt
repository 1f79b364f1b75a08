use Rattle.std.proofs.Common.{◌∙◌, List, Some, ap, sym, refl, subst, arith}
use Rattle.std.proofs.lemmas.Bool.{both_ways}
use Rattle.std.proofs.lemmas.Option.{slice_get_read}
use Rattle.std.specs.List.{slice_get}
use Rattle.grants_core.specs.declared.grant.Change.{Change}
use Rattle.grants_core.specs.Owners.{owns}
use Rattle.grants_core.specs.History.{owners_after}
use Rattle.grants_core.specs.Lawful.{AreCreatedFirst}
use Rattle.explain_core.proofs.CreationLemmas.{owns-none, owns-created_there, owns-not_created_there}
use Rattle.explain_core.proofs.history.History.owned_since.Goals as goal

pub loop-change-init : goal.loop-change-init
loop-change-init c = record { counted = refl; unowned = owns-none c.args.user.now c.args.atom.now }

pub returns-then-creates : goal.returns-then-creates
returns-then-creates c =
    let now = c.deref-change-items.ensures.value ∙ c.self.view_is in
    let creates = c.creates.ensures.0 c.if-creates.true in
    let Created : List Change → Type 0 = λ k. AreCreatedFirst k in
    let first = subst Created (sym c.deref-change-items.ensures.value) c.self.invariant.lawful.created in
    let Owns = λ (k : List Change). owns (owners_after k) c.args.user.now c.args.atom.now in (
      ap Owns (sym c.self.view_is) ∙ ap Owns (sym c.deref-change-items.ensures.value)
          ∙ owns-created_there c.deref-change-items.result.now c.loop-change.change-index c.change-item.result c.args.user.now c.args.atom.now c.loop-change-test.true c.change-item.is first creates,
      (
        c.loop-change.change-index,
        omega (arith, c.loop-change.invariant.counted),
        ap (λ (k : List Change). slice_get k c.loop-change.change-index) (sym now) ∙ slice_get_read c.deref-change-items.result.now _ c.loop-change.change-index c.change-item.result refl c.loop-change-test.true c.change-item.is ∙ ap (λ x. Some x) creates,
      ),
    )

pub loop-change-preserved : goal.loop-change-preserved
loop-change-preserved c = record {
  counted = omega (arith, c.loop-change.invariant.counted);
  unowned = owns-not_created_there c.deref-change-items.result.now c.loop-change.change-index c.change-item.result c.args.user.now c.args.atom.now c.loop-change-test.true c.change-item.is
      c.loop-change.invariant.unowned (λ creates. both_ways _ c.if-creates.false (c.creates.ensures.1 creates));
}
