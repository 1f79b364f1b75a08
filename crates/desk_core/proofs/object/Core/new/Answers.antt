use Rattle.std.proofs.Common.{◌∙◌, ap, sym, subst, refl, length, drop, le_of_eq, List}
use Rattle.std.proofs.Math.Seq.{drop-length}
use Rattle.system_core.specs.World.{World}
use Rattle.system_core.specs.declared.machine.event.Entry.{Entry}
use Rattle.journal_core.specs.Keeping.{KeepsAll, all}
use Rattle.desk_core.proofs.object.Core.new.Goals as goal

pub invariant_of-result : goal.invariant_of-result
invariant_of-result g c =
    let K = g.K.Keeper in
    let boxed = c.in_ok-system.system.value in
    let is = c.in_ok-system.ensures.ok ∙ sym c.of-built.ensures in
    let same = ap (λ (w : World). length w.journal) (sym is) in
    let none_left = ap (λ n. drop n boxed.journal) same ∙ drop-length boxed.journal in (
      ap (λ (w : World). w.chunk) is,
      ap (λ (w : World). w.limits) is,
      le_of_eq same,
      all c.requires (subst (λ (z : g.row.K.Denot × List Entry). KeepsAll K.keeps z.0 z.1 c.args.keeper) (λ i. (sym c.of-begun.ensures i, sym none_left i)) refl),
    )
