use Rattle.std.proofs.Common.{sym, ap, subst, ◌∙◌}
use Rattle.base_core.specs.declared.value.Row.{Row}
use Rattle.copyup_core.specs.Holding.{Holding}
use Rattle.tables_core.specs.Updating.{with_new_rows}
use Rattle.tables_core.proofs.NewRowLemmas.{AreThere, there-with_item}
use Rattle.tables_core.proofs.update.set_new_rows.Goals as goal

pub loop-number-preserved : goal.loop-number-preserved
loop-number-preserved c =
    let before = c.loop-number.rows.contents in
    let later = c.next.new.self.rest.items in
    let split = c.in-Some.ensures.steps.0 in
    let same = c.replace.ensures.same in
    let there = subst (AreThere before) split c.loop-number.invariant.there in
    record {
      set = ap (λ (h : Holding Row). with_new_rows h.contents later) same ∙ (ap (with_new_rows before) (sym split) ∙ c.loop-number.invariant.set);
      there = subst (λ (h : Holding Row). AreThere h.contents later) (sym same) (there-with_item c.in-Some.number c.in-Some.row before later there.1);
      next = ap (λ (h : Holding Row). h.next) same ∙ c.loop-number.invariant.next;
      rest = ap (λ (h : Holding Row). h.rest) same ∙ c.loop-number.invariant.rest;
    }
