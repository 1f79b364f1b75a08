use Rattle.std.proofs.Common.{List, subst}
use Rattle.grants_core.specs.declared.grant.Change.{Change}
use Rattle.explain_core.specs.Kept.{Explains}
use Rattle.explain_core.proofs.history.History.read.Goals as goal

pub invariant_of-result : goal.invariant_of-result
invariant_of-result c =
    let Of : List Change → Type 0 = λ cs. Explains cs c.in_ok-made.made.owners c.in-Ok.lives.items c.in-Ok.supports.items in
    subst Of c.deref-2.ensures.value c.in-Ok.ensures
