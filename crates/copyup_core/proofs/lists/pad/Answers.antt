use Rattle.std.proofs.Common.{◌∙◌, ap, arith}
use Rattle.copyup_core.specs.Parallel.{slots_of}
use Rattle.copyup_core.proofs.Parallel.{pad-kept}
use Rattle.copyup_core.proofs.lists.pad.Goals as goal

pub loop-kept-preserved : goal.loop-kept-preserved
loop-kept-preserved g c =
    let k = c.loop-kept.invariant in
    let e = c.push_reserved.ensures in
    (λ es ss. ap (λ t. slots_of es ss t) e.items ∙ pad-kept es ss c.loop-kept.kept.items ∙ k.0 es ss, omega (arith, e.len, k.1), omega (arith, e.len, k.2, c.len.ensures, c.loop-kept-test.true), e.capacity ∙ k.3)
