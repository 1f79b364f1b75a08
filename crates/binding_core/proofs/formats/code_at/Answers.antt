use Rattle.std.proofs.Common.{ℕ, sym, ◌∙◌}
use Rattle.std.proofs.lemmas.Iterator.Consumers.{YieldsList-from_first, nth_from_yields_List}
use Rattle.binding_core.proofs.Codes.{code_each}
use Rattle.binding_core.proofs.formats.code_at.Goals as goal

pub returns : goal.returns
returns c =
    let codes = c.args.codes.now in
    let road = YieldsList-from_first (λ (x : ℕ). x) (λ left. left) codes c.iter.ensures in
    c.unwrap_or.ensures
    ∙ code_each codes c.next.new.self c.next-2.new.self c.in-Some.first c.in-Some-next.field-0 c.args.index c.nth.result
    (sym c.iter-left.ensures ∙ c.in-Some.ensures.steps) c.in-Some-next.ensures.steps
    (nth_from_yields_List c.nth.result c.nth.new.self c.args.index c.nth.ensures.ran road)
