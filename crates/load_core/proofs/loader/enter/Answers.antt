use Rattle.std.proofs.Common.{refl, sym, ◌∙◌}
use Rattle.std.proofs.lemmas.Bool.{false≢true}
use Rattle.load_core.proofs.Entering.{refused}
use Rattle.load_core.proofs.loader.enter.Goals as goal

pub deny-requires : goal.deny-requires
deny-requires c = λ allowed. false≢true (sym c.if-not-may_change.true ∙ c.may_change.ensures.1 (allowed, sym c.is_change.ensures ∙ c.if-not-is_change.false))

pub returns-then-not-may_change : goal.returns-then-not-may_change
returns-then-not-may_change c =
    let change = sym c.is_change.ensures ∙ c.if-not-is_change.false in
    (refused c.args.system.now c.args.entry c.deny.result (λ allowed. false≢true (sym c.if-not-may_change.true ∙ c.may_change.ensures.1 (allowed, change))) c.deny.ensures change, refl)
