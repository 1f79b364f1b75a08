use Rattle.std.proofs.Common.{ℕ, ◌≤◌, sym, subst, ◌∙◌}
use Rattle.conversation_core.specs.Extending.IsNameFault.{full, taken}
use Rattle.conversation_core.specs.State.{statement_named}
use Rattle.conversation_core.specs.declared.statements.TheConstants.{MOST_PREPARED}
use Rattle.conversation_core.proofs.Naming.{none_lent, some_lent}
use Rattle.conversation_core.proofs.statements.name_fault.Goals as goal

pub returns-then-is_some : goal.returns-then-is_some
returns-then-is_some c =
    taken (sym c.is_unnamed.ensures ∙ c.if-is_unnamed.false)
    (some_lent c.statement_named.result (statement_named c.args.name.now c.args.statements.now) c.statement_named.ensures (sym c.is_some.ensures ∙ c.if-is_some.true))

pub returns-then-statement_count-ge-MOST_PREPARED : goal.returns-then-statement_count-ge-MOST_PREPARED
returns-then-statement_count-ge-MOST_PREPARED c =
    full (sym c.is_unnamed.ensures ∙ c.if-is_unnamed.false)
    (none_lent c.statement_named.result (statement_named c.args.name.now c.args.statements.now) c.statement_named.ensures (sym c.is_some.ensures ∙ c.if-is_some.false))
    (subst (λ (n : ℕ). MOST_PREPARED ≤ n) c.statement_count.ensures c.if-statement_count-ge-MOST_PREPARED.true)
