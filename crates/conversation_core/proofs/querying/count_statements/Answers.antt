use Rattle.std.proofs.Common.{◌≡◌, ◌+◌, ℕ, ◌∷◌, Some, None, length, sym, subst, ap, ◌∙◌, length-append, arith}
use Rattle.parameters_core.specs.Statements.{StandsFirst}
use Rattle.conversation_core.specs.Querying.{HasStatements, said_count}
use Rattle.conversation_core.proofs.querying.count_statements.Goals as goal

pub returns-in_default : goal.returns-in_default
returns-in_default c =
    let statement = c.first_statement.result.0.now in
    let stands : StandsFirst c.statements.left.now statement None = rw c.in_default.is at c.first_statement.ensures in
    subst (λ (n : ℕ). HasStatements c.args.text.now (c.statements.count + n)) (sym c.said_count-count.ensures.said)
    (c.statements.invariant.counts (said_count statement) (HasStatements.last statement stands))

pub statements-preserved : goal.statements-preserved
statements-preserved c =
    let statement = c.first_statement.result.0.now in
    let left = c.statements.left.now in
    let behind = c.in-Some.behind.now in
    let stands : StandsFirst left statement (Some behind) = rw c.in-Some.is at c.first_statement.ensures in
    let long : length left ≡ length statement + length (59 ∷ behind) = ap length stands.0 ∙ length-append statement (59 ∷ behind) in
    record {
      short = omega (arith, c.statements.invariant.short, c.said_count-count.ensures.few, long);
      counts = λ n h.
          let e : c.statements.count + (said_count statement + n) ≡ c.statements.count + c.said_count-count.result + n = omega (arith, c.said_count-count.ensures.said) in
          subst (λ (k : ℕ). HasStatements c.args.text.now k) e (c.statements.invariant.counts (said_count statement + n) (HasStatements.more statement stands h));
    }
