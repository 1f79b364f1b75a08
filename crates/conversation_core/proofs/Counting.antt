-- How many statements of a text say something.
use Rattle.std.proofs.Common.{◌≡◌, ◌≤◌, ◌+◌, ℕ, List, Option, Some, None, ap, subst, arith}
use Rattle.parameters_core.specs.Statements.{StandsFirst}
use Rattle.parameters_core.proofs.Cuts.{first_once}
use Rattle.conversation_core.specs.Querying.{HasStatements, said_count}

none_some : {A : Type 0} {x : A} → None ≡ Some x → ⊥
none_some e = cc

-- those behind the first
pub behind_first : (text statement rest : List ℕ) (n : ℕ) → HasStatements text n → StandsFirst text statement (Some rest) → (m : ℕ) × HasStatements rest m × (n ≡ said_count statement + m)
behind_first text statement rest n (HasStatements.last other a) b = absurd (none_some (first_once text other statement None (Some rest) a b).1)
behind_first text statement rest n (HasStatements.more {rest = others} other {count} a h) b =
    let once = first_once text other statement (Some others) (Some rest) a b in
    let same : others ≡ rest = cc once.1 in
    (count, subst (λ (r : List ℕ). HasStatements r count) same h, ap (λ (s : List ℕ). said_count s + count) once.0)

-- the first is counted
pub first_counted : (text statement : List ℕ) (behind : Option (List ℕ)) (n : ℕ) → HasStatements text n → StandsFirst text statement behind → said_count statement ≤ n
first_counted text statement behind n (HasStatements.last other a) b =
    let same = ap said_count (first_once text other statement None behind a b).0 in omega (arith, same)
first_counted text statement behind n (HasStatements.more {rest = others} other {count} a h) b =
    let same = ap said_count (first_once text other statement (Some others) behind a b).0 in omega (arith, same)
