use Rattle.std.proofs.Common.{◌≡◌, ℕ, ◌<◌, get_or}
use Rattle.base_core.specs.declared.value.Value.{Value}
use Rattle.stream_core.proofs.rows.have_same_values.Given as goal

abbrev pub invariant-loop-at : goal.invariant-loop-at
invariant-loop-at l = (i : ℕ) (d : Value) → i < l.at → get_or l.one i d ≡ get_or l.other i d
