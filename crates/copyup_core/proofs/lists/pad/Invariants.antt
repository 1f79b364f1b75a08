use Rattle.std.proofs.Common.{◌≡◌, ◌≤◌, ◌-◌, ℕ, List, max, vec_len, vec_capacity}
use Rattle.copyup_core.specs.declared.state.State.{State}
use Rattle.copyup_core.specs.Parallel.{slots_of}
use Rattle.copyup_core.proofs.lists.pad.Given as goal

abbrev pub invariant-loop-kept : goal.invariant-loop-kept
invariant-loop-kept g l =
    ((entries : List (ℕ × g.row.V.Denot)) (states : List State) → slots_of entries states l.kept.items ≡ slots_of entries states l.fn.kept.items) × (vec_len l.fn.kept ≤ vec_len l.kept) × (vec_len l.kept ≤ max (vec_len l.fn.kept) l.len) × (vec_capacity l.kept ≡ vec_capacity l.fn.kept)

abbrev pub decreases-loop-kept : goal.decreases-loop-kept
decreases-loop-kept g l = l.len - vec_len l.kept
