use Rattle.std.proofs.Common.{◌≡◌, false}
use Rattle.std.specs.List.{AllWithin}
use Rattle.copyup_core.specs.Parallel.{is_live_state}
use Rattle.copyup_core.proofs.lists.next_live.Given as goal

abbrev pub invariant-loop-i : goal.invariant-loop-i
invariant-loop-i l = AllWithin (λ s. is_live_state s ≡ false) l.states l.from l.i
