use Rattle.std.proofs.Common.{◌≡◌, [], ◌++◌, map, vec_len, All, Some}
use Rattle.std.specs.Prelude.{None}
use Rattle.turnstile.specs.Places.{known_in}
use Rattle.turnstile.proofs.turnstile.Turnstile.gather.Given as goal

abbrev pub invariant-loop-pass : goal.invariant-loop-pass
invariant-loop-pass g l = (l.all.table_id ≡ l.self.identity) × All (λ p. p.lock ≡ Some l.self) l.passes.items × (map known_in l.passes.items ++ l.all.me.0.passes ≡ map known_in l.fn.passes.items)
    × (l.all.me.0.ticket ≡ None) × (l.all.me.0.taken ≡ None) × (l.all.me.1 ≡ [])

abbrev pub decreases-loop-pass : goal.decreases-loop-pass
decreases-loop-pass g l = vec_len l.passes
