use Rattle.std.proofs.Common.{◌≡◌, ℕ, ◌≤◌, []}
use Rattle.turnstile.specs.Steps.{with_count}
use Rattle.turnstile.specs.Places.{known_of}
use Rattle.turnstile.proofs.turnstile.Turnstile.draw.Given as goal

-- only the count of turns drawn has changed, and it has not fallen
abbrev pub invariant-loop : goal.invariant-loop
invariant-loop g l = (l.seat.table_id ≡ l.initial.seat.table_id) × (n : ℕ) × (l.seat.me ≡ (with_count l.initial.seat.me.0 n, [])) × ((known_of l.initial.seat.me).drawn ≤ n)
