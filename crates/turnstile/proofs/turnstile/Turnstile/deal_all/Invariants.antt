use Rattle.std.proofs.Common.{◌≡◌, ◌-◌, List, [], ◌++◌}
use Rattle.std.specs.Prelude.{Some}
use Rattle.turnstile.specs.Rule.{fresh_from, dealer}
use Rattle.turnstile.specs.Passes.{passes_from, new_passes}
use Rattle.turnstile.specs.Places.{terms_of}
use Rattle.turnstile.proofs.turnstile.Turnstile.deal_all.Given as goal

abbrev pub invariant-loop-number : goal.invariant-loop-number
invariant-loop-number g l = let lock = l.self in (l.seat.table_id ≡ lock.identity) × ((seen : List g.row.O-Entry.Denot) → l.initial.seat.me ≡ (dealer (fresh_from seen lock.start 0 lock.count) (Some (terms_of lock)), [])
    → (l.seat.me ≡ (dealer (fresh_from seen lock.start l.number (lock.count - l.number)) (Some (terms_of lock)), [])) × (l.passes.items ++ passes_from seen lock l.number (lock.count - l.number) ≡ new_passes seen lock))
