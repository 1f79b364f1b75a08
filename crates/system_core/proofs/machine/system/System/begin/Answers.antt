use Rattle.std.proofs.Common.{◌≡◌, ℕ, Option, length, ap}
use Rattle.base_core.specs.declared.value.Moment.{Moment}
use Rattle.capture_core.specs.Capturing.{ActiveCapture, in_progress}
use Rattle.system_core.specs.Standing.{LedgerState, Checkpointing, database_of, checkpointing, after_begin}
use Rattle.system_core.proofs.Captured.{stands-due}
use Rattle.system_core.proofs.Holding.{holds-begun}
use Rattle.system_core.proofs.Beginning.{begin-refused, was_free, free-none, free-room}
use Rattle.system_core.proofs.machine.system.System.begin.Goals as goal

pub returns-in-Err : goal.returns-in-Err
returns-in-Err c =
    let now : Moment = record { 0 = length c.self.inside.ledger.journal } in
    let at : c.moment-at.result ≡ now = ap (λ (n : ℕ). record { 0 = n }) c.moment-at.ensures.moment in
    rw (← c.self.view_is, c.lack_reply.ensures, at, c.in-Err.ensures.err, c.in-Err.ensures.unchanged)
    (begin-refused c.self.inside.chunk c.self.inside.ledger c.self.inside.capture c.self.inside.catalogue c.begin.result c.in-Err.lack c.in-Err.is c.begin.ensures.lack)

pub invariant_of-self-2 : goal.invariant_of-self-2
invariant_of-self-2 c =
    let s = c.self.inside in
    let ledger : LedgerState = s.ledger in
    let old : Checkpointing = checkpointing s.capture ledger in
    let free = was_free s.chunk ledger s.capture s.catalogue c.begin.result c.in-Ok.number c.in-Ok.is c.begin.ensures.lack in
    let none = ap (λ (o : Option ActiveCapture). in_progress o (database_of ledger) ledger.grants_due) (free-none s.capture ledger.limits.checkpoints free) in
    let room = free-room s.capture ledger.limits.checkpoints free in
    stands-due s.chunk ledger c.begin.new.self c.begin.new.capture (after_begin ledger.journal old) s.catalogue c.begin.ensures.same c.in-Ok.ensures.begins
    (holds-begun ledger s.chunk old s.catalogue none room c.self.invariant.keeps) c.in-Ok.ensures.goes_on
