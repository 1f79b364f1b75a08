use Rattle.system_core.specs.Standing.{checkpointing, database_of}
use Rattle.system_core.proofs.Captured.{stands-due, checkpointing-given_up, goes_on-given_up}
use Rattle.system_core.proofs.Holding.{after_abandon, holds-abandoned}
use Rattle.system_core.proofs.machine.system.System.give_up.Goals as goal

pub invariant_of-self-2 : goal.invariant_of-self-2
invariant_of-self-2 c =
    let s = c.self.inside in
    let new = c.abandon.new.self in
    stands-due s.chunk s.ledger new c.abandon.new.capture (after_abandon (checkpointing s.capture s.ledger)) s.catalogue c.abandon.ensures.same
    (checkpointing-given_up s.ledger new s.capture c.abandon.new.capture c.abandon.ensures.after)
    (holds-abandoned s.chunk s.ledger (checkpointing s.capture s.ledger) s.catalogue c.self.invariant.keeps)
    (goes_on-given_up s.capture c.abandon.new.capture (database_of new) new.grants_due c.abandon.ensures.after)
