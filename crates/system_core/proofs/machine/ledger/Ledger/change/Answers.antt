use Rattle.std.proofs.Common.{◌≡◌, ℕ, Ok, ap, sym, subst, ◌∙◌, length}
use Rattle.system_core.specs.Journal.{verdict_at, change_of}
use Rattle.system_core.specs.Carrying.{CanCarry, rights_after}
use Rattle.system_core.proofs.Keeping.{CanCarry-stands, Stands-more, Stands-left}
use Rattle.system_core.proofs.machine.ledger.Ledger.change.Goals as goal

pub carry_out-requires-clause-can : goal.carry_out-requires-clause-can
carry_out-requires-clause-can c =
    let ok : verdict_at c.self.inside.limits c.self.inside.journal.items c.args.entry.user c.args.entry.statement ≡ Ok tt = rw (← c.self.view_is) at c.requires.allowed in
    let moment : c.count-moment.result ≡ length c.self.inside.journal.items = c.count-moment.ensures ∙ ap length (c.deref.ensures.value ∙ c.reserve.ensures.items) in
    let At : ℕ → Type 0 = λ m. CanCarry c.self.inside.tables.tables c.self.inside.rights.content m c.args.entry.user c.args.entry.statement in
    subst At (sym moment) (CanCarry-stands c.self.inside.limits c.self.inside.journal.items c.self.inside.tables.tables c.self.inside.rights.content c.self.invariant c.args.entry.user c.args.entry.statement c.requires.change ok)

pub invariant_of-self-in-Err-carry_out : goal.invariant_of-self-in-Err-carry_out
invariant_of-self-in-Err-carry_out c =
    let ok : verdict_at c.self.inside.limits c.self.inside.journal.items c.args.entry.user c.args.entry.statement ≡ Ok tt = rw (← c.self.view_is) at c.requires.allowed in
    rw c.reserve.ensures.items (Stands-left c.self.inside.limits c.self.inside.journal.items c.self.inside.tables.tables c.self.inside.rights.content c.self.invariant c.carry_out.new.tables.tables c.carry_out.new.rights.content c.args.entry ok (ap (λ d. d.tables) c.in-Err-carry_out.ensures.same) c.in-Err-carry_out.ensures.leaves)

pub invariant_of-self-in-Ok : goal.invariant_of-self-in-Ok
invariant_of-self-in-Ok c =
    let ok : verdict_at c.self.inside.limits c.self.inside.journal.items c.args.entry.user c.args.entry.statement ≡ Ok tt = rw (← c.self.view_is) at c.requires.allowed in
    let moment : c.count-moment.result ≡ length c.self.inside.journal.items = c.count-moment.ensures ∙ ap length (c.deref.ensures.value ∙ c.reserve.ensures.items) in
    rw (c.push_reserved.ensures.items, c.reserve.ensures.items) (Stands-more c.self.inside.limits c.self.inside.journal.items c.self.inside.tables.tables c.self.inside.rights.content c.self.invariant c.carry_out.new.tables.tables c.carry_out.new.rights.content c.args.entry ok c.requires.change
    c.in-Ok.ensures.tables (c.in-Ok.ensures.rights ∙ ap (λ m. rights_after c.self.inside.rights.content m (change_of c.self.inside.tables.tables c.args.entry.user c.args.entry.statement)) moment) c.in-Ok.ensures.narrow c.in-Ok.ensures.few)
