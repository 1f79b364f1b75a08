use Rattle.std.proofs.Common.{ap, sym, ◌∙◌}
use Rattle.export_core.specs.Ticket.{TicketState}
use Rattle.export_core.proofs.WalkLemmas.{over_ends, ends_over}
use Rattle.export_core.proofs.walk.Walk.is_over.Goals as goal

pub returns : goal.returns
returns c =
    let t = c.self.inside in (
      λ over. ap (λ (e : TicketState). e.to_come) (sym c.self.view_is) ∙ over_ends t c.self.invariant over,
      λ none. ends_over t c.self.invariant (ap (λ (e : TicketState). e.to_come) c.self.view_is ∙ none),
    )
