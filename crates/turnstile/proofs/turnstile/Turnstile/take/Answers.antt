use Rattle.std.proofs.Common.{rules, ap, sym, ◌∙◌, ◌∷◌, Some}
use Rattle.atomic_table.specs.Table.{rest}
use Rattle.turnstile.proofs.Keeps.{called_goes}
use Rattle.turnstile.proofs.turnstile.Turnstile.take.Goals as goal

pub load-serving-requires : goal.load-serving-requires
load-serving-requires g c = let me = c.loop.invariant.1 in let h = c.requires.waits in
    (c.loop.invariant.0 ∙ (c.requires.own ∙ ap (λ l. l.identity) (sym c.self.view_is)), search rules, called_goes _ _ _ _ _ _ _ _ c.args.ticket (ap (λ m. m.0.ticket) me ∙ h.2) (ap (λ m. m.0.taken) me ∙ h.3))

pub exchange-requires : goal.exchange-requires
exchange-requires g c = let me = c.loop.invariant.1 in let h = c.requires.waits in
    let told = (c.load-serving.ensures.2 h.0 c.args.ticket (ap (λ m. m.0.passes) me ∙ h.1) (ap (λ m. m.0.ticket) me ∙ h.2)).0 c.if-serving-ticket.true in
    (c.load-serving.ensures.0 ∙ (c.loop.invariant.0 ∙ (c.requires.own ∙ ap (λ l. l.identity) (sym c.self.view_is))), (Some told.0, ap (λ m. m.1) told.1 ∙ (λ i. (0, Some told.0) ∷ sym (ap (λ m. rest m.1) told.1) i)))
