use Rattle.std.proofs.Common.{rules, ap, sym, ◌∙◌, refl, arith, length}
use Rattle.turnstile.specs.Places.{known_of}
use Rattle.turnstile.proofs.Keeps.{counts_goes, draws_goes}
use Rattle.turnstile.proofs.Whole.{count_same, count_one, count_again}
use Rattle.turnstile.proofs.turnstile.Turnstile.draw.Goals as goal

pub loop-init : goal.loop-init
loop-init g c = (refl, (known_of c.args.seat.now.me).drawn, count_same c.args.seat.now.me c.requires.rest, omega arith)

pub load-ticket-requires : goal.load-ticket-requires
load-ticket-requires g c = (c.loop.invariant.0 ∙ (c.requires.own ∙ ap (λ l. l.identity) (sym c.self.view_is)), search rules, counts_goes _ _ _ _ _ _ _ _)

pub compare_exchange-found-requires : goal.compare_exchange-found-requires
compare_exchange-found-requires g c = let m0 = c.args.seat.now.me in let now = count_again m0 _ _ _ _ c.loop.invariant.2 c.load-ticket.ensures.2.0 in (
  c.load-ticket.ensures.0 ∙ (c.loop.invariant.0 ∙ (c.requires.own ∙ ap (λ l. l.identity) (sym c.self.view_is))),
  search rules,
  draws_goes _ _ _ _ _ _ _ _ c.load-ticket.result _ (ap length (count_one m0 _ _ c.requires.rest now)) (ap (λ m. m.0.ticket) now ∙ c.requires.rest.no_ticket) (ap (λ m. m.0.taken) now ∙ c.requires.rest.none_taken) (omega arith) refl,
)
