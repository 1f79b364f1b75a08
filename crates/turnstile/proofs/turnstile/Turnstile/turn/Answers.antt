use Rattle.std.proofs.Common.{ap, sym, ◌∙◌, subst}
use Rattle.turnstile.specs.Steps.{with_turn}
use Rattle.turnstile.specs.Places.{known_of, terms_of}
use Rattle.turnstile.proofs.Whole.{at_lock, waits, has_out, known_back, may_ask, turned}
use Rattle.turnstile.proofs.turnstile.Turnstile.turn.Goals as goal

pub take-object-requires-clause-waits : goal.take-object-requires-clause-waits
take-object-requires-clause-waits g c = let w = waits c.pass.inside.seat.me c.draw.new.seat.me c.in_ok-ticket.ticket c.pass.invariant.0 c.in_ok-ticket.ensures.ok.0 in
    (with_turn c.in_ok-ticket.ticket (known_of c.pass.inside.seat.me), w.0, w.1, w.2, w.3)

pub end-requires-clause-has : goal.end-requires-clause-has
end-requires-clause-has g c = let k = known_of c.pass.inside.seat.me in let x = c.take-object.result in let y = c.act-reply.new.self in
    let out = has_out c.pass.inside.seat.me c.draw.new.seat.me c.in_ok-ticket.ticket c.take-object.new.seat.me x c.pass.invariant.0 c.in_ok-ticket.ensures.ok.0 c.take-object.ensures.out in (
      with_turn c.in_ok-ticket.ticket k,
      x,
      out.0,
      out.1,
      out.2,
      g.met.O.Object.grows x k.number c.args.ask c.act-reply.result y (subst (λ z. g.O.Object.acts x z c.args.ask c.act-reply.result y) (sym c.pass.invariant.1) c.act-reply.ensures),
    )

pub returns-clause-done : goal.returns-clause-done
returns-clause-done g c = let m0 = c.pass.inside.seat.me in let t = c.in_ok-ticket.ticket in let k = known_of m0 in let x = c.take-object.result in let y = c.act-reply.new.self in let drew = c.in_ok-ticket.ensures.ok.0 in
    let lock = c.args.self.now in let of = at_lock _ lock.identity _ (terms_of lock) (ap (λ p. p.lock) c.pass.view_is ∙ c.requires.pass) in
    let acted = subst (λ z. g.O.Object.acts x z c.args.ask c.act-reply.result y) (sym c.pass.invariant.1) c.act-reply.ensures in
    turned g.O.Object.log g.O.Object.by g.O.Object.mark g.O.Object.fixed g.O.Object.acts lock c.args.ask c.act-reply.result t x y c.pass.inside.seat.table_id c.end.new.seat.table_id m0 c.end.new.seat.me c.draw.new.seat.me.0.terms c.args.pass.now
    c.pass.view_is
    ((known_back m0 c.draw.new.seat.me t g.O.Object.log g.O.Object.mark c.take-object.new.seat.me c.end.new.seat.me x y c.pass.invariant.0 drew c.take-object.ensures.out c.end.ensures.rest).0)
    (ap (λ m. m.0.terms) drew ∙ of.1)
    acted
    (g.met.O.Object.grows x k.number c.args.ask c.act-reply.result y acted)
    (c.take-object.ensures.fresh (with_turn t k) ((waits m0 c.draw.new.seat.me t c.pass.invariant.0 drew).0))

pub act-reply-requires : goal.act-reply-requires
act-reply-requires g c = let m0 = c.pass.inside.seat.me in let t = c.in_ok-ticket.ticket in let k = known_of m0 in let x = c.take-object.result in let drew = c.in_ok-ticket.ensures.ok.0 in
    let lock = c.args.self.now in let of = at_lock _ lock.identity _ (terms_of lock) (ap (λ p. p.lock) c.pass.view_is ∙ c.requires.pass) in
    may_ask g.O.Object.log g.O.Object.by g.O.Object.mark g.O.Object.fixed g.O.Object.may lock c.args.ask t x c.pass.inside.seat.table_id m0 c.draw.new.seat.me.0.terms c.args.pass.now
    c.pass.view_is
    (ap (λ m. m.0.terms) drew ∙ of.1)
    (c.take-object.ensures.fresh (with_turn t k) ((waits m0 c.draw.new.seat.me t c.pass.invariant.0 drew).0))
    c.requires.may
