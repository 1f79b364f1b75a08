use Rattle.std.proofs.Common.{rules, ap, sym, ◌∙◌, ◌≡◌, length, suc}
use Rattle.turnstile.proofs.Cuts.{dealt_goes}
use Rattle.turnstile.proofs.turnstile.Turnstile.deal.Goals as goal

pub split_seat-seat-requires : goal.split_seat-seat-requires
split_seat-seat-requires g c = let me = c.requires.first.2 in let has = ap (λ m. m.0.passes) me in let long : length c.args.seat.now.me.0.passes ≡ suc (length _) = ap length has in
    (c.requires.own ∙ ap (λ l. l.identity) (sym c.self.view_is), search rules, dealt_goes _ _ _ _ _ _ _ _ _ has (ap (λ m. m.0.ticket) me))
