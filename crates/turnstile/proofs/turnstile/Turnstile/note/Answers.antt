use Rattle.std.proofs.Common.{rules, ap, sym, ◌∙◌, ◌≡◌, Some, length}
use Rattle.turnstile.proofs.Cuts.{notes_goes}
use Rattle.turnstile.proofs.Whole.{at_lock}
use Rattle.turnstile.proofs.turnstile.Turnstile.note.Goals as goal

pub split_seat-requires : goal.split_seat-requires
split_seat-requires g c = let of = at_lock _ _ _ _ (ap (λ p. p.lock) c.pass.view_is ∙ (c.requires ∙ ap Some (sym c.self.view_is))) in let one : length c.pass.inside.seat.me.0.passes ≡ 1 = ap length c.pass.invariant.0.only in
    (of.0, search rules, notes_goes _ _ _ _ _ _ _ _ c.pass.invariant.0.only)
