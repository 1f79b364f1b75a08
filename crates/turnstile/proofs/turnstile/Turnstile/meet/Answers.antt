use Rattle.std.proofs.Common.{rules, ap, sym, ◌∙◌, Some}
use Rattle.turnstile.specs.Places.{known_of}
use Rattle.turnstile.proofs.Cuts.{hears_goes}
use Rattle.turnstile.proofs.Keeps.{learns_goes}
use Rattle.turnstile.proofs.Whole.{at_lock}
use Rattle.turnstile.proofs.turnstile.Turnstile.meet.Goals as goal

pub join_seat-requires : goal.join_seat-requires
join_seat-requires g c = let of = at_lock _ _ _ _ (ap (λ p. p.lock) c.pass.view_is ∙ (c.requires.pass ∙ ap Some (sym c.self.view_is))) in
    let note_of = at_lock _ _ _ _ (ap (λ n. n.lock) c.note.view_is ∙ (c.requires.note ∙ ap Some (sym c.self.view_is))) in
    (of.0, note_of.0, c.note.invariant.carries, search rules, hears_goes _ _ _ _ _ _ _ _ _ c.note.invariant.no_pass c.note.invariant.none_taken)

pub load-requires : goal.load-requires
load-requires g c = let of = at_lock _ _ _ _ (ap (λ p. p.lock) c.pass.view_is ∙ (c.requires.pass ∙ ap Some (sym c.self.view_is))) in
    (c.join_seat.ensures.0 ∙ of.0, search rules, learns_goes _ _ _ _ _ _ _ _ (known_of c.pass.inside.seat.me) (ap (λ m. m.0.passes) c.join_seat.ensures.2 ∙ c.pass.invariant.0.only))
