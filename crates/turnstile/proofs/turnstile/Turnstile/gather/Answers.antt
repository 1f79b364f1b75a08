use Rattle.std.proofs.Common.{rules, ap, sym, ◌≡◌, ◌∙◌, ◌∷◌, ◌++◌, [], map, Some}
use Rattle.std.proofs.lemmas.List.{append-nil}
use Rattle.std.proofs.lemmas.List.Elements.{All-pop}
use Rattle.turnstile.specs.Places.{known_in, terms_of}
use Rattle.turnstile.proofs.Cuts.{gathers_goes}
use Rattle.turnstile.proofs.Ends.{known_off}
use Rattle.turnstile.proofs.Whole.{at_lock}
use Rattle.turnstile.proofs.turnstile.Turnstile.gather.Goals as goal

pub loop-pass-init : goal.loop-pass-init
loop-pass-init g c = let lock = c.args.self.now in let was = c.in-Some.ensures.items in let old = c.args.passes.items in let new = c.pop.new.self.items in let x = c.in-Some.last in
    let off = All-pop (λ p. p.lock ≡ Some lock) old new (Some x) was c.requires.own in let rest = c.last.invariant.0 in let is = c.last.view_is in (
      (at_lock _ lock.identity _ (terms_of lock) (ap (λ p. p.lock) is ∙ off.1)).0,
      off.0,
      ap (λ ks. map known_in new ++ ks) (rest.only ∙ ap (λ p. known_in p ∷ []) is) ∙ (known_off old new x [] was ∙ append-nil (map known_in old)),
      rest.no_ticket,
      rest.none_taken,
      rest.carries,
    )

pub join_seat-requires : goal.join_seat-requires
join_seat-requires g c = let lock = c.args.self.now in let was = c.in-Some-pop.ensures.items in let inv = c.loop-pass.invariant in let here = ap (λ l. l.identity) (sym c.self.view_is) in
    let off = All-pop (λ p. p.lock ≡ Some lock) c.loop-pass.passes.items c.pop-in-loop-pass.new.self.items (Some c.in-Some-pop.pass) was inv.1 in let rest = c.pass.invariant.0 in
    (inv.0 ∙ here, (at_lock _ lock.identity _ (terms_of lock) (ap (λ p. p.lock) c.pass.view_is ∙ off.1)).0 ∙ here, rest.carries, search rules, gathers_goes _ _ _ _ _ _ _ _ _ inv.3 rest.no_ticket rest.none_taken)

pub loop-pass-preserved : goal.loop-pass-preserved
loop-pass-preserved g c = let lock = c.args.self.now in let was = c.in-Some-pop.ensures.items in let inv = c.loop-pass.invariant in let old = c.loop-pass.passes.items in let new = c.pop-in-loop-pass.new.self.items in let x = c.in-Some-pop.pass in
    let off = All-pop (λ p. p.lock ≡ Some lock) old new (Some x) was inv.1 in let rest = c.pass.invariant.0 in let is = c.pass.view_is in let now = c.join_seat.ensures.2 in (
      c.join_seat.ensures.0 ∙ inv.0,
      off.0,
      ap (λ m. map known_in new ++ m.0.passes) now ∙ (ap (λ ks. map known_in new ++ (ks ++ c.loop-pass.all.me.0.passes)) (rest.only ∙ ap (λ p. known_in p ∷ []) is) ∙ (known_off old new x c.loop-pass.all.me.0.passes was ∙ inv.2)),
      ap (λ m. m.0.ticket) now ∙ inv.3,
      ap (λ m. m.0.taken) now ∙ inv.4,
      ap (λ m. m.1) now ∙ inv.5,
    )
