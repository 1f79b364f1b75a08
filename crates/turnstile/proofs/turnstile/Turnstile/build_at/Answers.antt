use Rattle.std.proofs.Common.{rules, ap, sym, subst, ◌∙◌, ◌≡◌, ◌++◌, ◌∷◌, [], Some}
use Rattle.atomic_table.specs.Table.{opening}
use Rattle.turnstile.specs.Rule.{Turns, opening_view}
use Rattle.turnstile.proofs.Ends.{opens}
use Rattle.turnstile.proofs.turnstile.Turnstile.build_at.Goals as goal

pub new-requires-2 : goal.new-requires-2
new-requires-2 g c =
    let o = g.O.Object in let x = c.args.object in let start = c.args.start in
    let items : c.push.new.self.items ≡ Some x ∷ [] = c.in_ok-push.ensures.items ∙ ap (λ xs. xs ++ Some x ∷ []) c.new-slots.ensures.items in
    let as_it_came : c.of.result.value ≡ x = c.of.ensures in
    subst (Turns o.log o.by o.mark o.fixed (record { count = c.args.count; start = start; fixed = c.fixed_part.result }))
    (λ i. opening (start ∷ start ∷ []) (sym items i) (opening_view (o.log (sym as_it_came i)) (record { count = c.args.count; start = start; fixed = c.fixed_part.result })))
    (opens o.log o.by o.mark o.fixed (record { count = c.args.count; start = start; fixed = c.fixed_part.result }) x c.requires.bears (sym c.fixed_part.ensures) c.requires.start)

pub deal_all-requires-clause-all : goal.deal_all-requires-clause-all
deal_all-requires-clause-all g c = (g.O.Object.log c.of.result.value, search rules)
