use Rattle.std.proofs.Common.{◌≡◌, ◌-◌, ◌+◌, ◌++◌, ◌∷◌, ◌∙◌, [], vec_len, vec_capacity, take, drop, ap, refl, arith}
use Rattle.std.proofs.lemmas.Bool.{cond-true}
use Rattle.links_core.specs.Ends.{EndsState}
use Rattle.links_core.proofs.RowLemmas.{spliced_behind}
use Rattle.links_core.proofs.row.Row.insert.Goals as goal

pub returns-clause-ends : goal.returns-clause-ends
returns-clause-ends c =
    let old = c.self.inside.block in
    let gone = c.self.inside.gone in
    let place = c.args.place in
    let room : vec_capacity old - vec_len old ≡ c.args.self.now.room = ap (λ (h : EndsState). h.room) c.self.view_is in
    let some = c.requires.room in
    let ok = c.insert.ensures.succeeds (omega (arith, room, some)) in
    ap (drop gone) (c.insert.ensures.items ∙ cond-true _ _ _ ok)
    ∙ spliced_behind old.items (c.args.end ∷ []) gone place place (gone + place) (gone + place) (let long = old.ok.0 in let most = c.self.invariant in omega (arith, long, most)) refl refl
    ∙ ap (λ (h : EndsState). take place h.ends ++ c.args.end ∷ drop place h.ends) c.self.view_is
