use Rattle.std.proofs.Common.{ℕ, Some, sym, ap, ◌∙◌, arith}
use Rattle.copyup_core.proofs.Parallel.{in-lists, item-at}
use Rattle.copyup_core.proofs.slots.Slots.item.Goals as goal

pub index-requires : goal.index-requires
index-requires g c =
    let s = c.self.inside in
    let h = c.self.invariant.states_long in
    let lt = rw (← c.self.view_is) at c.requires.within in
    let inside = in-lists s.entries.items s.states.items s.kept.items c.args.place h lt in
    omega (arith, inside.0, s.entries.ok)

pub returns : goal.returns
returns g c =
    let s = c.self.inside in
    let h = c.self.invariant.states_long in
    let lt = rw (← c.self.view_is) at c.requires.within in
    let inside = in-lists s.entries.items s.states.items s.kept.items c.args.place h lt in
    let live = rw (← c.self.view_is) at c.requires.live in
    rw (← c.self.view_is) (λ d. item-at s.entries.items s.states.items s.kept.items c.args.place d c.index.result.now h inside.0 (live d) ∙ ap (λ (e : ℕ × g.row.V.Denot). Some e.1) (sym c.index.ensures))
