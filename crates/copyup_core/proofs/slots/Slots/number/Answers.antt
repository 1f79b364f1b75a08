use Rattle.std.proofs.Common.{ℕ, sym, ap, ◌∙◌, arith}
use Rattle.copyup_core.proofs.Parallel.{in-lists, number-at}
use Rattle.copyup_core.proofs.slots.Slots.number.Goals as goal

pub index-requires : goal.index-requires
index-requires g c =
    let s = c.self.inside in
    let h = c.self.invariant.states_long in
    let lt = rw (← c.self.view_is) at c.requires in
    let inside = in-lists s.entries.items s.states.items s.kept.items c.args.place h lt in
    omega (arith, inside.0, s.entries.ok)

pub returns : goal.returns
returns g c =
    let s = c.self.inside in
    let h = c.self.invariant.states_long in
    let lt = rw (← c.self.view_is) at c.requires in
    let inside = in-lists s.entries.items s.states.items s.kept.items c.args.place h lt in
    rw (← c.self.view_is) (λ d. number-at s.entries.items s.states.items s.kept.items c.args.place d c.index.result.now h inside.0 ∙ ap (λ (e : ℕ × g.row.V.Denot). e.0) (sym c.index.ensures))
