use Rattle.std.proofs.Common.{sym, ap, ◌∙◌, arith}
use Rattle.copyup_core.specs.Parallel.{is_live_state}
use Rattle.copyup_core.proofs.Parallel.{in-lists, live-at}
use Rattle.copyup_core.proofs.slots.Slots.is_live.Goals as goal

pub index-requires : goal.index-requires
index-requires g c =
    let s = c.self.inside in
    let h = c.self.invariant.states_long in
    let lt = rw (← c.self.view_is) at c.requires in
    let inside = in-lists s.entries.items s.states.items s.kept.items c.args.place h lt in
    omega (arith, inside.1, s.states.ok)

pub returns : goal.returns
returns g c =
    let s = c.self.inside in
    let h = c.self.invariant.states_long in
    let lt = rw (← c.self.view_is) at c.requires in
    let inside = in-lists s.entries.items s.states.items s.kept.items c.args.place h lt in
    rw (← c.self.view_is) (λ d. live-at s.entries.items s.states.items s.kept.items c.args.place d c.index.result.now h inside.0 ∙ ap is_live_state (sym c.index.ensures) ∙ sym c.is_live.ensures)
