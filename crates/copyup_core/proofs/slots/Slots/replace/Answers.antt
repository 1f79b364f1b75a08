use Rattle.std.proofs.Common.{ℕ, is_some, Some, not, sym, ap, ◌∙◌, arith, length-set}
use Rattle.std.proofs.lemmas.Bool.{false≢true}
use Rattle.std.proofs.lemmas.List.{get_or_default}
use Rattle.copyup_core.proofs.Parallel.{in-lists, map-some, item-at, replaced-at, put-by-at}
use Rattle.copyup_core.proofs.slots.Slots.replace.Goals as goal
use Rattle.copyup_core.proofs.slots.Slots.replace.Goals.{else-wanted-via-then-wanted+else-is_none, else-wanted-via-else-wanted}

pub index_mut-entry-requires : goal.index_mut-entry-requires
index_mut-entry-requires g c =
    let s = c.self.inside in
    let h = c.self.invariant.states_long in
    let lt = rw (← c.self.view_is) at c.requires.within in
    let inside = in-lists s.entries.items s.states.items s.kept.items c.args.place h lt in
    omega (arith, inside.0, s.entries.ok)

pub overflow_add-place : goal.overflow_add-place
overflow_add-place g c =
    let s = c.self.inside in
    let h = c.self.invariant.states_long in
    let lt = rw (← c.self.view_is) at c.requires.within in
    let inside = in-lists s.entries.items s.states.items s.kept.items c.args.place h lt in
    omega (arith, inside.0, s.entries.ok, s.entries.small)

pub pad-requires : goal.pad-requires
pad-requires g c =
    let s = c.self.inside in
    let h = c.self.invariant.states_long in
    let lt = rw (← c.self.view_is) at c.requires.within in
    let inside = in-lists s.entries.items s.states.items s.kept.items c.args.place h lt in
    omega (arith, inside.0, s.entries.ok, c.self.invariant.kept_roomy)

pub invariant_of-self : goal.invariant_of-self
invariant_of-self g c =
    let s = c.self.inside in
    let h = c.self.invariant.states_long in
    let lt = rw (← c.self.view_is) at c.requires.within in
    let inside = in-lists s.entries.items s.states.items s.kept.items c.args.place h lt in
    let i = c.self.invariant in
    record {
      states_long = h ∙ sym (length-set s.entries.items c.args.place _);
      kept_short = simp length-set (omega (arith, i.kept_short, inside.0, c.pad.ensures.len, c.pad.new.kept.ok, s.kept.ok));
      states_roomy = i.states_roomy;
      kept_roomy = omega (arith, i.kept_roomy, c.pad.ensures.capacity);
    }

pub returns-then-is_none-clause-slot : goal.returns-then-is_none-clause-slot
returns-then-is_none-clause-slot g c =
    let s = c.self.inside in
    let h = c.self.invariant.states_long in
    let lt = rw (← c.self.view_is) at c.requires.within in
    let inside = in-lists s.entries.items s.states.items s.kept.items c.args.place h lt in
    let live = rw (← c.self.view_is) at c.requires.live in
    let x = c.index_mut-entry.result.now in
    let a : ℕ × g.row.V.Denot = (x.0, c.args.item) in
    let read = c.index_mut-entry.ensures.value ∙ get_or_default s.entries.items c.args.place x a inside.0 in
    let number = ap (λ (e : ℕ × g.row.V.Denot). e.0) read in
    let old = c.replace-old.ensures.value ∙ ap (λ (e : ℕ × g.row.V.Denot). e.1) read in
    let value = rw c.as_slice.ensures.value at c.kept_value.ensures in
    let none = ap is_some (sym value) ∙ map-some _ c.kept_value.result ∙ c.if-is_none.ensures in
    rw (← c.self.view_is, c.replace-old.ensures.after) (put-by-at s.entries.items s.states.items s.kept.items c.pad.new.kept.items c.args.place a c.replace-old.result c.args.wanted h inside.0 live number old c.if-wanted.true none (c.pad.ensures.slots s.entries.items s.states.items) (omega (arith, c.pad.ensures.len, c.pad.new.kept.ok)))

pub returns-clause-slot : goal.returns-clause-slot
returns-clause-slot g c =
    let s = c.self.inside in
    let h = c.self.invariant.states_long in
    let lt = rw (← c.self.view_is) at c.requires.within in
    let inside = in-lists s.entries.items s.states.items s.kept.items c.args.place h lt in
    let live = rw (← c.self.view_is) at c.requires.live in
    let x = c.index_mut-entry.result.now in
    let a : ℕ × g.row.V.Denot = (x.0, c.args.item) in
    let read = c.index_mut-entry.ensures.value ∙ get_or_default s.entries.items c.args.place x a inside.0 in
    let number = ap (λ (e : ℕ × g.row.V.Denot). e.0) read in
    let written = replaced-at s.entries.items s.states.items s.kept.items c.args.place a c.args.wanted h inside.0 live number in
    rw (← c.self.view_is) (elim c.else-wanted.branch [
      | else-wanted-via-then-wanted+else-is_none w ↦ (let value = rw w.as_slice.ensures.value at w.kept_value.ensures in rw (w.self-is, c.replace-old.ensures.after) (written (λ _. ap is_some (sym value) ∙ map-some _ w.kept_value.result ∙ w.is_none.ensures ∙ ap not w.if-is_none.false)))
      | else-wanted-via-else-wanted w ↦ rw (w.self-is, c.replace-old.ensures.after) (written (λ t. absurd (false≢true (sym w.if-wanted.false ∙ t))))
    ])

pub returns-clause-given : goal.returns-clause-given
returns-clause-given g c =
    let s = c.self.inside in
    let h = c.self.invariant.states_long in
    let lt = rw (← c.self.view_is) at c.requires.within in
    let inside = in-lists s.entries.items s.states.items s.kept.items c.args.place h lt in
    let live = rw (← c.self.view_is) at c.requires.live in
    rw (← c.self.view_is) (λ d. item-at s.entries.items s.states.items s.kept.items c.args.place d c.index_mut-entry.result.now h inside.0 (live d) ∙ ap (λ (e : ℕ × g.row.V.Denot). Some e.1) (sym c.index_mut-entry.ensures.value) ∙ ap (λ t. Some t) (sym c.replace-old.ensures.value))
