use Rattle.std.proofs.Common.{sym, ap, ◌∙◌, arith}
use Rattle.std.specs.Option.{option_copied_mut, option_map}
use Rattle.tables_core.specs.Contents.{without_chosen_rows}
use Rattle.tables_core.specs.Capture.{StoredTable, shown_tables}
use Rattle.tables_core.proofs.ContentsLemmas.{with_change-none}
use Rattle.tables_core.proofs.ChangeLemmas.{shown-found, shown-changed, rest-after, walk-after}
use Rattle.tables_core.proofs.tables.Tables.delete.Goals as goal

pub invariant_of-self : goal.invariant_of-self
invariant_of-self c =
    let found = sym c.get_mut.ensures.value ∙ ap option_copied_mut c.in-Some.is in
    let fewer = c.delete-dropped.ensures.count in
    let fits = c.delete-dropped.type_inv in
    walk-after c.args.name _ _ c.self.inside.walk c.in-Some.table.now c.delete-dropped.new.self found (c.get_mut.follows.holds c.delete-dropped.new.self).0 c.delete-dropped.ensures.due c.self.inside.total _ c.self.invariant (λ before now t e. omega (arith, fewer, fits, t, e))

pub returns-in-Some-clause-tables : goal.returns-in-Some-clause-tables
returns-in-Some-clause-tables c =
    let found = sym c.get_mut.ensures.value ∙ ap option_copied_mut c.in-Some.is in
    rw (← c.self.view_is) (shown-changed c.args.name _ _ c.self.inside.walk c.in-Some.table.now c.delete-dropped.new.self found (c.get_mut.follows.holds c.delete-dropped.new.self).0 (without_chosen_rows c.args.filter.now) c.delete-dropped.ensures.contents)

pub returns-in-Some-clause-rest : goal.returns-in-Some-clause-rest
returns-in-Some-clause-rest c =
    let found = sym c.get_mut.ensures.value ∙ ap option_copied_mut c.in-Some.is in
    rw (← c.self.view_is) (rest-after c.args.name _ _ c.self.inside.walk c.in-Some.table.now c.delete-dropped.new.self found (c.get_mut.follows.holds c.delete-dropped.new.self).0 c.delete-dropped.ensures.due)

pub returns-in_default-clause-tables : goal.returns-in_default-clause-tables
returns-in_default-clause-tables c =
    let none = sym c.get_mut.ensures.value ∙ ap option_copied_mut c.in_default.is in
    let gone = shown-found c.args.name c.self.inside.tables.entries ∙ ap (option_map (λ (t : StoredTable). t.contents)) none in
    rw (← c.self.view_is) (ap (λ m. shown_tables m.entries) c.get_mut.follows.holds-at-none ∙ sym (with_change-none c.args.name (without_chosen_rows c.args.filter.now) _ gone))
