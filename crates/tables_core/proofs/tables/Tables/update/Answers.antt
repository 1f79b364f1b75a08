use Rattle.std.proofs.Common.{ℕ, List, sym, ap, subst, ◌∙◌, arith}
use Rattle.std.specs.Option.{option_copied_mut, option_map, IsSomeAnd}
use Rattle.std.proofs.lemmas.Result.{on_ok_weaker, on_err_weaker}
use Rattle.base_core.specs.declared.value.Row.{Row}
use Rattle.tables_core.specs.Contents.{Table, with_updated_rows}
use Rattle.tables_core.specs.Capture.{StoredTable}
use Rattle.tables_core.specs.Fitting.{AssignmentsFit}
use Rattle.tables_core.proofs.ContentsLemmas.{same_database}
use Rattle.tables_core.proofs.FittingLemmas.{length-updated_or_same}
use Rattle.tables_core.proofs.ChangeLemmas.{shown-found, shown-changed, shown-same, rest-after, walk-after}
use Rattle.tables_core.proofs.tables.Tables.update.Goals as goal

pub update-requires : goal.update-requires
update-requires c =
    let found = sym c.get_mut.ensures.value ∙ ap option_copied_mut c.in-Some.is in
    let there = shown-found c.args.name c.self.inside.tables.entries ∙ ap (option_map (λ (t : StoredTable). t.contents)) found in
    subst (λ o. IsSomeAnd o (λ (t : Table). AssignmentsFit t.columns c.args.sets.now)) there (rw (← c.self.view_is) at c.requires)

pub unreachable-requires : goal.unreachable-requires
unreachable-requires c =
    let none = sym c.get_mut.ensures.value ∙ ap option_copied_mut c.in-None.is in
    let there = shown-found c.args.name c.self.inside.tables.entries ∙ ap (option_map (λ (t : StoredTable). t.contents)) none in
    subst (λ o. IsSomeAnd o (λ (t : Table). AssignmentsFit t.columns c.args.sets.now)) there (rw (← c.self.view_is) at c.requires)

pub invariant_of-self : goal.invariant_of-self
invariant_of-self c =
    let found = sym c.get_mut.ensures.value ∙ ap option_copied_mut c.in-Some.is in
    let x = c.in-Some.table.now in
    let rows : Table → List (ℕ × Row) = λ t. t.rows in
    let ok = on_ok_weaker c.update.result (λ made. ap rows made) c.update.ensures.ok in
    let err = on_err_weaker c.update.result (λ same. ap rows same) c.update.ensures.no_memory in
    let same = length-updated_or_same x.contents c.args.sets.now c.args.filter.now c.update.new.self.contents.rows c.update.result ok err in
    walk-after c.args.name _ _ c.self.inside.walk x c.update.new.self found (c.get_mut.follows.holds c.update.new.self).0 c.update.ensures.due c.self.inside.total c.self.inside.total c.self.invariant (λ before now t e. omega (arith, same, t, e))

pub returns-clause-ok : goal.returns-clause-ok
returns-clause-ok c =
    let found = sym c.get_mut.ensures.value ∙ ap option_copied_mut c.in-Some.is in
    rw (← c.self.view_is) (on_ok_weaker c.update.result (λ made. shown-changed c.args.name _ _ c.self.inside.walk c.in-Some.table.now c.update.new.self found (c.get_mut.follows.holds c.update.new.self).0 (with_updated_rows c.args.sets.now c.args.filter.now) made) c.update.ensures.ok)

pub returns-clause-rest : goal.returns-clause-rest
returns-clause-rest c =
    let found = sym c.get_mut.ensures.value ∙ ap option_copied_mut c.in-Some.is in
    rw (← c.self.view_is) (rest-after c.args.name _ _ c.self.inside.walk c.in-Some.table.now c.update.new.self found (c.get_mut.follows.holds c.update.new.self).0 c.update.ensures.due)

pub returns-clause-no_memory : goal.returns-clause-no_memory
returns-clause-no_memory c =
    let found = sym c.get_mut.ensures.value ∙ ap option_copied_mut c.in-Some.is in
    let w = c.self.inside.walk in
    let written = (c.get_mut.follows.holds c.update.new.self).0 in
    let rest = rest-after c.args.name _ _ w c.in-Some.table.now c.update.new.self found written c.update.ensures.due in
    rw (← c.self.view_is) (on_err_weaker c.update.result (λ same. same_database (shown-same c.args.name _ _ w c.in-Some.table.now c.update.new.self found written same) rest) c.update.ensures.no_memory)
