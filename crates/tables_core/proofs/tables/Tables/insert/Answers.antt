use Rattle.std.proofs.Common.{◌<◌, ◌^◌, ◌∷◌, [], length, sym, ap, subst, ◌∙◌, arith, length-append, Result, Ok, Err}
use Rattle.std.specs.Option.{option_copied_mut, option_map, IsSomeAnd}
use Rattle.std.specs.Result.{OnErr}
use Rattle.tables_core.specs.Contents.{Table, with_row}
use Rattle.tables_core.specs.Capture.{StoredTable}
use Rattle.tables_core.specs.Fitting.{ValuesFit}
use Rattle.tables_core.proofs.ContentsLemmas.{same_database}
use Rattle.tables_core.proofs.ChangeLemmas.{shown-found, shown-changed, shown-same, rest-after, walk-after}
use Rattle.tables_core.proofs.tables.Tables.insert.Goals as goal

on_err_from : {T E P : Type 0} (r : Result T E) → P → OnErr r P
on_err_from (Ok x) p = tt
on_err_from (Err e) p = p

pub insert-requires-clause-few : goal.insert-requires-clause-few
insert-requires-clause-few c =
    let found = sym c.get_mut.ensures.value ∙ ap option_copied_mut c.in-Some.is in
    let there = shown-found c.args.name c.self.inside.tables.entries ∙ ap (option_map (λ (t : StoredTable). t.contents)) found in
    subst (λ o. IsSomeAnd o (λ (t : Table). t.inserted < 2 ^ 63)) there (rw (← c.self.view_is) at c.requires.few)

pub insert-requires-clause-fits : goal.insert-requires-clause-fits
insert-requires-clause-fits c =
    let found = sym c.get_mut.ensures.value ∙ ap option_copied_mut c.in-Some.is in
    let there = shown-found c.args.name c.self.inside.tables.entries ∙ ap (option_map (λ (t : StoredTable). t.contents)) found in
    subst (λ o. IsSomeAnd o (λ (t : Table). ValuesFit t.columns c.args.row.values)) there (rw (← c.self.view_is) at c.requires.fits)

pub invariant_of-self : goal.invariant_of-self
invariant_of-self c =
    let found = sym c.get_mut.ensures.value ∙ ap option_copied_mut c.in-Some.is in
    let same = ap (λ (t : Table). length t.rows) c.in_err-insert-in-Some.ensures.no_memory in
    walk-after c.args.name _ _ c.self.inside.walk c.in-Some.table.now c.insert.new.self found (c.get_mut.follows.holds c.insert.new.self).0 c.in_err-insert-in-Some.ensures.due c.self.inside.total c.self.inside.total c.self.invariant (λ before now t e. omega (arith, same, t, e))

pub returns-in_err-insert-in-Some-clause-rest : goal.returns-in_err-insert-in-Some-clause-rest
returns-in_err-insert-in-Some-clause-rest c =
    let found = sym c.get_mut.ensures.value ∙ ap option_copied_mut c.in-Some.is in
    rw (← c.self.view_is) (rest-after c.args.name _ _ c.self.inside.walk c.in-Some.table.now c.insert.new.self found (c.get_mut.follows.holds c.insert.new.self).0 c.in_err-insert-in-Some.ensures.due)

pub returns-in_err-insert-in-Some-clause-no_memory : goal.returns-in_err-insert-in-Some-clause-no_memory
returns-in_err-insert-in-Some-clause-no_memory c =
    let found = sym c.get_mut.ensures.value ∙ ap option_copied_mut c.in-Some.is in
    let w = c.self.inside.walk in
    let written = (c.get_mut.follows.holds c.insert.new.self).0 in
    let shown = shown-same c.args.name _ _ w c.in-Some.table.now c.insert.new.self found written c.in_err-insert-in-Some.ensures.no_memory in
    let rest = rest-after c.args.name _ _ w c.in-Some.table.now c.insert.new.self found written c.in_err-insert-in-Some.ensures.due in
    rw (← c.self.view_is) (on_err_from c.from_residual.result (same_database shown rest))

pub unreachable-requires : goal.unreachable-requires
unreachable-requires c =
    let none = sym c.get_mut.ensures.value ∙ ap option_copied_mut c.in-None.is in
    let there = shown-found c.args.name c.self.inside.tables.entries ∙ ap (option_map (λ (t : StoredTable). t.contents)) none in
    subst (λ o. IsSomeAnd o (λ (t : Table). t.inserted < 2 ^ 63)) there (rw (← c.self.view_is) at c.requires.few)

pub invariant_of-self-2 : goal.invariant_of-self-2
invariant_of-self-2 c =
    let found = sym c.get_mut.ensures.value ∙ ap option_copied_mut c.in-Some.is in
    let x = c.in-Some.table.now in
    let more = ap (λ (t : Table). length t.rows) c.in_ok-insert-in-Some.ensures.ok ∙ length-append x.contents.rows ((x.contents.inserted, c.args.row) ∷ []) in
    walk-after c.args.name _ _ c.self.inside.walk x c.insert.new.self found (c.get_mut.follows.holds c.insert.new.self).0 c.in_ok-insert-in-Some.ensures.due c.self.inside.total _ c.self.invariant (λ before now t e. omega (arith, more, t, e))

pub returns-clause-ok : goal.returns-clause-ok
returns-clause-ok c =
    let found = sym c.get_mut.ensures.value ∙ ap option_copied_mut c.in-Some.is in
    rw (← c.self.view_is) (shown-changed c.args.name _ _ c.self.inside.walk c.in-Some.table.now c.insert.new.self found (c.get_mut.follows.holds c.insert.new.self).0 (with_row c.args.row) c.in_ok-insert-in-Some.ensures.ok)

pub returns-clause-rest : goal.returns-clause-rest
returns-clause-rest c =
    let found = sym c.get_mut.ensures.value ∙ ap option_copied_mut c.in-Some.is in
    rw (← c.self.view_is) (rest-after c.args.name _ _ c.self.inside.walk c.in-Some.table.now c.insert.new.self found (c.get_mut.follows.holds c.insert.new.self).0 c.in_ok-insert-in-Some.ensures.due)
