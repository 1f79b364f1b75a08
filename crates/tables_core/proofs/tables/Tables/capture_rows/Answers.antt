use Rattle.std.proofs.Common.{◌∙◌, ◌++◌, ℕ, Result, Ok, Err, length, min, take, ap, sym}
use Rattle.std.specs.Result.{OnErr}
use Rattle.std.proofs.lemmas.List.{length-map, take-map}
use Rattle.base_core.specs.declared.name.Name.{Name}
use Rattle.base_core.specs.declared.value.Row.{Row}
use Rattle.tables_core.specs.Capture.{StoredTable, due_for}
use Rattle.tables_core.proofs.CaptureLemmas.{given-left, rest-given, rest-joined, rest-there, shown-put, walk-given, walk-joined}
use Rattle.tables_core.proofs.ContentsLemmas.{same_database}
use Rattle.tables_core.proofs.tables.Tables.capture_rows.Goals as goal

on_err_from : {T E P : Type 0} (r : Result T E) → P → OnErr r P
on_err_from (Ok x) p = tt
on_err_from (Err e) p = p

pub invariant_of-self : goal.invariant_of-self
invariant_of-self c =
    let s = c.self.inside in
    let t : Name × StoredTable = (c.pair_mut-table.result.0.now, c.pair_mut-table.result.1.now) in
    let on = c.covers.ensures.0 c.if-not-covers.false in
    let e = c.capture_rows.ensures in
    walk-joined s.walk s.total s.tables.entries c.args.place t c.capture_rows.new.self c.self.invariant on.0 on.1 c.pair_mut-table.ensures.value e.capture e.contents c.in_err-given.ensures.err

pub returns-in_err-given-clause-err : goal.returns-in_err-given-clause-err
returns-in_err-given-clause-err c =
    let s = c.self.inside in
    let t : Name × StoredTable = (c.pair_mut-table.result.0.now, c.pair_mut-table.result.1.now) in
    let on = c.covers.ensures.0 c.if-not-covers.false in
    let e = c.capture_rows.ensures in
    let y = c.capture_rows.new.self in
    let is = c.pair_mut-table.ensures.value in
    let rest = rest-joined s.walk s.total s.tables.entries c.args.place t y c.self.invariant on.0 on.1 is e.capture e.contents c.in_err-given.ensures.err in
    rw (← c.self.view_is) (on_err_from c.from_residual.result (same_database (shown-put s.walk.number t y s.tables.entries c.args.place is e.contents) rest))

pub overflow_sub-self : goal.overflow_sub-self
overflow_sub-self c =
    let s = c.self.inside in
    let t : Name × StoredTable = (c.pair_mut-table.result.0.now, c.pair_mut-table.result.1.now) in
    let on = c.covers.ensures.0 c.if-not-covers.false in
    let e = c.capture_rows.ensures in
    let ok = c.in_ok-given.ensures in
    given-left s.walk s.total s.tables.entries c.args.place t c.capture_rows.new.self c.self.invariant on.0 on.1 c.pair_mut-table.ensures.value e.capture e.contents c.args.count c.in_ok-given.given ok.left ok.count

pub invariant_of-self-2 : goal.invariant_of-self-2
invariant_of-self-2 c =
    let s = c.self.inside in
    let t : Name × StoredTable = (c.pair_mut-table.result.0.now, c.pair_mut-table.result.1.now) in
    let on = c.covers.ensures.0 c.if-not-covers.false in
    let e = c.capture_rows.ensures in
    let ok = c.in_ok-given.ensures in
    walk-given s.walk s.total s.tables.entries c.args.place t c.capture_rows.new.self c.self.invariant on.0 on.1 c.pair_mut-table.ensures.value e.capture e.contents c.args.count c.in_ok-given.given ok.left ok.count

pub returns-clause-count : goal.returns-clause-count
returns-clause-count c =
    let s = c.self.inside in
    let t : Name × StoredTable = (c.pair_mut-table.result.0.now, c.pair_mut-table.result.1.now) in
    let on = c.covers.ensures.0 c.if-not-covers.false in
    let e = c.capture_rows.ensures in
    let there = rest-there s.walk s.total s.tables.entries c.args.place t c.capture_rows.new.self c.self.invariant on.0 on.1 c.pair_mut-table.ensures.value e.capture e.contents in
    let long = ap length there ∙ length-map (due_for s.walk.number t.1) (λ (p : ℕ × Row). p.1) in
    rw (← c.self.view_is) (c.in_ok-given.ensures.count ∙ ap (λ n. min c.args.count n) (sym long))

pub returns-clause-items : goal.returns-clause-items
returns-clause-items c =
    let s = c.self.inside in
    let t : Name × StoredTable = (c.pair_mut-table.result.0.now, c.pair_mut-table.result.1.now) in
    let on = c.covers.ensures.0 c.if-not-covers.false in
    let e = c.capture_rows.ensures in
    let there = rest-there s.walk s.total s.tables.entries c.args.place t c.capture_rows.new.self c.self.invariant on.0 on.1 c.pair_mut-table.ensures.value e.capture e.contents in
    let first = sym (take-map (λ (p : ℕ × Row). p.1) c.args.count (due_for s.walk.number t.1)) ∙ ap (take c.args.count) (sym there) in
    rw (← c.self.view_is) (c.in_ok-given.ensures.items ∙ ap (λ l. c.args.out.now.items ++ l) first)

pub returns-clause-rest : goal.returns-clause-rest
returns-clause-rest c =
    let s = c.self.inside in
    let t : Name × StoredTable = (c.pair_mut-table.result.0.now, c.pair_mut-table.result.1.now) in
    let on = c.covers.ensures.0 c.if-not-covers.false in
    let e = c.capture_rows.ensures in
    let ok = c.in_ok-given.ensures in
    let y = c.capture_rows.new.self in
    let is = c.pair_mut-table.ensures.value in
    let rest = rest-given s.walk s.total s.tables.entries c.args.place t y c.self.invariant on.0 on.1 is e.capture e.contents c.args.count c.in_ok-given.given ok.left ok.count in
    rw (← c.self.view_is) (same_database (shown-put s.walk.number t y s.tables.entries c.args.place is e.contents) rest)
