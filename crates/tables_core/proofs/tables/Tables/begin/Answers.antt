use Rattle.std.proofs.Common.{◌<◌, ◌%◌, ◌^◌, ℕ, length, sym, ap, subst, ◌∙◌}
use Rattle.tables_core.specs.Contents.{all_rows, rows_by_table}
use Rattle.tables_core.specs.Capture.{IsWalk, rest_in, shown_tables}
use Rattle.tables_core.proofs.CaptureLemmas.{rest-begun, walk-begun}
use Rattle.tables_core.proofs.ContentsLemmas.{same_database}
use Rattle.tables_core.proofs.tables.Tables.begin.Goals as goal

pub invariant_of-self : goal.invariant_of-self
invariant_of-self c =
    let s = c.self.inside in
    let n = c.next_number-number.result in
    let e = c.next_number-number.ensures in
    let us = c.next_number-number.new.tables.entries in
    let few : length (all_rows (shown_tables us)) < 2 ^ 63 = rw e.shown (rw (← c.self.view_is) at c.requires) in
    let counted = c.self.invariant.total_is ∙ ap (λ l. length (all_rows l) % 2 ^ 64) (sym e.shown) in
    subst (λ (m : ℕ). IsWalk us (record { number = n; end = m; left = s.total }) s.total) (sym c.len.ensures.len)
    (walk-begun n s.total us e.captures e.rest counted few)

pub returns : goal.returns
returns c =
    let s = c.self.inside in
    let n = c.next_number-number.result in
    let e = c.next_number-number.ensures in
    let us = c.next_number-number.new.tables.entries in
    let few : length (all_rows (shown_tables us)) < 2 ^ 63 = rw e.shown (rw (← c.self.view_is) at c.requires) in
    let counted = c.self.invariant.total_is ∙ ap (λ l. length (all_rows l) % 2 ^ 64) (sym e.shown) in
    let begun = ap (λ (m : ℕ). rest_in (record { number = n; end = m; left = s.total }) us) c.len.ensures.len ∙ rest-begun n s.total us e.captures e.rest counted few in
    rw (← c.self.view_is) (same_database e.shown (begun ∙ ap rows_by_table e.shown))
