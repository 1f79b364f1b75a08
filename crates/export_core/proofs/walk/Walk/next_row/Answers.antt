use Rattle.std.proofs.Common.{◌≡◌, ◌+◌, Some, get_or, option_copied, ap, sym, ◌∙◌}
use Rattle.std.specs.Arc.{arc_value}
use Rattle.std.specs.List.{slice_get}
use Rattle.std.proofs.lemmas.Option.{MatchOption-at_some}
use Rattle.capture_core.specs.declared.image.Image.{Image}
use Rattle.export_core.specs.Ticket.{TicketState}
use Rattle.export_core.specs.declared.judgement.Judgement.TheVariants.{Listed}
use Rattle.export_core.proofs.Listing.{listed_within}
use Rattle.export_core.proofs.WalkLemmas.{comes_next, within, table_line_comes, not_ended, stands_at}
use Rattle.export_core.proofs.walk.Walk.next_row.Goals as goal

pub row_at-requires : goal.row_at-requires
row_at-requires c =
    let t = c.self.inside in
    let table = c.index-as_slice-self.result in
    let marks = c.in-Some-Listed.marks in
    let found : slice_get t.judgements.items t.told ≡ Some (Listed marks) = ap (λ js. slice_get js t.told) (sym c.deref.ensures.value) ∙ sym c.judgement_at.ensures ∙ ap option_copied c.in-Some-Listed.is ∙ ap Some c.in-Some-Listed.field-0-is in
    let tables : c.as_slice.result.now ≡ (arc_value t.image).tables = c.as_slice.ensures ∙ ap (λ (i : Image). i.tables) c.deref-2.ensures in
    let here = stands_at t c.self.invariant table (Listed marks) found (c.index-as_slice-self.is ∙ ap (λ ts. get_or ts (t.first + t.told) table) tables) in
    listed_within marks table t.lines (within t c.self.invariant (table, Listed marks) here)

pub returns-in-Some : goal.returns-in-Some
returns-in-Some c =
    let t = c.self.inside in
    let table = c.index-as_slice-self.result in
    let marks = c.in-Some-Listed.marks in
    let found : slice_get t.judgements.items t.told ≡ Some (Listed marks) = ap (λ js. slice_get js t.told) (sym c.deref.ensures.value) ∙ sym c.judgement_at.ensures ∙ ap option_copied c.in-Some-Listed.is ∙ ap Some c.in-Some-Listed.field-0-is in
    let tables : c.as_slice.result.now ≡ (arc_value t.image).tables = c.as_slice.ensures ∙ ap (λ (i : Image). i.tables) c.deref-2.ensures in
    let here = stands_at t c.self.invariant table (Listed marks) found (c.index-as_slice-self.is ∙ ap (λ ts. get_or ts (t.first + t.told) table) tables) in
    ap (λ (e : TicketState). slice_get e.to_come 0) (sym c.self.view_is)
    ∙ comes_next t _ (table_line_comes t c.self.invariant (table, Listed marks) here _ (not_ended t c.self.invariant (table, Listed marks) here) (MatchOption-at_some _ _ _ c.in-Some.is (c.row_at.ensures marks)))
