use Rattle.std.proofs.Common.{◌≡◌, ◌+◌, [], Some, get_or, option_copied, ap, sym, ◌∙◌}
use Rattle.std.specs.Arc.{arc_value}
use Rattle.std.specs.List.{slice_get}
use Rattle.std.proofs.lemmas.Option.{slice_get-get_or}
use Rattle.capture_core.specs.declared.image.Image.{Image}
use Rattle.export_core.specs.Export.{end_line}
use Rattle.export_core.specs.Ticket.{TicketState}
use Rattle.export_core.specs.Walk.{told}
use Rattle.export_core.proofs.Giving.{something_left}
use Rattle.export_core.proofs.WalkLemmas.{comes_next, within, table_line_comes, end_comes, stands_at, stands_at_none}
use Rattle.export_core.proofs.walk.Walk.line.Goals as goal

-- before the end
pub returns-in_err-end_line-clause-end : goal.returns-in_err-end_line-clause-end
returns-in_err-end_line-clause-end c = λ empty.
    let t = c.self.inside in
    let here = stands_at_none t c.self.invariant (ap (λ js. slice_get js t.told) (sym c.deref.ensures.value) ∙ sym c.judgement_at.ensures ∙ ap option_copied c.in_default.is) in
    absurd (something_left c.args.self.now.to_come (end_line (arc_value t.image).number) (ap (λ (e : TicketState). slice_get e.to_come 0) (sym c.self.view_is) ∙ comes_next t _ (end_comes t c.self.invariant here c.if-self.false)) empty)

pub returns-in_default-clause-line : goal.returns-in_default-clause-line
returns-in_default-clause-line c =
    let t = c.self.inside in
    let here = stands_at_none t c.self.invariant (ap (λ js. slice_get js t.told) (sym c.deref.ensures.value) ∙ sym c.judgement_at.ensures ∙ ap option_copied c.in_default.is) in
    ap Some (c.in_ok-end_line.ensures ∙ ap (λ (i : Image). end_line i.number) c.deref-in_default.ensures)
    ∙ sym (ap (λ (e : TicketState). slice_get e.to_come 0) (sym c.self.view_is) ∙ comes_next t _ (end_comes t c.self.invariant here c.if-self.false))

-- in a table
pub told_line-requires : goal.told_line-requires
told_line-requires c =
    let t = c.self.inside in
    let table = c.index-as_slice-self.result in
    let judgement = c.in-Some.judgement.now in
    let found : slice_get t.judgements.items t.told ≡ Some judgement = ap (λ js. slice_get js t.told) (sym c.deref.ensures.value) ∙ sym c.judgement_at.ensures ∙ ap option_copied c.in-Some.is in
    let tables : c.as_slice.result.now ≡ (arc_value t.image).tables = c.as_slice.ensures ∙ ap (λ (i : Image). i.tables) c.deref-2.ensures in
    let here = stands_at t c.self.invariant table judgement found (c.index-as_slice-self.is ∙ ap (λ ts. get_or ts (t.first + t.told) table) tables) in
    within t c.self.invariant (table, judgement) here

pub returns-in_err-told_line-clause-end : goal.returns-in_err-told_line-clause-end
returns-in_err-told_line-clause-end c = λ empty.
    let t = c.self.inside in
    let table = c.index-as_slice-self.result in
    let judgement = c.in-Some.judgement.now in
    let found : slice_get t.judgements.items t.told ≡ Some judgement = ap (λ js. slice_get js t.told) (sym c.deref.ensures.value) ∙ sym c.judgement_at.ensures ∙ ap option_copied c.in-Some.is in
    let tables : c.as_slice.result.now ≡ (arc_value t.image).tables = c.as_slice.ensures ∙ ap (λ (i : Image). i.tables) c.deref-2.ensures in
    let here = stands_at t c.self.invariant table judgement found (c.index-as_slice-self.is ∙ ap (λ ts. get_or ts (t.first + t.told) table) tables) in
    let line = slice_get-get_or (told judgement table) t.lines [] (within t c.self.invariant (table, judgement) here) in
    absurd (something_left c.args.self.now.to_come _ (ap (λ (e : TicketState). slice_get e.to_come 0) (sym c.self.view_is) ∙ comes_next t _ (table_line_comes t c.self.invariant (table, judgement) here _ c.if-self.false line)) empty)

pub returns-clause-line : goal.returns-clause-line
returns-clause-line c =
    let t = c.self.inside in
    let table = c.index-as_slice-self.result in
    let judgement = c.in-Some.judgement.now in
    let found : slice_get t.judgements.items t.told ≡ Some judgement = ap (λ js. slice_get js t.told) (sym c.deref.ensures.value) ∙ sym c.judgement_at.ensures ∙ ap option_copied c.in-Some.is in
    let tables : c.as_slice.result.now ≡ (arc_value t.image).tables = c.as_slice.ensures ∙ ap (λ (i : Image). i.tables) c.deref-2.ensures in
    let here = stands_at t c.self.invariant table judgement found (c.index-as_slice-self.is ∙ ap (λ ts. get_or ts (t.first + t.told) table) tables) in
    sym (ap (λ (e : TicketState). slice_get e.to_come 0) (sym c.self.view_is) ∙ comes_next t _ (table_line_comes t c.self.invariant (table, judgement) here c.in_ok-told_line.field-0.items c.if-self.false c.in_ok-told_line.ensures))
