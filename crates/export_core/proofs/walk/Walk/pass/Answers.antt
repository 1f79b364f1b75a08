use Rattle.std.proofs.Common.{◌≡◌, ◌+◌, Some, get_or, option_copied, ap, sym, ◌∙◌}
use Rattle.std.specs.Arc.{arc_value}
use Rattle.std.specs.List.{slice_get}
use Rattle.capture_core.specs.declared.image.Image.{Image}
use Rattle.export_core.specs.Ticket.{after_giving}
use Rattle.export_core.proofs.WalkLemmas.{within, on_way_in_table, on_way_to_next, on_way_ended, stands_at, stands_at_none, passed_line, passed_table, passed_end}
use Rattle.export_core.proofs.walk.Walk.pass.Goals as goal

-- the end
pub invariant_of-self : goal.invariant_of-self
invariant_of-self c =
    let t = c.self.inside in
    let here = stands_at_none t c.self.invariant (ap (λ js. slice_get js t.told) (sym c.deref.ensures.value) ∙ sym c.judgement_at.ensures ∙ ap option_copied c.in_default.is) in
    on_way_ended t c.self.invariant here

pub returns-in_default : goal.returns-in_default
returns-in_default c =
    let t = c.self.inside in
    let here = stands_at_none t c.self.invariant (ap (λ js. slice_get js t.told) (sym c.deref.ensures.value) ∙ sym c.judgement_at.ensures ∙ ap option_copied c.in_default.is) in
    passed_end t c.self.invariant here ∙ ap (after_giving 1) c.self.view_is

-- in a table
pub next_index-requires : goal.next_index-requires
next_index-requires c =
    let t = c.self.inside in
    let table = c.index-as_slice-self.result in
    let judgement = c.in-Some.judgement.now in
    let found : slice_get t.judgements.items t.told ≡ Some judgement = ap (λ js. slice_get js t.told) (sym c.deref.ensures.value) ∙ sym c.judgement_at.ensures ∙ ap option_copied c.in-Some.is in
    let tables : c.as_slice.result.now ≡ (arc_value t.image).tables = c.as_slice.ensures ∙ ap (λ (i : Image). i.tables) c.deref-2.ensures in
    let here = stands_at t c.self.invariant table judgement found (c.index-as_slice-self.is ∙ ap (λ ts. get_or ts (t.first + t.told) table) tables) in
    within t c.self.invariant (table, judgement) here

pub invariant_of-self-in-Some-next_index : goal.invariant_of-self-in-Some-next_index
invariant_of-self-in-Some-next_index c =
    let t = c.self.inside in
    let table = c.index-as_slice-self.result in
    let judgement = c.in-Some.judgement.now in
    let found : slice_get t.judgements.items t.told ≡ Some judgement = ap (λ js. slice_get js t.told) (sym c.deref.ensures.value) ∙ sym c.judgement_at.ensures ∙ ap option_copied c.in-Some.is in
    let tables : c.as_slice.result.now ≡ (arc_value t.image).tables = c.as_slice.ensures ∙ ap (λ (i : Image). i.tables) c.deref-2.ensures in
    let here = stands_at t c.self.invariant table judgement found (c.index-as_slice-self.is ∙ ap (λ ts. get_or ts (t.first + t.told) table) tables) in
    on_way_in_table t c.self.invariant (table, judgement) c.in-Some-next_index.lines here c.in-Some-next_index.ensures.1

pub invariant_of-self-in-None : goal.invariant_of-self-in-None
invariant_of-self-in-None c =
    let t = c.self.inside in
    let table = c.index-as_slice-self.result in
    let judgement = c.in-Some.judgement.now in
    let found : slice_get t.judgements.items t.told ≡ Some judgement = ap (λ js. slice_get js t.told) (sym c.deref.ensures.value) ∙ sym c.judgement_at.ensures ∙ ap option_copied c.in-Some.is in
    let tables : c.as_slice.result.now ≡ (arc_value t.image).tables = c.as_slice.ensures ∙ ap (λ (i : Image). i.tables) c.deref-2.ensures in
    let here = stands_at t c.self.invariant table judgement found (c.index-as_slice-self.is ∙ ap (λ ts. get_or ts (t.first + t.told) table) tables) in
    on_way_to_next t c.self.invariant (table, judgement) here

pub returns-in-Some-next_index : goal.returns-in-Some-next_index
returns-in-Some-next_index c =
    let t = c.self.inside in
    let table = c.index-as_slice-self.result in
    let judgement = c.in-Some.judgement.now in
    let found : slice_get t.judgements.items t.told ≡ Some judgement = ap (λ js. slice_get js t.told) (sym c.deref.ensures.value) ∙ sym c.judgement_at.ensures ∙ ap option_copied c.in-Some.is in
    let tables : c.as_slice.result.now ≡ (arc_value t.image).tables = c.as_slice.ensures ∙ ap (λ (i : Image). i.tables) c.deref-2.ensures in
    let here = stands_at t c.self.invariant table judgement found (c.index-as_slice-self.is ∙ ap (λ ts. get_or ts (t.first + t.told) table) tables) in
    passed_line t c.self.invariant (table, judgement) here c.in-Some-next_index.lines c.in-Some-next_index.ensures.0 ∙ ap (after_giving 1) c.self.view_is

pub returns-in-None : goal.returns-in-None
returns-in-None c =
    let t = c.self.inside in
    let table = c.index-as_slice-self.result in
    let judgement = c.in-Some.judgement.now in
    let found : slice_get t.judgements.items t.told ≡ Some judgement = ap (λ js. slice_get js t.told) (sym c.deref.ensures.value) ∙ sym c.judgement_at.ensures ∙ ap option_copied c.in-Some.is in
    let tables : c.as_slice.result.now ≡ (arc_value t.image).tables = c.as_slice.ensures ∙ ap (λ (i : Image). i.tables) c.deref-2.ensures in
    let here = stands_at t c.self.invariant table judgement found (c.index-as_slice-self.is ∙ ap (λ ts. get_or ts (t.first + t.told) table) tables) in
    passed_table t c.self.invariant (table, judgement) here c.in-None.ensures ∙ ap (after_giving 1) c.self.view_is
