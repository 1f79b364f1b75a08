use Rattle.std.proofs.Common.{◌≡◌, length, take, drop, ap, ◌∙◌}
use Rattle.std.specs.Arc.{arc_value}
use Rattle.capture_core.specs.declared.image.Image.{Image}
use Rattle.export_core.specs.Export as exports
use Rattle.export_core.specs.Ticket.{issued}
use Rattle.export_core.specs.Walk.{asked}
use Rattle.export_core.proofs.Issuing.{issued_records}
use Rattle.export_core.proofs.ticket.Ticket.issue.Goals as goal

pub returns : goal.returns
returns g c =
    let image = arc_value c.args.image.now in
    let now = g.A.Authority.content c.args.rights.now in
    let first = c.chosen-first.result.0 in
    let part = c.chosen-first.result.1.now in
    let given = c.in_ok-judged.judged.items in
    let tables : c.as_slice.result.now ≡ image.tables = c.as_slice.ensures ∙ ap (λ (i : Image). i.tables) c.deref.ensures in
    let records = issued_records image now c.args.user c.args.only c.args.now first part given
    (c.chosen-first.ensures.tables ∙ ap (λ ts. exports.chosen ts c.args.only) tables)
    (c.chosen-first.ensures.part ∙ ap (λ ts. take (length part) (drop first ts)) tables)
    c.in_ok-judged.ensures in
    ap (λ (i : Image). asked i c.args.user c.args.now first given) c.in_ok-clone.ensures.cases
    ∙ ap (λ l. record (issued image now c.args.user c.args.only c.args.now) { to_come = l }) records
