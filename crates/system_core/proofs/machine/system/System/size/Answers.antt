use Rattle.std.proofs.Common.{◌≡◌, ◌∙◌, length, ap, sym, subst, arith}
use Rattle.std.proofs.lemmas.List.{length-map}
use Rattle.capture_core.specs.declared.image.Image.{Image}
use Rattle.capture_core.specs.Image.{row_total}
use Rattle.capture_core.proofs.BeginLemmas.{length_all_rows}
use Rattle.system_core.specs.Journal.{tables_at}
use Rattle.system_core.specs.World.{World, size_of}
use Rattle.system_core.proofs.machine.system.System.size.Goals as goal

pub returns : goal.returns
returns c =
    let s = c.self.inside in
    let journal = s.ledger.journal in
    let kept = c.tables-tables.result.now.tables in
    let same = c.tables-tables.ensures.tables in
    let rows : c.row_total.result ≡ row_total (tables_at journal) =
    omega (arith, c.row_total.ensures, length_all_rows kept, ap row_total same, c.tables-tables.ensures.few) in
    let grants = c.grant_count.ensures ∙ ap length c.rights-rights.ensures.rights.in_force in
    let checkpoints = c.len-2.ensures ∙ sym (length-map s.catalogue (λ (image : Image). (image.number, image.point))) in
    let tables = c.len.ensures.count ∙ ap length same in
    subst (λ (w : World). record { tables = c.len.result; rows = c.row_total.result; grants = c.grant_count.result; checkpoints = c.len-2.result } ≡ size_of w) c.self.view_is
    (λ i. record { tables = tables i; rows = rows i; grants = grants i; checkpoints = checkpoints i })
