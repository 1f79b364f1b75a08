use Rattle.std.proofs.Common.{◌≡◌, Result, Ok, Err, subst, sym}
use Rattle.asking_core.specs.Asking.{DescribesLine}
use Rattle.asking_core.specs.declared.describing.Described.{Described}
use Rattle.preparing_core.specs.declared.fault.PrepareFault.{PrepareFault}
use Rattle.preparing_core.specs.declared.fault.PrepareFault.TheVariants as faults
use Rattle.preparing_core.specs.declared.shape.Shape.{Shape}
use Rattle.preparing_core.specs.Shapes.{DescribesRows, commanded, faulty, shape_of, unread}
use Rattle.preparing_core.proofs.Described.{shaped_by}
use Rattle.preparing_core.proofs.Results.{either, exits}
use Rattle.preparing_core.proofs.describing.describe_rows.Goals as goal

pub returns-in_err-found-clause-describes : goal.returns-in_err-found-clause-describes
returns-in_err-found-clause-describes g c =
    exits (λ (r : Result Shape PrepareFault). DescribesRows c.args.desk.now c.args.user c.args.line.now c.args.pass.now r c.describe-told.new.pass)
    c.from_residual.result _ c.from_residual.ensures.1 (faulty c.describe-told.ensures.describes c.in_err-found.ensures.faulty)

pub returns-in_default-clause-describes : goal.returns-in_default-clause-describes
returns-in_default-clause-describes g c = unread c.describe-told.ensures.watched

pub returns-in-Command-clause-describes : goal.returns-in-Command-clause-describes
returns-in-Command-clause-describes g c =
    let found = rw c.in-Command.is at c.in_ok-found.ensures.found in
    commanded (subst (λ (told : Described). DescribesLine c.args.desk.now c.args.user c.args.line.now c.args.pass.now told c.describe-told.new.pass) found c.describe-told.ensures.describes)

pub returns-in-Ok-clause-describes : goal.returns-in-Ok-clause-describes
returns-in-Ok-clause-describes g c =
    let desk = c.args.desk.now in
    let user = c.args.user in
    let line = c.args.line.now in
    let old = c.args.pass.now in
    let new = c.describe-told.new.pass in
    let found = rw c.in-Columns.is at c.in_ok-found.ensures.found in
    either (λ (r : Result Shape PrepareFault). DescribesRows desk user line old r new) (λ (shape : Shape). shape ≡ shape_of c.in-Ok.statement c.in-Columns.columns) (λ (fault : PrepareFault). fault ≡ faults.Unread)
    c.shape_of.result c.shape_of.ensures.shape c.shape_of.ensures.unread
    (λ shape is. subst (λ (s : Shape). DescribesRows desk user line old (Ok s) new) (sym is) (shaped_by desk user line c.in-Ok.statement c.in-Columns.columns old new c.describe-told.result found c.describe-told.ensures.describes c.in-Ok.ensures.spelled))
    (λ fault is. subst (λ (f : PrepareFault). DescribesRows desk user line old (Err f) new) (sym is) (unread c.describe-told.ensures.watched))
