use Rattle.std.proofs.Common.{◌≡◌, pos, arith}
use Rattle.std.proofs.lemmas.Int.{ints}
use mir.Syntax.{w64}
use mir.Val.{to_z}
use Rattle.printer_core.proofs.Writing.{then}
use Rattle.printer_core.proofs.page.Page.export.Goals as goal

pub returns-clause-written : goal.returns-clause-written
returns-clause-written c =
    let same : to_z w64 c.get.result ≡ pos c.args.number = omega (arith, ints) in
    then c.keyword.ensures (then (rw same at c.number.ensures) c.only.ensures)
