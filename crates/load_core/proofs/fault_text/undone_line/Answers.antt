use Rattle.std.proofs.Common.{◌≡◌, sym, subst}
use Rattle.std.specs.Prelude.{IfOk}
use Rattle.load_core.specs.declared.fault.Undone.{Undone}
use Rattle.load_core.specs.FaultTexts.{undone_text, of_line}
use Rattle.load_core.proofs.fault_text.undone_line.Goals as goal

pub returns-in-Unread : goal.returns-in-Unread
returns-in-Unread c =
    let Told = λ (why : Undone). IfOk c.of_line-in-Unread.result (λ text. text.items ≡ of_line c.args.number (undone_text why)) in
    subst Told (sym c.in-Unread.is) c.of_line-in-Unread.ensures
