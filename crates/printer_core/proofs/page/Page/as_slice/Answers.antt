use Rattle.std.proofs.Common.{◌≡◌, subst}
use Rattle.std.specs.Prelude.{IfSome}
use Rattle.printer_core.specs.Printing.{Sheet}
use Rattle.printer_core.proofs.Room.{stands}
use Rattle.printer_core.proofs.page.Page.as_slice.Goals as goal

pub returns : goal.returns
returns c =
    subst (λ (s : Sheet). IfSome s.text (λ text. c.as_slice.result.now ≡ text)) c.self.view_is
    (stands c.self.inside.is_over c.self.inside.bytes.value.items c.as_slice.result.now (rw c.deref.ensures at c.as_slice.ensures.value))
