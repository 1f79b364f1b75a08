use Rattle.std.proofs.Common.{◌≡◌, Some, [], ap, sym, refl, ◌∙◌}
use Rattle.printer_core.proofs.Room.{added_nothing}
use Rattle.printer_core.proofs.page.Page.new.Goals as goal

pub returns : goal.returns
returns c =
    let none : c.in_ok-bytes.bytes.value.items ≡ [] = rw c.in_ok-bytes.ensures.ok c.new.ensures in
    record { text = ap Some none ∙ sym (added_nothing (Some [])); spacing = refl; last = refl }
