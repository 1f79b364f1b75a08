use Rattle.std.proofs.Common.{◌≡◌, ◌+◌, ◌≤◌, true, false, length, ap, refl, ◌∙◌, arith}
use Rattle.printer_core.specs.declared.page.TheConstants.{PAGE_BYTES}
use Rattle.printer_core.specs.Printing.{Sheet, added}
use Rattle.printer_core.proofs.Room.{with_room, with_none}
use Rattle.printer_core.proofs.page.Page.push.Goals as goal

pub returns-in-Ok : goal.returns-in-Ok
returns-in-Ok c =
    let room : length c.self.inside.bytes.value.items + length c.args.part.now ≤ PAGE_BYTES = rw c.deref_mut.ensures.value at (c.in-Ok.ensures.variant.0 refl) in
    record {
      text =
          with_room c.self.inside.is_over c.self.inside.bytes.value.items c.args.part.now _ (rw c.deref_mut.ensures.value at c.in-Ok.ensures.ok) (omega arith)
          ∙ ap (λ (s : Sheet). added s.text c.args.part.now) c.self.view_is;
      spacing = ap (λ (s : Sheet). s.spacing) c.self.view_is;
      last = ap (λ (s : Sheet). s.last) c.self.view_is;
    }

pub returns-in-Err : goal.returns-in-Err
returns-in-Err c =
    let none : length c.self.inside.bytes.value.items + length c.args.part.now ≤ PAGE_BYTES → ⊥ = λ room.
    let clash : false ≡ true = (rw c.deref_mut.ensures.value at c.in-Err.ensures.variant.1) room in
    cc clash in
    record {
      text =
          with_none c.self.inside.is_over c.self.inside.bytes.value.items c.args.part.now (omega (arith, none))
          ∙ ap (λ (s : Sheet). added s.text c.args.part.now) c.self.view_is;
      spacing = ap (λ (s : Sheet). s.spacing) c.self.view_is;
      last = ap (λ (s : Sheet). s.last) c.self.view_is;
    }
