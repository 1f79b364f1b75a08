use Rattle.std.proofs.Common.{◌≡◌, Bool, true, false, [], ◌∷◌, ap, sym, subst, ◌∙◌}
use Rattle.std.specs.Prelude.{slice_index}
use Rattle.printer_core.specs.Printing.{Sheet, Adds, gap, is_parted}
use Rattle.printer_core.proofs.Writing.{parted, joined, opened}
use Rattle.printer_core.proofs.page.Page.begin.Goals.{then-is_parted, else-is_parted}
use Rattle.printer_core.proofs.page.Page.begin.Goals as goal

pub returns : goal.returns
returns c =
    let old = c.args.self.now in
    let bytes = c.args.bytes.now in
    let test : (b : Bool) → c.is_parted.result ≡ b → is_parted old.spacing old.last (slice_index bytes 0) ≡ b = λ b e.
    ap (λ (s : Sheet). is_parted s.spacing s.last (slice_index bytes 0)) (sym c.self.view_is)
    ∙ ap (is_parted c.self.inside.spacing c.self.inside.last) (sym c.byte_at.ensures)
    ∙ sym c.is_parted.ensures
    ∙ e in
    let blank : Adds (gap old.spacing old.last bytes) old c.if-is_parted.self =
    elim c.if-is_parted.branch [ then-is_parted w ↦ parted bytes (test true w.if-is_parted.true) (subst (λ (s : Sheet). Adds (32 ∷ []) old s) (sym w.self-is) w.push.ensures) | else-is_parted w ↦ joined bytes (test false w.if-is_parted.false) w.self-is ] in
    opened blank (subst (λ (s : Sheet). Adds bytes (record { text = s.text; spacing = s.spacing; last = c.args.token }) c.push-2.new.self) c.self-2.view_is c.push-2.ensures)
