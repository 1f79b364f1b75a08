use Rattle.std.proofs.Common.{List, ℕ, [], ◌∷◌, ◌++◌, ap, sym, refl, ◌∙◌}
use Rattle.lexer_core.specs.Lexing.{Text}
use Rattle.printer_core.specs.Printing.{doubled}
use Rattle.printer_core.proofs.Writing.{add, token}
use Rattle.printer_core.proofs.page.Page.text.Goals as goal

pub returns : goal.returns
returns c =
    token (Text c.args.text.now) c.as_bytes.ensures.text c.begin.ensures (add c.push_doubled.ensures c.push.ensures)
    (ap (λ (x : List ℕ). 39 ∷ (doubled x ++ 39 ∷ [])) (sym c.as_bytes.ensures.value))
    refl
