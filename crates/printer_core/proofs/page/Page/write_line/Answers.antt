use Rattle.std.proofs.Common.{◌≡◌, ℕ, List, Option, [], ◌∷◌, Some, ◌++◌, ap, ◌∙◌, append_assoc}
use Rattle.printer_core.specs.Printing.{added, colon_text, line_text, statement_text}
use Rattle.printer_core.proofs.Room.{added_both}
use Rattle.printer_core.proofs.Writing.{text_on}
use Rattle.printer_core.proofs.page.Page.write_line.Goals as goal

pub returns-clause-text : goal.returns-clause-text
returns-clause-text c =
    let name = c.args.user.now.0 in
    let said : c.statement.new.self.text ≡ added (Some []) (line_text c.args.spacing c.args.user.now c.args.statement.now) =
    text_on (name ++ colon_text c.args.spacing) c.start.ensures.started c.statement.ensures.written
    ∙ ap (added (Some [])) (append_assoc name (colon_text c.args.spacing) (statement_text c.args.spacing c.args.statement.now)) in
    c.push.ensures.text ∙ ap (λ (o : Option (List ℕ)). added o (10 ∷ [])) said ∙ added_both (Some []) (line_text c.args.spacing c.args.user.now c.args.statement.now) (10 ∷ [])
