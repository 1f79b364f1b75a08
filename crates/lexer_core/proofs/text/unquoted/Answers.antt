use Rattle.std.proofs.Common.{List, ℕ, ◌≡◌, IfOk, subst, sym, ◌∙◌}
use Rattle.lexer_core.proofs.Undoubled.{inside_is_text, inside_said}
use Rattle.lexer_core.proofs.text.unquoted.Goals as goal

pub from_bytes-requires : goal.from_bytes-requires
from_bytes-requires c = inside_is_text _ _ c.requires.text.1 (sym c.contains.ensures.value ∙ c.if-contains.false)

pub returns : goal.returns
returns c =
    let said = inside_said _ _ c.requires.text.1 (sym c.contains.ensures.value ∙ c.if-contains.false) in
    subst (λ (bytes : List ℕ). IfOk c.from_bytes.result (λ text. text ≡ bytes)) said c.from_bytes.ensures
