use Rattle.std.proofs.Common.{List, ℕ, ◌≤◌, All, subst}
use Rattle.base_core.specs.Texts.{IsText}
use Rattle.base_core.proofs.Printable.{printable}
use Rattle.base_core.proofs.text.Text.as_bytes.Goals as goal

pub returns-clause-text : goal.returns-clause-text
returns-clause-text c = subst IsText c.self.view_is c.self.invariant.1

pub returns-clause-printable : goal.returns-clause-printable
returns-clause-printable c =
    let P : List ℕ → Type 0 = λ bytes. All (λ b. 32 ≤ b) bytes in
    subst P c.self.view_is (printable _ c.self.invariant.1)
