use Rattle.std.proofs.Common.{List, ℕ, ap, ◌∙◌}
use Rattle.entry_core.specs.Steps.{login_line}
use Rattle.entry_core.proofs.Opened.{opened}
use Rattle.entry_core.proofs.first_step.begun_by.Goals as goal

pub returns : goal.returns
returns c =
    let made = c.in_ok-line.ensures ∙ ap (λ (name : List ℕ). login_line name c.args.first.now) c.as_bytes.ensures.value in
    opened c.args.users.now c.args.secret.now c.args.own.now c.in_ok-line.line.items c.args.user c.args.first.now c.in_ok-begun.begun
    c.as_bytes.ensures.name made (rw c.as_slice.ensures.value at c.in_ok-begun.ensures)
