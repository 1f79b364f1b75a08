use Rattle.std.proofs.Common.{◌≡◌, true, Ok, Err, is_some, refl, sym, ap, ◌∙◌}
use Rattle.std.specs.Result.{result_ok}
use Rattle.reader_core.specs.declared.statement.Statement.{Statement}
use Rattle.monitor_core.specs.Verdict.{Check, allowed_by}
use Rattle.system_core.proofs.machine.system.System.may_change.Goals as goal

-- what is allowed has passed, and what has passed is allowed
passed-found : (check : Check) (asked : Statement) → is_some (result_ok (allowed_by check asked)) ≡ true → check ≡ Ok tt
passed-found (Ok tt) asked h = refl
passed-found (Err lack) asked h = cc

found-passed : (check : Check) (asked : Statement) → check ≡ Ok tt → is_some (result_ok (allowed_by check asked)) ≡ true
found-passed (Ok tt) asked h = refl
found-passed (Err lack) asked h = cc

pub returns-then-is_change : goal.returns-then-is_change
returns-then-is_change c =
    let found = c.is_some.ensures ∙ ap is_some c.allowed.ensures in
    rw (← c.self.view_is) (
      (λ some. (passed-found _ c.args.entry.now.statement (sym found ∙ some), sym c.is_change.ensures ∙ c.if-is_change.true)),
      (λ both. found ∙ found-passed _ c.args.entry.now.statement both.0),
    )
