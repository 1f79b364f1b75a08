use Rattle.std.proofs.Common.{◌≡◌, ◌∙◌, sym, refl, rules, List}
use Rattle.base_core.specs.declared.name.Name.{Name}
use Rattle.base_core.specs.declared.name.User.{User}
use Rattle.base_core.specs.declared.condition.Condition.{Condition}
use Rattle.reader_core.specs.declared.statement.Statement.TheVariants as statements
use Rattle.monitor_core.specs.Verdict.{State, Check, checks}
use Rattle.monitor_core.proofs.Checking.{failure_told, last_told, told-Ok}
use Rattle.monitor_core.proofs.judging.Judge.delete.Goals as goal

abbrev all : (s : State) (user : User) (table : Name) (filter : List Condition) → List Check
all s user table filter = checks s user (statements.Delete table filter)

pub returns-in_err-columns_take : goal.returns-in_err-columns_take
returns-in_err-columns_take g c =
    let same : c.from_residual-in_err-columns_take.result ≡ c.columns_take.result = search rules in
    same ∙ c.columns_take.ensures ∙ sym (failure_told 4 (all c.args.self.now c.args.user.now c.args.table c.args.filter.now) _ (told-Ok c.columns.result _ _ c.columns.ensures.stands c.in_ok-columns.was, (sym c.columns_stand.ensures ∙ c.in_ok-columns_stand.was, (sym c.may.ensures ∙ c.in_ok-may.was, (sym c.may_filter.ensures ∙ c.in_ok-may_filter.was, tt)))) (sym c.columns_take.ensures ∙ c.in_err-columns_take.was))

pub returns : goal.returns
returns g c = c.room_for_change.ensures ∙ sym (last_told 5 (all c.args.self.now c.args.user.now c.args.table c.args.filter.now) (told-Ok c.columns.result _ _ c.columns.ensures.stands c.in_ok-columns.was, (sym c.columns_stand.ensures ∙ c.in_ok-columns_stand.was, (sym c.may.ensures ∙ c.in_ok-may.was, (sym c.may_filter.ensures ∙ c.in_ok-may_filter.was, (sym c.columns_take.ensures ∙ c.in_ok-columns_take.was, tt))))) refl)
